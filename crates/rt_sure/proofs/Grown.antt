-- Lists that grow by a line.
use Rattle.std.proofs.Common.{◌≡◌, ◌⊎◌, ℕ, inl, inr, List, [], ◌∷◌, ◌++◌, All, Contains, subst}
use Rattle.std.proofs.lemmas.List.Elements.{All-contains, Contains-push_cases}
use Rattle.rt_base.proofs.Lists.{All-from_contains, Contains-none}
use Rattle.rt_lines.specs.declared.line.Line.{Line}
use Rattle.rt_lines.specs.Lines.{HasConstantsBelow}
use Rattle.rt_lines.specs.Orders.{Below}
use Rattle.rt_rules.specs.Rules.{Derivable}
use Rattle.rt_sure.specs.Fates.{DerivesAll}
use Rattle.rt_sure.specs.Inside.Shapes.{IsSubtype}

pub derives_none : (order : Below) (lines short : List Line) → short ≡ [] → DerivesAll order lines short
derives_none order lines short e m c = absurd (Contains-none m (subst (λ ls. Contains ls m) e c))

pub derives_push : (order : Below) (lines short new : List Line) (l : Line) → new ≡ short ++ l ∷ [] → Derivable order lines l →
    DerivesAll order lines short → DerivesAll order lines new
derives_push order lines short new l is d all m c = by (Contains-push_cases short l m (subst (λ ls. Contains ls m) is c))
  where
    by : Contains short m ⊎ (l ≡ m) → Derivable order lines m
    by (inl old) = all m old
    by (inr e) = subst (Derivable order lines) e d

pub below_none : (count : ℕ) (short : List Line) → short ≡ [] → All (HasConstantsBelow count) short
below_none count short e =
    All-from_contains (HasConstantsBelow count) short (λ m c. absurd (Contains-none m (subst (λ ls. Contains ls m) e c)))

pub below_push : (count : ℕ) (short new : List Line) (l : Line) → new ≡ short ++ l ∷ [] → HasConstantsBelow count l →
    All (HasConstantsBelow count) short → All (HasConstantsBelow count) new
below_push count short new l is h all =
    All-from_contains (HasConstantsBelow count) new (λ m c. by m (Contains-push_cases short l m (subst (λ ls. Contains ls m) is c)))
  where
    by : (m : Line) → Contains short m ⊎ (l ≡ m) → HasConstantsBelow count m
    by m (inl old) = All-contains (HasConstantsBelow count) short m all old
    by m (inr e) = subst (HasConstantsBelow count) e h

pub subtype_below : (count : ℕ) (l : Line) → IsSubtype l → HasConstantsBelow count l
subtype_below count l (x, y, e) = rw e tt
