-- Existentials numbered in order.
use Rattle.std.proofs.Common.{◌≡◌, ℕ, suc, ◌+◌, ◌⊎◌, inl, inr, Bool, true, false, not, cond, nat_eq, List, [], ◌∷◌, ◌++◌, get_or, All, Contains, refl, sym, ap, subst, ◌∙◌, true≢false, eq-eqb, arith}
use Rattle.std.specs.List.{position_or_len, flat_map}
use Rattle.std.proofs.lemmas.List.Elements.{Contains-append_left, Contains-append_right, All-contains}
use Rattle.std.proofs.lemmas.Bool.{eqb-true}
use Rattle.rt_base.proofs.Lists.{Contains-none, Contains-cons_cases, Contains-map_source, All-from_contains, Contains-flat_map, position_or_len-one_to_one}
use Rattle.rt_lines.specs.declared.variable.Base.{Base}
use Rattle.rt_lines.specs.declared.variable.Base.TheVariants.{Proc, Global, Exist, Outer}
use Rattle.rt_lines.specs.declared.variable.Dtv.{Dtv}
use Rattle.rt_lines.specs.declared.line.Line.{Line}
use Rattle.rt_lines.specs.declared.line.Line.TheVariants.{Var, Same, Sub, Low, Up}
use Rattle.rt_lines.specs.Lines.{HasConstantsBelow}
use Rattle.rt_rules.specs.Rules.{HasSide}
use Rattle.rt_lines.specs.Sides.{map_line, renamed, sides}
use Rattle.rt_lines.proofs.LineSides.{HasConstantsBelow-map_line}
use Rattle.rt_rules.proofs.LineSides.{Contains-sides, HasSide-map_line_source}
use Rattle.rt_rules.specs.Laws.{NamesBase, IsRenaming, NumberingLaw}
use Rattle.rt_rules.proofs.Renaming.{renaming_lem}
use Rattle.rt_lines.specs.Numbering.{existential_of, existentials_of, existentials, placed, numbered}
use Rattle.rt_lines.proofs.Distinct.{inserted-has}

-- Every existential that the lines name has a place.

named-has_place : (lines : List Line) (n : ℕ) → NamesBase lines (Exist n) → Contains (existentials lines) n
named-has_place lines n (l, x, c, h, e) =
    inserted-has nat_eq eqb-true (flat_map existentials_of lines) [] n
    (Contains-flat_map existentials_of lines l n c
    (Contains-flat_map (λ y. existential_of y.base) (sides l) x n (Contains-sides l x h) (subst (λ b. Contains (existential_of b) n) (sym e) (0, omega arith, refl))))

exist_of : (m n : ℕ) → Exist m ≡ Exist n → m ≡ n
exist_of m n e = cc

pub placed-one_to_one : (lines : List Line) (a b : Base) → NamesBase lines a → NamesBase lines b → placed (existentials lines) a ≡ placed (existentials lines) b → a ≡ b
placed-one_to_one lines (Proc m) (Proc n) h k e = e
placed-one_to_one lines (Proc m) (Global n) h k e = cc
placed-one_to_one lines (Proc m) (Exist n) h k e = cc
placed-one_to_one lines (Proc m) (Outer n) h k e = cc
placed-one_to_one lines (Global m) (Proc n) h k e = cc
placed-one_to_one lines (Global m) (Global n) h k e = e
placed-one_to_one lines (Global m) (Exist n) h k e = cc
placed-one_to_one lines (Global m) (Outer n) h k e = cc
placed-one_to_one lines (Exist m) (Proc n) h k e = cc
placed-one_to_one lines (Exist m) (Global n) h k e = cc
placed-one_to_one lines (Exist m) (Exist n) h k e = ap Exist (position_or_len-one_to_one nat_eq eqb-true (λ k. eq-eqb k k refl) (existentials lines) m n (named-has_place lines m h) (named-has_place lines n k) (exist_of _ _ e))
placed-one_to_one lines (Exist m) (Outer n) h k e = cc
placed-one_to_one lines (Outer m) (Proc n) h k e = cc
placed-one_to_one lines (Outer m) (Global n) h k e = cc
placed-one_to_one lines (Outer m) (Exist n) h k e = cc
placed-one_to_one lines (Outer m) (Outer n) h k e = e

module _ (inside : Base → Bool) (exists : (n : ℕ) → inside (Exist n) ≡ true) (lines : List Line) where
  outside_stays : (b : Base) → inside b ≡ false → placed (existentials lines) b ≡ b
  outside_stays (Proc n) e = refl
  outside_stays (Global n) e = refl
  outside_stays (Exist n) e = absurd (true≢false (sym (exists n) ∙ e))
  outside_stays (Outer n) e = refl

  inside_stays : (b : Base) → inside b ≡ true → inside (placed (existentials lines) b) ≡ true
  inside_stays (Proc n) e = e
  inside_stays (Global n) e = e
  inside_stays (Exist n) e = exists (position_or_len (nat_eq n) (existentials lines))
  inside_stays (Outer n) e = e

  placed-is_renaming : IsRenaming inside (placed (existentials lines)) lines
  placed-is_renaming = record { outside_stays = outside_stays; inside_stays = inside_stays; one_to_one = placed-one_to_one lines }

pub numbering_lem : NumberingLaw
numbering_lem order inside lines exists = renaming_lem order inside (placed (existentials lines)) lines (placed-is_renaming inside exists lines)

-- What numbering keeps.

-- the constants of numbered lines are those of the lines
pub numbered-constants : (count : ℕ) (lines : List Line) → All (HasConstantsBelow count) lines → All (HasConstantsBelow count) (numbered lines)
numbered-constants count lines h = All-from_contains (HasConstantsBelow count) (numbered lines) (λ l c. by l (Contains-map_source (map_line (renamed (placed (existentials lines)))) lines l c))
  where
    by : (l : Line) → (k : Line) × Contains lines k × (map_line (renamed (placed (existentials lines))) k ≡ l) → HasConstantsBelow count l
    by l (k, c, e) = subst (HasConstantsBelow count) e (HasConstantsBelow-map_line count (renamed (placed (existentials lines))) k (All-contains (HasConstantsBelow count) lines k h c))

placed_source : (order : List ℕ) (a b : Base) → placed order a ≡ b → (a ≡ b) ⊎ ((n : ℕ) × (b ≡ Exist n))
placed_source order (Proc n) b e = inl e
placed_source order (Global n) b e = inl e
placed_source order (Exist n) b e = inr (position_or_len (nat_eq n) order, sym e)
placed_source order (Outer n) b e = inl e

-- a base that numbered lines name is one that the lines name, or an existential
pub numbered-bases : (lines : List Line) (b : Base) → NamesBase (numbered lines) b → NamesBase lines b ⊎ ((n : ℕ) × (b ≡ Exist n))
numbered-bases lines b (l, x, c, h, e) = by_line (Contains-map_source (map_line (renamed (placed (existentials lines)))) lines l c)
  where
    by_base : (k : Line) (y : Dtv) → Contains lines k → HasSide k y → (y.base ≡ b) ⊎ ((n : ℕ) × (b ≡ Exist n)) → NamesBase lines b ⊎ ((n : ℕ) × (b ≡ Exist n))
    by_base k y d g (inl f) = inl (k, y, d, g, f)
    by_base k y d g (inr f) = inr f

    by_side : (k : Line) → Contains lines k → (y : Dtv) × HasSide k y × (renamed (placed (existentials lines)) y ≡ x) → NamesBase lines b ⊎ ((n : ℕ) × (b ≡ Exist n))
    by_side k d (y, g, f) = by_base k y d g (placed_source (existentials lines) y.base b ((λ i. (f i).base) ∙ e))

    by_line : (k : Line) × Contains lines k × (map_line (renamed (placed (existentials lines))) k ≡ l) → NamesBase lines b ⊎ ((n : ℕ) × (b ≡ Exist n))
    by_line (k, d, f) = by_side k d (HasSide-map_line_source (renamed (placed (existentials lines))) k x (subst (λ m. HasSide m x) (sym f) h))
