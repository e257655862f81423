-- Existentials that are used alike and become one: one list, alike, of the same sides, and an existential is lost or nothing changes.
use Rattle.std.proofs.Common.{◌≡◌, ℕ, ◌⊎◌, inl, inr, List, [], ◌∷◌, Contains, Bool, true, refl, sym, ap, subst, ◌∙◌}
use Rattle.rt_base.proofs.Lists.{Contains-here, Contains-there}
use Rattle.rt_lines.specs.declared.variable.Base.{Base}
use Rattle.rt_lines.specs.declared.variable.Base.TheVariants.{Proc, Global, Exist, Outer}
use Rattle.rt_lines.specs.declared.variable.Dtv.{Dtv}
use Rattle.rt_lines.specs.declared.line.Line.{Line}
use Rattle.rt_lines.specs.declared.line.Line.TheVariants.{Var, Same, Sub, Low, Up}
use Rattle.rt_lines.specs.Orders.{Below}
use Rattle.rt_rules.specs.Rules.{HasSide}
use Rattle.rt_rules.specs.Alike.{Alike, map_line}
use Rattle.rt_rules.specs.Laws.{NamesBase}
use Rattle.rt_rules.proofs.Covering.{Alike-trans}
use Rattle.rt_rules.proofs.Renaming.{one_base}
use Rattle.rt_refine.specs.Refinements.{moved, move, refined}
use Rattle.rt_refine.proofs.Refining.{refined_alike_lem}
use Rattle.rt_refine.proofs.OneCoarsest.{one_refined_lem, refined_names_lem, refined_least_lem}
use Rattle.rt_polar.specs.Tidied.{tidied}
use Rattle.rt_polar.proofs.AlikeTidied.{Alike-tidied}
use Rattle.rt_reduction.specs.Rounds.{Refines}
use Rattle.rt_reduction.proofs.FromSides.{AreFrom, from_chain, from_classes, from_tidied}
use Rattle.rt_reduction.proofs.NamesFrom.{NamesFrom, Loses, named_from, names_chain, names_tidied}

-- one list is left
pub one_refines : (lines left other : List Line) → Refines lines left → Refines lines other → left ≡ other
one_refines lines left other (class, c, e) (class', d, f) = e ∙ ap tidied (one_refined_lem lines class class' c d) ∙ sym f

-- where every existential is inside, the outside can derive the same
pub refines_alike : (order : Below) (inside : Base → Bool) (lines left : List Line) → ((n : ℕ) → inside (Exist n) ≡ true) →
    Refines lines left → Alike order inside lines left
refines_alike order inside lines left inner (class, c, e) =
    subst (Alike order inside lines) (sym e)
    (Alike-trans order inside lines (refined class lines) (tidied (refined class lines))
    (refined_alike_lem order inside lines class inner c.refines)
    (Alike-tidied order inside (refined class lines)))

-- sides come from sides
pub from_refines : (lines left : List Line) → Refines lines left → AreFrom lines left
from_refines lines left (class, c, e) =
    subst (AreFrom lines) (sym e)
    (from_chain lines (refined class lines) (tidied (refined class lines)) (from_classes lines class) (from_tidied (refined class lines)))

-- no base is named anew
pub names_refines : (lines left : List Line) → Refines lines left → NamesFrom lines left
names_refines lines left (class, c, e) =
    subst (NamesFrom lines) (sym e)
    (names_chain lines (refined class lines) (tidied (refined class lines))
    (λ x (l, d, h). refined_names_lem lines class x.base c.refines (l, x, d, h, refl)) (names_tidied (refined class lines)))

-- an existential of the variable, the line, or one of the lines, is of another's class
abbrev pub IsMoved : (ℕ → ℕ) → Dtv → Type 0
IsMoved class x = (n : ℕ) × (x.base ≡ Exist n) × (class n ≡ n → ⊥)

abbrev pub HasMoved : (ℕ → ℕ) → Line → Type 0
HasMoved class l = (x : Dtv) × HasSide l x × IsMoved class x

abbrev pub HaveMoved : (ℕ → ℕ) → List Line → Type 0
HaveMoved class lines = (l : Line) × Contains lines l × HasMoved class l

-- or none is, and nothing changes
base_moves : (class : ℕ → ℕ) (b : Base) → (moved class b ≡ b) ⊎ ((n : ℕ) × (b ≡ Exist n) × (class n ≡ n → ⊥))
base_moves class (Proc n) = inl refl
base_moves class (Global n) = inl refl
base_moves class (Outer n) = inl refl
base_moves class (Exist n) = by (one_base (Exist (class n)) (Exist n))
  where
    by : (Exist (class n) ≡ Exist n) ⊎ (Exist (class n) ≡ Exist n → ⊥) →
        (Exist (class n) ≡ Exist n) ⊎ ((m : ℕ) × (Exist n ≡ Exist m) × (class m ≡ m → ⊥))
    by (inl e) = inl e
    by (inr apart) = inr (n, refl, λ e. apart (ap Exist e))

variable_moves : (class : ℕ → ℕ) (x : Dtv) → (move class x ≡ x) ⊎ IsMoved class x
variable_moves class x = by (base_moves class x.base)
  where
    by : (moved class x.base ≡ x.base) ⊎ IsMoved class x → (move class x ≡ x) ⊎ IsMoved class x
    by (inl e) = inl (λ i. record { base = e i; word = x.word })
    by (inr m) = inr m

line_moves : (class : ℕ → ℕ) (l : Line) → (map_line (move class) l ≡ l) ⊎ HasMoved class l
line_moves class (Var x) = by (variable_moves class x)
  where
    by : (move class x ≡ x) ⊎ IsMoved class x → (map_line (move class) (Var x) ≡ Var x) ⊎ HasMoved class (Var x)
    by (inl e) = inl (ap Var e)
    by (inr m) = inr (x, refl, m)
line_moves class (Low k x) = by (variable_moves class x)
  where
    by : (move class x ≡ x) ⊎ IsMoved class x → (map_line (move class) (Low k x) ≡ Low k x) ⊎ HasMoved class (Low k x)
    by (inl e) = inl (ap (Low k) e)
    by (inr m) = inr (x, refl, m)
line_moves class (Up x k) = by (variable_moves class x)
  where
    by : (move class x ≡ x) ⊎ IsMoved class x → (map_line (move class) (Up x k) ≡ Up x k) ⊎ HasMoved class (Up x k)
    by (inl e) = inl (ap (λ y. Up y k) e)
    by (inr m) = inr (x, refl, m)
line_moves class (Same x y) = by (variable_moves class x) (variable_moves class y)
  where
    by : (move class x ≡ x) ⊎ IsMoved class x → (move class y ≡ y) ⊎ IsMoved class y →
        (map_line (move class) (Same x y) ≡ Same x y) ⊎ HasMoved class (Same x y)
    by (inl e) (inl f) = inl (λ i. Same (e i) (f i))
    by (inl e) (inr m) = inr (y, inr refl, m)
    by (inr m) o = inr (x, inl refl, m)
line_moves class (Sub x y) = by (variable_moves class x) (variable_moves class y)
  where
    by : (move class x ≡ x) ⊎ IsMoved class x → (move class y ≡ y) ⊎ IsMoved class y →
        (map_line (move class) (Sub x y) ≡ Sub x y) ⊎ HasMoved class (Sub x y)
    by (inl e) (inl f) = inl (λ i. Sub (e i) (f i))
    by (inl e) (inr m) = inr (y, inr refl, m)
    by (inr m) o = inr (x, inl refl, m)

pub lines_move : (class : ℕ → ℕ) (lines : List Line) → (refined class lines ≡ lines) ⊎ HaveMoved class lines
lines_move class [] = inl refl
lines_move class (l ∷ lines) = by (line_moves class l) (lines_move class lines)
  where
    by : (map_line (move class) l ≡ l) ⊎ HasMoved class l → (refined class lines ≡ lines) ⊎ HaveMoved class lines →
        (refined class (l ∷ lines) ≡ l ∷ lines) ⊎ HaveMoved class (l ∷ lines)
    by (inl e) (inl f) = inl (λ i. e i ∷ f i)
    by (inl e) (inr (k, c, m)) = inr (k, Contains-there l lines k c, m)
    by (inr m) o = inr (l, Contains-here l lines, m)

-- of tidied lines, either nothing changes, or an existential is lost
pub refines_lose : (lines left : List Line) → tidied lines ≡ lines → Refines lines left → (lines ≡ left) ⊎ Loses lines left
refines_lose lines left same (class, c, e) = by (lines_move class lines)
  where
    gone : (n : ℕ) → (class n ≡ n → ⊥) → NamesBase (tidied (refined class lines)) (Exist n) → ⊥
    gone n apart names = apart (refined_least_lem lines class n c.refines
        (named_from (refined class lines) (tidied (refined class lines)) (names_tidied (refined class lines)) (Exist n) names))

    by : (refined class lines ≡ lines) ⊎ HaveMoved class lines → (lines ≡ left) ⊎ Loses lines left
    by (inl f) = inl (sym (e ∙ ap tidied f ∙ same))
    by (inr (l, d, (x, h, (n, f, apart)))) = inr (n, (l, x, d, h, f), λ names. gone n apart (subst (λ ls. NamesBase ls (Exist n)) e names))
