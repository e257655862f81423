-- One variable in the place of one existential: putting many, where one alone has a place.
use Rattle.std.proofs.Common.{◌≡◌, ℕ, List, map, Option, Some, None, Bool, true, false, cond, nat_eq, refl, ap, subst, ◌∙◌}
use Rattle.std.proofs.lemmas.Bool.{eqb-true}
use Rattle.rt_lines.specs.declared.label.Label.{Label}
use Rattle.rt_lines.specs.declared.label.Variance.{Variance}
use Rattle.rt_lines.specs.declared.variable.Base.{Base}
use Rattle.rt_lines.specs.declared.variable.Base.TheVariants.{Proc, Global, Exist, Outer}
use Rattle.rt_lines.specs.declared.variable.Dtv.{Dtv}
use Rattle.rt_lines.specs.declared.line.Line.{Line}
use Rattle.rt_lines.specs.Orders.{Below}
use Rattle.rt_rules.specs.Rules.{extended}
use Rattle.rt_rules.specs.Alike.{map_line}
use Rattle.rt_marks.specs.Outsides.{LooselyAlike}
use Rattle.rt_rules.specs.Put.{put_at, put_lines, put_found, put_each_at, put_each, IsOnlyUse}
use Rattle.rt_marks.specs.Laws.{SubstitutionLaw}
use Rattle.rt_marks.proofs.Putting.{alike_put_each}

-- the places where z alone is in the place of n
abbrev only_place : ℕ → Dtv → ℕ → Option Dtv
only_place n z m = cond (nat_eq m n) (Some z) None

put_found-cond : (b : Bool) (z : Dtv) (base : Base) (w : List Label) → put_found (cond b (Some z) None) base w ≡ cond b (extended z w) (record { base = base; word = w })
put_found-cond true z base w = refl
put_found-cond false z base w = refl

put_each_at-only : (n : ℕ) (z : Dtv) (b : Base) (w : List Label) → put_each_at (only_place n z) b w ≡ put_at n z b w
put_each_at-only n z (Exist m) w = put_found-cond (nat_eq m n) z (Exist m) w
put_each_at-only n z (Proc m) w = refl
put_each_at-only n z (Global m) w = refl
put_each_at-only n z (Outer m) w = refl

map-put_each : (n : ℕ) (z : Dtv) (lines : List Line) → map (map_line (put_each (only_place n z))) lines ≡ put_lines n z lines
map-put_each n z lines = λ i. map (map_line (λ x. put_each_at-only n z x.base x.word i)) lines

-- what has a place is n, and z is in it
place_cases : (b : Bool) (z y : Dtv) → cond b (Some z) None ≡ Some y → (b ≡ true) × (z ≡ y)
place_cases true z y e = (refl, cc)
place_cases false z y e = cc

no_place : (b : Bool) (z : Dtv) → (b ≡ true → ⊥) → cond b (Some z) None ≡ None
no_place true z h = absurd (h refl)
no_place false z h = refl

module _ (order : Below) (inside : Base → Bool) (lines : List Line) (sign : Variance) (n : ℕ) (z : Dtv) (inner : inside (Exist n) ≡ true) (only : IsOnlyUse sign n z lines) where
  only_each : (m : ℕ) (y : Dtv) → (nat_eq m n ≡ true) × (z ≡ y) → IsOnlyUse sign m y lines
  only_each m y (e, f) = let k : m ≡ n = eqb-true m n e in rw (k, ← f) only

  apart : (m : ℕ) (y : Dtv) (k : ℕ) → (nat_eq m n ≡ true) × (z ≡ y) → y.base ≡ Exist k → only_place n z k ≡ None
  apart m y k (e, f) g =
      no_place (nat_eq k n) z (λ t. let same : k ≡ n = eqb-true k n t in let h : z.base ≡ Exist n = ap (λ v. v.base) f ∙ g ∙ ap Exist same in only.other_base h)

  inner_each : (m : ℕ) (y : Dtv) → (nat_eq m n ≡ true) × (z ≡ y) → inside (Exist m) ≡ true
  inner_each m y (e, f) = let k : m ≡ n = eqb-true m n e in rw k inner

  alike_put_lines : LooselyAlike order inside lines (put_lines n z lines)
  alike_put_lines =
      subst (LooselyAlike order inside lines) (map-put_each n z lines)
      (alike_put_each order inside lines (λ m. sign) (only_place n z)
      (λ m y e. only_each m y (place_cases (nat_eq m n) z y e))
      (λ m y k e g. apart m y k (place_cases (nat_eq m n) z y e) g)
      (λ m y e. inner_each m y (place_cases (nat_eq m n) z y e)))

pub substitution_lem : SubstitutionLaw
substitution_lem order inside lines sign n z inner only = alike_put_lines order inside lines sign n z inner only
