-- Tidied lines leave to the outside what it derives loosely.
use Rattle.std.proofs.Common.{◌≡◌, inl, List, map, Contains, Bool, true, false, cond, refl, subst}
use Rattle.rt_lines.specs.declared.variable.Base.{Base}
use Rattle.rt_lines.specs.declared.line.Line.{Line}
use Rattle.rt_lines.specs.declared.line.Line.TheVariants.{Var, Same, Sub, Low, Up}
use Rattle.rt_lines.specs.Orders.{Below}
use Rattle.rt_lines.specs.Equality.{variable_eq}
use Rattle.rt_lines.proofs.Equal.{variable_equal}
use Rattle.rt_loose.specs.Loose.{Loosely}
use Rattle.rt_loose.specs.Loose.Loosely.{left_side, same_self, sub_self}
use Rattle.rt_marks.specs.Outsides.{LooselyAlike}
use Rattle.rt_base.proofs.Lists.{Contains-map, Contains-map_source}
use Rattle.rt_marks.proofs.Carrying.{given, side}
use Rattle.rt_marks.proofs.Covering.{exchange, loosely-trans}
use Rattle.rt_lines.specs.Numbering.{deduplicated}
use Rattle.rt_lines.proofs.Deduplicating.{deduplicated-has, deduplicated-source}
use Rattle.rt_marks.specs.Laws.{DeduplicationLaw}
use Rattle.rt_polar.specs.Tidied.{without_self, tidied}

module _ (order : Below) (lines : List Line) where
  -- where the line is derived, so is the line without a variable beside itself
  without : (l : Line) → Loosely order lines l → Loosely order lines (without_self l)
  without (Var x) d = d
  without (Same x y) d = by (variable_eq x y)
    where
      by : (t : Bool) → Loosely order lines (cond t (Var x) (Same x y))
      by true = side order lines (Same x y) x d (inl refl)
      by false = d
  without (Sub x y) d = by (variable_eq x y)
    where
      by : (t : Bool) → Loosely order lines (cond t (Var x) (Sub x y))
      by true = left_side d
      by false = d
  without (Low k x) d = d
  without (Up x k) d = d

  -- and back
  with_self : (l : Line) → Loosely order lines (without_self l) → Loosely order lines l
  with_self (Var x) d = d
  with_self (Same x y) d = by (variable_eq x y) refl d
    where
      by : (t : Bool) → variable_eq x y ≡ t → Loosely order lines (cond t (Var x) (Same x y)) → Loosely order lines (Same x y)
      by true e d = subst (λ v. Loosely order lines (Same x v)) (variable_equal x y e) (same_self d)
      by false e d = d
  with_self (Sub x y) d = by (variable_eq x y) refl d
    where
      by : (t : Bool) → variable_eq x y ≡ t → Loosely order lines (cond t (Var x) (Sub x y)) → Loosely order lines (Sub x y)
      by true e d = subst (λ v. Loosely order lines (Sub x v)) (variable_equal x y e) (sub_self d)
      by false e d = d
  with_self (Low k x) d = d
  with_self (Up x k) d = d

alike_without_self : (order : Below) (inside : Base → Bool) (lines : List Line) → LooselyAlike order inside lines (map without_self lines)
alike_without_self order inside lines =
    exchange order inside lines (map without_self lines)
    (λ l c. with_self order (map without_self lines) l (given order (map without_self lines) (without_self l) (Contains-map without_self lines l c)))
    (λ k c. by k (Contains-map_source without_self lines k c))
  where
    by : (k : Line) → (l : Line) × Contains lines l × (without_self l ≡ k) → Loosely order lines k
    by k (l, c, e) = subst (Loosely order lines) e (without order lines l (given order lines l c))

pub deduplication_lem : DeduplicationLaw
deduplication_lem order inside lines =
    exchange order inside lines (deduplicated lines)
    (λ l c. given order (deduplicated lines) l (deduplicated-has lines l c))
    (λ l c. given order lines l (deduplicated-source lines l c))

pub alike_tidied : (order : Below) (inside : Base → Bool) (lines : List Line) → LooselyAlike order inside lines (tidied lines)
alike_tidied order inside lines =
    loosely-trans order inside lines (map without_self lines) (tidied lines) (alike_without_self order inside lines) (deduplication_lem order inside (map without_self lines))
