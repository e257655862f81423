-- Tidied lines tell the outside the same.
use Rattle.std.proofs.Common.{◌≡◌, inl, List, map, Contains, Bool, true, false, cond, refl, subst}
use Rattle.rt_lines.specs.declared.variable.Base.{Base}
use Rattle.rt_lines.specs.declared.line.Line.{Line}
use Rattle.rt_lines.specs.declared.line.Line.TheVariants.{Var, Same, Sub, Low, Up}
use Rattle.rt_lines.specs.Orders.{Below}
use Rattle.rt_lines.specs.Equality.{variable_eq}
use Rattle.rt_lines.proofs.Equal.{variable_equal}
use Rattle.rt_rules.specs.Rules.{Derivable}
use Rattle.rt_rules.specs.Rules.Derivable.{left_side, same_self, sub_self}
use Rattle.rt_rules.specs.Alike.{Alike}
use Rattle.rt_rules.proofs.Lists.{Contains-map, Contains-map_source}
use Rattle.rt_rules.proofs.Carry.{given, side}
use Rattle.rt_rules.proofs.Covering.{exchange, Alike-trans}
use Rattle.rt_rules.proofs.Deduplicating.{deduplication_lem}
use Rattle.rt_polar.specs.Tidied.{without_self, tidied}

module _ (order : Below) (lines : List Line) where
  -- where the line is derived, so is the line without a variable beside itself
  without : (l : Line) → Derivable order lines l → Derivable order lines (without_self l)
  without (Var x) d = d
  without (Same x y) d = by (variable_eq x y)
    where
      by : (t : Bool) → Derivable order lines (cond t (Var x) (Same x y))
      by true = side order lines (Same x y) x d (inl refl)
      by false = d
  without (Sub x y) d = by (variable_eq x y)
    where
      by : (t : Bool) → Derivable order lines (cond t (Var x) (Sub x y))
      by true = left_side d
      by false = d
  without (Low k x) d = d
  without (Up x k) d = d

  -- and back
  with_self : (l : Line) → Derivable order lines (without_self l) → Derivable order lines l
  with_self (Var x) d = d
  with_self (Same x y) d = by (variable_eq x y) refl d
    where
      by : (t : Bool) → variable_eq x y ≡ t → Derivable order lines (cond t (Var x) (Same x y)) → Derivable order lines (Same x y)
      by true e d = subst (λ v. Derivable order lines (Same x v)) (variable_equal x y e) (same_self d)
      by false e d = d
  with_self (Sub x y) d = by (variable_eq x y) refl d
    where
      by : (t : Bool) → variable_eq x y ≡ t → Derivable order lines (cond t (Var x) (Sub x y)) → Derivable order lines (Sub x y)
      by true e d = subst (λ v. Derivable order lines (Sub x v)) (variable_equal x y e) (sub_self d)
      by false e d = d
  with_self (Low k x) d = d
  with_self (Up x k) d = d

Alike-without_self : (order : Below) (inside : Base → Bool) (lines : List Line) → Alike order inside lines (map without_self lines)
Alike-without_self order inside lines =
    exchange order inside lines (map without_self lines)
    (λ l c. with_self order (map without_self lines) l (given order (map without_self lines) (without_self l) (Contains-map without_self lines l c)))
    (λ k c. by k (Contains-map_source without_self lines k c))
  where
    by : (k : Line) → (l : Line) × Contains lines l × (without_self l ≡ k) → Derivable order lines k
    by k (l, c, e) = subst (Derivable order lines) e (without order lines l (given order lines l c))

pub Alike-tidied : (order : Below) (inside : Base → Bool) (lines : List Line) → Alike order inside lines (tidied lines)
Alike-tidied order inside lines =
    Alike-trans order inside lines (map without_self lines) (tidied lines) (Alike-without_self order inside lines) (deduplication_lem order inside (map without_self lines))
