-- What ways tell of a bound.
use Rattle.std.proofs.Common.{◌≡◌, ℕ, ◌<◌, List, [], ◌∷◌, All, refl, sym, subst}
use Rattle.std.specs.Prelude.{◌↔◌}
use Rattle.rt_base.proofs.Lists.{Contains-there}
use Rattle.rt_lines.specs.declared.variable.Dtv.{Dtv}
use Rattle.rt_lines.specs.declared.line.Line.{Line}
use Rattle.rt_lines.specs.declared.line.Line.TheVariants.{Var, Low, Up}
use Rattle.rt_lines.specs.Lines.{HasConstantsBelow}
use Rattle.rt_lines.specs.Orders.{Below}
use Rattle.rt_lines.specs.OrderFacts.{IsOrder}
use Rattle.rt_rules.specs.Rules.{Derivable}
use Rattle.rt_rules.proofs.Carry.{are_there, given}
use Rattle.rt_rules.proofs.Covering.{derives_more}
use Rattle.rt_outline.specs.declared.led.Led.TheVariants.{No}
use Rattle.rt_outline.specs.Lines.{HasBelow, Lined}
use Rattle.rt_reduce.specs.Inside.Deciding.{AreAbove, AreBelow, IsWaysFor}
use Rattle.rt_reduce.proofs.Opening.{low_seen, up_seen}
use Rattle.rt_reduce.proofs.Telling.{low_tells, up_tells}
use Rattle.rt_reduce.proofs.Unbounded.{low_below, up_below}

-- what the lines left derive, the lines of ways derive
led_more : (order : Below) (left : List Line) (bound : Line) (ways : Lined) → IsWaysFor order (bound ∷ left) ways → (other : Below)
    (from to : List Dtv) → HasBelow other left from to → HasBelow other ways.lines from to
led_more order left bound ways are other from to (x, y, c, d, below) = (
  x,
  y,
  c,
  d,
  derives_more other left ways.lines (λ m h. given other ways.lines m (are.among m (Contains-there bound left m h))) below,
)

module _ (order : Below) (left : List Line) (is : IsOrder order) (few : All (HasConstantsBelow order.count) left) (k : ℕ) (x : Dtv)
    (ways : Lined) where
  module _ (are : IsWaysFor order (Low k x ∷ left) ways) (from to : List Dtv) (above : AreAbove order left k from) (one : to ≡ x ∷ []) where
    pub low_led : ((other : Below) → Derivable other left (Var x)) → ((other : Below) → HasBelow other ways.lines from to) →
        Derivable order left (Low k x)
    low_led there led =
        low_seen order left is few k x from to above one (low_below order left k x there ways are.inner from to (led order))

    pub low_not_led : ((other : Below) → HasBelow other ways.lines from to → ⊥) → Derivable order left (Low k x) → ⊥
    low_not_led none =
        (low_tells order left is few k x from above left No refl
        (λ e other h. none other (led_more order left (Low k x) ways are other from to (subst (HasBelow other left from) (sym one) h)))
        (λ e. absurd (cc))).no refl

  module _ (less : k < order.count) (are : IsWaysFor order (Up x k ∷ left) ways) (from to : List Dtv) (below : AreBelow order left k to)
      (one : from ≡ x ∷ []) where
    pub up_led : ((other : Below) → Derivable other left (Var x)) → ((other : Below) → HasBelow other ways.lines from to) →
        Derivable order left (Up x k)
    up_led there led =
        up_seen order left is few k x less from to below one (up_below order left k x there ways are.inner from to (led order))

    pub up_not_led : ((other : Below) → HasBelow other ways.lines from to → ⊥) → Derivable order left (Up x k) → ⊥
    up_not_led none =
        (up_tells order left is few k x less to below left No refl
        (λ e other h. none other
        (led_more order left (Up x k) ways are other from to (subst (λ xs. HasBelow other left xs to) (sym one) h)))
        (λ e. absurd (cc))).no refl

-- a bound that ways lead to is derivable exactly if its variable exists
pub low_there : (order : Below) (left : List Line) (k : ℕ) (x : Dtv) (P : Type 0) →
    ((other : Below) → P ↔ Derivable other left (Var x)) →
    (((other : Below) → Derivable other left (Var x)) → Derivable order left (Low k x)) → P ↔ Derivable order left (Low k x)
low_there order left k x P there derives =
    ((λ p. derives (λ other. (there other).0 p)), (λ d. (there order).1 (are_there order left d)))

pub up_there : (order : Below) (left : List Line) (k : ℕ) (x : Dtv) (P : Type 0) →
    ((other : Below) → P ↔ Derivable other left (Var x)) →
    (((other : Below) → Derivable other left (Var x)) → Derivable order left (Up x k)) → P ↔ Derivable order left (Up x k)
up_there order left k x P there derives =
    ((λ p. derives (λ other. (there other).0 p)), (λ d. (there order).1 (are_there order left d)))
