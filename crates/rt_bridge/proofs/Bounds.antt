-- A bound is derivable exactly if a line's bound reaches it.
use Rattle.std.proofs.Common.{◌≡◌, ℕ, ◌<◌, inl, inr, List, All, Contains, refl, arith}
use Rattle.std.proofs.lemmas.List.Elements.{All-contains}
use Rattle.rt_lines.specs.declared.line.Line.{Line}
use Rattle.rt_lines.specs.declared.line.Line.TheVariants.{Low, Up}
use Rattle.rt_lines.specs.declared.variable.Dtv.{Dtv}
use Rattle.rt_lines.specs.Lines.{HasConstantsBelow}
use Rattle.rt_lines.specs.Orders.{Below, IsAtOrBelow}
use Rattle.rt_lines.specs.OrderFacts.{IsOrder}
use Rattle.rt_rules.specs.Rules.{Derivable}
use Rattle.rt_rules.specs.Rules.Derivable.{named, sub_self, sub_chain, low_line, up_line, low_sub, up_sub}
use Rattle.rt_bridge.specs.Bounds.{HasLow, HasUp}

module _ (order : Below) (lines : List Line) (is : IsOrder order) (few : All (HasConstantsBelow order.count) lines) where
  -- what is at or below a number below the count is below it too
  back : (a b : ℕ) → IsAtOrBelow order a b → b < order.count → a < order.count
  back a b (inl e) h = omega (arith, e, h)
  back a b (inr (g, _, t)) h = g

  below_low : (k : ℕ) (x : Dtv) → Contains lines (Low k x) → k < order.count
  below_low k x c = All-contains (HasConstantsBelow order.count) lines (Low k x) few c

  below_up : (k : ℕ) (x : Dtv) → Contains lines (Up x k) → k < order.count
  below_up k x c = All-contains (HasConstantsBelow order.count) lines (Up x k) few c

  pub low_of : {k : ℕ} {x : Dtv} → Derivable order lines (Low k x) → (k < order.count) × HasLow order lines k x
  low_of {k} {x} (low_line c) = (below_low k x c, record { bound = k; variable = x; stands = c; at = inl refl; below = sub_self (named (Low k x) c refl) })
  low_of {k = j} (low_sub {k = k} d e a) =
      let r : (k < order.count) × HasLow order lines k _ = low_of d in
      let h : j < order.count = back j k a r.0 in
      (h, record { bound = r.1.bound; variable = r.1.variable; stands = r.1.stands; at = is.transitive j k r.1.bound h r.0 (below_low r.1.bound r.1.variable r.1.stands) a r.1.at; below = sub_chain r.1.below e })

  pub up_of : {x : Dtv} {k : ℕ} → Derivable order lines (Up x k) → k < order.count → HasUp order lines x k
  up_of {x} {k} (up_line c) h = record { bound = k; variable = x; stands = c; at = inl refl; above = sub_self (named (Up x k) c refl) }
  up_of {k = j} (up_sub {k = k} d e a) h =
      let g : k < order.count = back k j a h in
      let r : HasUp order lines _ k = up_of e g in
      record { bound = r.bound; variable = r.variable; stands = r.stands; at = is.transitive r.bound k j (below_up r.bound r.variable r.stands) g h r.at a; above = sub_chain d r.above }

pub low_from : (order : Below) (lines : List Line) (k : ℕ) (x : Dtv) → HasLow order lines k x → Derivable order lines (Low k x)
low_from order lines k x r = low_sub (low_line r.stands) r.below r.at

pub up_from : (order : Below) (lines : List Line) (x : Dtv) (k : ℕ) → HasUp order lines x k → Derivable order lines (Up x k)
up_from order lines x k r = up_sub r.above (up_line r.stands) r.at
