use Rattle.std.proofs.Common.{◌∙◌, List, length, subst, sym}
use Rattle.rt_lines.specs.declared.variable.Dtv.{Dtv}
use Rattle.rt_ways.specs.Pushes.{AreDistinct}
use Rattle.rt_sketch.specs.Bounds.{AreBoundsOf, IsLow, IsUp}
use Rattle.rt_sketch.proofs.Marking.{sides_in}
use Rattle.rt_sketch.proofs.machine.Machine.of.Goals as goal

pub lows_of-requires-clause-distinct : goal.lows_of-requires-clause-distinct
lows_of-requires-clause-distinct c = subst AreDistinct (sym c.named.ensures.named) c.in_ok-ways.ensures.distinct

pub lows_of-requires-clause-sides : goal.lows_of-requires-clause-sides
lows_of-requires-clause-sides c = sides_in c.args.lines.now c.named.result.now (c.named.ensures.named ∙ c.in_ok-ways.ensures.named)

pub ups_of-requires-clause-distinct : goal.ups_of-requires-clause-distinct
ups_of-requires-clause-distinct c = subst AreDistinct (sym c.named-2.ensures.named) c.in_ok-ways.ensures.distinct

pub ups_of-requires-clause-sides : goal.ups_of-requires-clause-sides
ups_of-requires-clause-sides c = sides_in c.args.lines.now c.named-2.result.now (c.named-2.ensures.named ∙ c.in_ok-ways.ensures.named)

pub returns : goal.returns
returns c = record {
  shape = c.in_ok-shape.ensures;
  ways = c.in_ok-ways.ensures;
  lows = subst (λ (xs : List Dtv). AreBoundsOf (length xs) (IsLow xs c.args.lines.now) c.in_ok-lows.lows.items) c.named.ensures.named c.in_ok-lows.ensures;
  ups = subst (λ (xs : List Dtv). AreBoundsOf (length xs) (IsUp xs c.args.lines.now) c.in_ok-ups.ups.items) c.named-2.ensures.named c.in_ok-ups.ensures;
}
