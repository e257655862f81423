use Rattle.std.proofs.Common.{◌∙◌, ℕ, List, ap, length, subst, sym}
use Rattle.rt_ways.specs.Inside.Frames.{AreBehind}
use Rattle.rt_ways.specs.Pushes.{AreDistinct}
use Rattle.rt_ways.proofs.Knowing.{distinct_named}
use Rattle.rt_ways.proofs.frame.Classing.of.Goals as goal

pub behind_of-requires-clause-distinct : goal.behind_of-requires-clause-distinct
behind_of-requires-clause-distinct c = subst AreDistinct (sym c.requires) (distinct_named c.args.lines.now)

pub behind_of-requires-clause-each : goal.behind_of-requires-clause-each
behind_of-requires-clause-each c = ap (λ (xs : List ℕ). length xs) c.deref.ensures.value ∙ c.in_ok-classes.ensures.nodes.each

pub returns : goal.returns
returns c = record {
  classes = c.in_ok-classes.ensures;
  behind = subst (λ (xs : List ℕ). AreBehind c.args.named.now xs (length c.args.named.now) c.in_ok-behind.behind.entries) c.deref.ensures.value c.in_ok-behind.ensures;
}
