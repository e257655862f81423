use Rattle.std.proofs.Common.{◌∙◌}
use Rattle.rt_body.proofs.Numbering.{defining_more}
use Rattle.rt_body.proofs.flow.define.Goals as goal

pub loop-site-preserved : goal.loop-site-preserved
loop-site-preserved c =
    defining_more c.args.actions.now c.loop-site.site _ c.args.graph.now c.loop-site.graph c.define_each.new.graph c.items-in-loop-site.result.now c.loop-site-test.true c.loop-site.invariant c.in_ok-define_each.ensures (c.items-in-loop-site.ensures ∙ c.in_ok-defined.ensures)
