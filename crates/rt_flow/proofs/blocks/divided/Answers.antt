use Rattle.std.proofs.Common.{arith, ap, ◌∙◌}
use Rattle.rt_flow.proofs.Dividing.{opened, followed}
use Rattle.rt_flow.proofs.blocks.divided.Goals as goal
use Rattle.rt_flow.proofs.blocks.divided.Goals.{then-count-eq0+in_ok-push, else-count-eq0+else-not-joined-site}

pub loop-site-preserved : goal.loop-site-preserved
loop-site-preserved c = elim c.if-count-eq0.branch [
  | then-count-eq0+in_ok-push w ↦
      opened c.args.graph.now c.loop-site.site c.loop-site.count c.loop-site.block.items c.loop-site.firsts.items c.loop-site.invariant
      c.push-in-loop-site.new.self.items c.if-count-eq0.firsts.items c.if-count-eq0.count w.count-is c.in_ok-push-2.ensures.items (ap (λ v. v.items) w.firsts-is ∙ w.in_ok-push.ensures.items)
  | else-count-eq0+else-not-joined-site w ↦
      followed c.args.graph.now c.loop-site.site c.loop-site.count c.loop-site.block.items c.loop-site.firsts.items c.loop-site.invariant
      c.push-in-loop-site.new.self.items c.if-count-eq0.firsts.items c.if-count-eq0.count w.count-is c.in_ok-push-2.ensures.items (ap (λ v. v.items) w.firsts-is) (omega arith) (c.requires.joined c.loop-site.site w.if-not-joined-site.false)
]
