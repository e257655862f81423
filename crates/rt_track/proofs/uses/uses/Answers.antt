use Rattle.std.proofs.Common.{◌∷◌, [], ◌++◌, ap, ◌∙◌, arith}
use Rattle.rt_track.proofs.Using.{one_more_register, all_registers}
use Rattle.rt_track.proofs.uses.uses.Goals as goal

pub loop-reg-preserved : goal.loop-reg-preserved
loop-reg-preserved c =
    one_more_register c.args.reach.now c.args.ops.now c.loop-reg.joins.items c.uses_of.new.joins.items c.loop-reg.reg c.loop-reg.uses.items c.loop-reg.invariant c.in_ok-changes.ensures.keeps c.in_ok-changes.changes.items c.in_ok-changes.ensures.uses
    c.push.new.self.items (c.in_ok-push.ensures.items ∙ ap (λ r. c.loop-reg.uses.items ++ r ∷ []) c.from_vec.ensures)

pub returns : goal.returns
returns c = all_registers c.args.reach.now c.args.ops.now c.loop-reg.joins.items c.loop-reg.reg c.loop-reg.uses.items c.loop-reg.invariant (omega arith)
