use Rattle.std.proofs.Common.{◌==◌, length, get_or, refl, ap, ◌∙◌, arith}
use Rattle.std.proofs.lemmas.List.{length-set}
use Rattle.rt_plan.proofs.Waiting.{flags_more}
use Rattle.rt_plan.proofs.waits.ready_of.Goals as goal

pub loop-group-preserved : goal.loop-group-preserved
loop-group-preserved c =
    let now = c.loop-group.ready in
    let left = c.args.left.now in
    let i = c.loop-group.group in
    let each = c.loop-group.invariant.each in
    record {
      each = ap length c.set.ensures ∙ (length-set now i (get_or left i 0 == 0) ∙ each);
      readies = flags_more now c.set.new.self (λ k. get_or left k 0 == 0) i (get_or left i 0 == 0) (omega arith) c.set.ensures refl c.loop-group.invariant.readies;
    }
