use Rattle.std.proofs.Common.{true, false, length, refl, ap, ◌∙◌, arith}
use Rattle.std.proofs.lemmas.List.{length-set, length-replicate}
use Rattle.rt_plan.proofs.Waiting.{flags_more, all_flags}
use Rattle.rt_plan.proofs.leasts.Leasts.all.Goals as goal

pub loop-number-init : goal.loop-number-init
loop-number-init c = record {
  count = ap length c.in_ok-leasts.ensures ∙ length-replicate c.args.count false;
  set = λ k h. absurd (omega arith);
}

pub loop-number-preserved : goal.loop-number-preserved
loop-number-preserved c =
    let now = c.loop-number.leasts in
    let i = c.loop-number.number in
    record {
      count = ap length c.set.ensures ∙ (length-set now i true ∙ c.loop-number.invariant.count);
      set = flags_more now c.set.new.self (λ k. true) i true (omega arith) c.set.ensures refl c.loop-number.invariant.set;
    }

pub returns : goal.returns
returns c = all_flags c.loop-number.leasts c.args.count c.loop-number.invariant.count (λ k h. c.loop-number.invariant.set k (omega arith))
