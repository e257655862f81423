use Rattle.std.proofs.Common.{◌+◌, List, Bool, length, ap, sym, subst, ◌∙◌}
use Rattle.std.proofs.lemmas.List.{length_push}
use Rattle.rt_sat.specs.Pushes.{AreDone}
use Rattle.rt_sat.proofs.Flagging.{done_pushed}
use Rattle.rt_sat.proofs.checking.flags.Goals as goal

pub loop-number-preserved : goal.loop-number-preserved
loop-number-preserved c =
    let known = c.args.frame.now.named in
    let flips = c.args.frame.now.flips.items in
    let matters = c.args.frame.now.matters.items in
    let done = c.loop-number.done.items in
    let flag = c.is_number_covered-yes.result in
    record {
      long = ap length c.in_ok-push.ensures.items ∙ length_push done flag ∙ ap (λ n. n + 1) c.loop-number.invariant.long;
      done = λ edges more complete walked. subst (λ (xs : List Bool). AreDone known flips matters edges more xs)
          (sym c.in_ok-push.ensures.items)
          (done_pushed known flips matters edges more done c.loop-number.number flag c.loop-number.invariant.long
          (c.loop-number.invariant.done edges more complete walked) (λ e. c.is_number_covered-yes.ensures e edges more complete walked));
    }
