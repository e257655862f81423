use Rattle.std.proofs.Common.{sym, subst, ◌∙◌}
use Rattle.rt_earlier.specs.Inside.Earlier.{AreOne}
use Rattle.rt_earlier.proofs.earlier.Earlier.move_labels.Goals as goal

pub loop-label-preserved : goal.loop-label-preserved
loop-label-preserved c =
    let invariant = c.loop-label.invariant in
    record {
      sound = λ order lines sound one.
          c.in_ok-move_label.ensures.sound order lines (invariant.sound order lines sound one) (subst (λ named. AreOne order lines named c.args.from c.args.to) (sym invariant.named) one);
      named = c.in_ok-move_label.ensures.named ∙ invariant.named;
    }
