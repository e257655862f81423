use Rattle.std.proofs.Common.{◌≡◌, ◌+◌, ◌++◌, ◌∷◌, [], All, sym, ap, subst, ◌∙◌}
use Rattle.std.specs.Prelude.{if◌then◌else◌}
use Rattle.rt_lines.specs.declared.label.Loc.TheVariants.{Arg}
use Rattle.rt_lines.specs.declared.label.Label.TheVariants.{In}
use Rattle.rt_lines.specs.Words.{IsLabel}
use Rattle.rt_liveness.specs.Calls.{takes_register}
use Rattle.rt_table.proofs.Labelling.{first_arguments-more, label-if}
use Rattle.rt_table.proofs.labels.register_arguments.Goals as goal

pub loop-number-preserved : goal.loop-number-preserved
loop-number-preserved c =
    let number = c.loop-number.number in
    let call = c.args.call.now in
    let labels = c.loop-number.labels.items in
    record {
      labels = c.in_ok-push_if.ensures
          ∙ ap (λ b. labels ++ (if b then In (Arg number) ∷ [] else [])) c.takes_register-takes.ensures
          ∙ ap (λ ls. ls ++ (if takes_register call (10 + number) then In (Arg number) ∷ [] else [])) c.loop-number.invariant.labels
          ∙ sym (first_arguments-more call number c.loop-number-test.true);
      good = subst (All IsLabel) (sym c.in_ok-push_if.ensures) (label-if number c.takes_register-takes.result labels c.loop-number-test.true c.loop-number.invariant.good);
    }
