use Rattle.std.proofs.Common.{◌≡◌, ◌++◌, ◌∷◌, [], ◌||◌, sym, ap, ◌∙◌}
use Rattle.std.specs.Prelude.{if◌then◌else◌}
use Rattle.rt_lines.specs.declared.label.Loc.TheVariants.{Arg}
use Rattle.rt_lines.specs.declared.label.Label.TheVariants.{In}
use Rattle.rt_table.proofs.Labelling.{first_registers-more, is_taken}
use Rattle.rt_table.proofs.labels.port_registers.Goals as goal

pub loop-number-preserved : goal.loop-number-preserved
loop-number-preserved c =
    let number = c.loop-number.number in
    let ports = c.args.ports.now in
    let covered = c.args.covered in
    c.in_ok-push_if.ensures
    ∙ ap (λ b. c.loop-number.labels.items ++ (if b then In (Arg number) ∷ [] else [])) c.is_taken-takes.ensures
    ∙ ap (λ labels. labels ++ (if is_taken ports covered number then In (Arg number) ∷ [] else [])) c.loop-number.invariant
    ∙ sym (first_registers-more ports covered number c.loop-number-test.true)
