use Rattle.std.proofs.Common.{sym, ◌∙◌}
use Rattle.rt_control.proofs.Running.{not_step}
use Rattle.rt_control.proofs.run.step_at.Goals as goal

pub returns-then-not-is_step-clause-none : goal.returns-then-not-is_step-clause-none
returns-then-not-is_step-clause-none c =
    λ same step is. not_step c.args.object.now c.args.place.section c.args.place.offset c.in_ok-insn.insn c.at-link.result
    (c.at-link.ensures ∙ c.requires.links.same c.args.place.section c.args.place.offset) c.in_ok-insn.ensures.only (sym c.is_step.ensures ∙ c.if-not-is_step.true) step is
