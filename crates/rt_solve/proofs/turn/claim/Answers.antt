use Rattle.std.proofs.Common.{◌≡◌, ap, ◌∙◌}
use Rattle.rt_solve.proofs.Turned.{same_board, some_holder, turned_ended, turned_got, turned_helped}
use Rattle.rt_solve.proofs.turn.claim.Goals as goal

pub returns-in-AllDone-clause-turns : goal.returns-in-AllDone-clause-turns
returns-in-AllDone-clause-turns g c =
    turned_ended c.args.worker c.args.run.now c.step.new.self c.in_ok-step.field-0 c.requires.none c.step.ensures.task c.step.ensures.count
    c.in_ok-step.ensures.step c.args.schedule.now c.args.steps.now c.step.new.steps c.in-AllDone.is c.in_ok-step.ensures.rose

pub returns-in_ok-note-in-Done-clause-turns : goal.returns-in_ok-note-in-Done-clause-turns
returns-in_ok-note-in-Done-clause-turns g c =
    turned_got c.args.worker c.args.run.now c.step.new.self c.in_ok-step.field-0 c.requires.none c.step.ensures.task c.step.ensures.count
    c.in_ok-step.ensures.step c.args.schedule.now c.note.new.schedule c.args.steps.now c.step.new.steps c.in-Done.is
    c.in_ok-step.ensures.rose c.in_ok-note-in-Done.ensures.noted

pub help-requires : goal.help-requires
help-requires g c =
    let same = same_board c.args.worker c.args.run.now c.step.new.self c.in_ok-step.field-0 c.requires.none c.step.ensures.task
    c.step.ensures.count c.in_ok-step.ensures.step c.in_default.not-Done c.in_default.not-AllDone in
    record {
      workers = ap (λ b. b.workers) same ∙ c.requires.workers;
      holds = some_holder c.args.worker c.args.run.now c.step.new.self c.in_ok-step.field-0 c.requires.none c.step.ensures.task
          c.step.ensures.count c.in_ok-step.ensures.step c.in_default.not-Done c.in_default.not-AllDone c.requires.lower c.requires.driven;
    }

pub returns-in_ok-help-in_default : goal.returns-in_ok-help-in_default
returns-in_ok-help-in_default g c = record {
  turns = turned_helped c.args.worker c.args.run.now c.step.new.self c.in_ok-step.field-0 c.requires.none c.step.ensures.task
      c.step.ensures.count c.in_ok-step.ensures.step c.in_default.not-Done c.in_default.not-AllDone c.help.new.run c.args.schedule.now
      c.args.steps.now c.step.new.steps c.help.new.steps c.in_ok-step.ensures.rose c.in_ok-help-in_default.ensures.helps
      c.in_ok-help-in_default.ensures.rose;
  err = tt;
  err_steps = tt;
}
