use Rattle.rt_reports.proofs.draft.Draft.add_line.Goals as goal

pub returns-in-Ok : goal.returns-in-Ok
returns-in-Ok c = (c.may_state.ensures.0 c.if-not-may_state.false, c.in-Ok.ensures.after, c.in-Ok.ensures.kept)
