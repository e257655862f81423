use Rattle.rt_run.proofs.texts.text_of.Goals as goal

pub returns-in-Lines : goal.returns-in-Lines
returns-in-Lines c = rw c.in-Lines.is c.report_text.ensures

pub returns-in-Header : goal.returns-in-Header
returns-in-Header c = rw c.in-Header.is c.header_text.ensures

pub returns-in-Sketches : goal.returns-in-Sketches
returns-in-Sketches c = rw c.in-Sketches.is c.sketches_text.ensures
