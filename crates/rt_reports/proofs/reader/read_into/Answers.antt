use Rattle.rt_reports.proofs.Reading.{unread_line, row_taken}
use Rattle.rt_reports.proofs.reader.read_into.Goals as goal

pub returns-in-Err : goal.returns-in-Err
returns-in-Err c = unread_line _ _ _ _ c.in-Err.ensures

pub returns : goal.returns
returns c = row_taken _ _ _ c.args.draft.now c.add.new.self _ c.requires.names c.in-Ok.ensures.0 c.in-Ok.ensures.1 c.add.ensures
