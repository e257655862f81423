use Rattle.std.proofs.Common.{[], refl}
use Rattle.rt_reports.proofs.Listings.{not_so}
use Rattle.rt_reports.proofs.Reading.{unfinished_text, whole_text}
use Rattle.rt_reports.proofs.reader.read_whole.Goals as goal

pub returns-then-not-is_whole-clause-place : goal.returns-then-not-is_whole-clause-place
returns-then-not-is_whole-clause-place c =
    unfinished_text _ _ _ [] _ c.items-names.ensures.good c.in-Ok.ensures.read.1 tt (not_so c.if-not-is_whole.ensures)

pub returns-clause-read : goal.returns-clause-read
returns-clause-read c = whole_text _ _ _ [] _ c.in-Ok.ensures.read.1 refl (c.is_whole.ensures.0 c.if-not-is_whole.false)
