use Rattle.std.proofs.Common.{length}
use Rattle.rt_reports.specs.Inside.Drafts.{IsKept, parts_of}
use Rattle.rt_reports.specs.Inside.Reads.{IsRead}
use Rattle.rt_reports.proofs.reader.read_lines.Given as goal

abbrev pub invariant-loop-line : goal.invariant-loop-line
invariant-loop-line l = IsKept l.draft × IsRead l.names l.text (parts_of l.draft) l.rest l.number

abbrev pub decreases-loop-line : goal.decreases-loop-line
decreases-loop-line l = length l.rest
