use Rattle.std.proofs.Common.{length}
use Rattle.rt_cdecl.specs.Inside.Steps.{IsSound, parts_of}
use Rattle.rt_cdecl.proofs.Headers.{IsRead}
use Rattle.rt_cdecl.proofs.reader.read_lines.Given as goal

abbrev pub invariant-loop-line : goal.invariant-loop-line
invariant-loop-line l = IsRead l.text (parts_of l.draft) l.rest l.place × IsSound l.draft

abbrev pub decreases-loop-line : goal.decreases-loop-line
decreases-loop-line l = length l.rest
