use Rattle.rt_proc.proofs.Collected.{AreFirst}
use Rattle.rt_proc.proofs.finder.procs_at.Given as goal

abbrev pub invariant-loop-entry : goal.invariant-loop-entry
invariant-loop-entry l = AreFirst l.code.source.object.now l.code.source.ends.now l.entries l.entry-index l.procs
