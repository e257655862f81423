use Rattle.rt_proc.proofs.Faulty.{AreSites}
use Rattle.rt_proc.proofs.finder.sites.Given as goal

abbrev pub invariant-loop-place : goal.invariant-loop-place
invariant-loop-place l = AreSites l.code.source.object.now l.code.source.ends.now l.entries l.own l.body l.place-index l.sites
