use Rattle.std.proofs.Common.{◌≡◌, take}
use Rattle.rt_proc.specs.Procs.{places_of}
use Rattle.rt_body.proofs.numbers.places_of.Given as goal

abbrev pub invariant-loop-site : goal.invariant-loop-site
invariant-loop-site l = l.places.items ≡ places_of (take l.site-index l.sites)
