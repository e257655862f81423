use Rattle.std.proofs.Common.{◌≡◌, not, filter, take}
use Rattle.rt_link.specs.declared.place.Place.{Place}
use Rattle.rt_proc.specs.Sites.{is_other}
use Rattle.rt_proc.proofs.sites.next_of.Given as goal

abbrev pub invariant-loop-place : goal.invariant-loop-place
invariant-loop-place l = l.next.items ≡ filter (λ (place : Place). not (is_other l.entries l.own place)) (take l.place-index l.place-items)
