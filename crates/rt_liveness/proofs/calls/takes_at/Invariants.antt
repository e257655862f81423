use Rattle.std.proofs.Common.{◌≡◌, ℕ, ◌+◌, ◌<◌, false, length, get_or}
use Rattle.rt_body.specs.Told.{reading_of}
use Rattle.rt_liveness.specs.Inside.Closures.{is_met}
use Rattle.rt_liveness.specs.Inside.Conditions.{when_taken}
use Rattle.rt_liveness.proofs.calls.takes_at.Given as goal

abbrev pub invariant-loop-n : goal.invariant-loop-n
invariant-loop-n l =
    (length l.takes ≡ 8)
    × ((n : ℕ) → n < l.n → get_or l.takes n false ≡ is_met l.interface.taken.keys (when_taken l.interface.named.items l.procedure.sites.now ((reading_of l.procedure.body.now).reaching l.site (10 + n)) l.callee (10 + n)))
