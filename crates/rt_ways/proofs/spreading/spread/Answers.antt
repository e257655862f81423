use Rattle.std.proofs.Common.{◌<◌, ◌≤◌, ℕ, List, get_or, length, subst, arith}
use Rattle.rt_named.specs.Numbers.{IsLeft}
use Rattle.rt_ways.specs.Arcs.{IsInRow}
use Rattle.rt_ways.proofs.Following.{spreading_first, spreading_next, spreading_whole}
use Rattle.rt_ways.proofs.spreading.spread.Goals as goal

pub loop-place-init : goal.loop-place-init
loop-place-init c = spreading_first (IsInRow c.args.arcs.now) c.args.found.now

pub loop-place-preserved : goal.loop-place-preserved
loop-place-preserved c =
    let within : c.loop-place.place < length c.loop-place.found =
    subst (λ (xs : List ℕ). c.loop-place.place < length xs) c.items.ensures (omega arith) in
    spreading_next (IsInRow c.args.arcs.now) c.args.found.now c.loop-place.found c.leave.new.found c.loop-place.place within
    (subst (λ (xs : List ℕ). IsLeft (IsInRow c.args.arcs.now (get_or xs c.loop-place.place 0)) c.loop-place.found c.leave.new.found)
    c.items-in-loop-place.ensures c.in_ok-leave.ensures)
    c.loop-place.invariant

pub returns : goal.returns
returns c =
    spreading_whole (IsInRow c.args.arcs.now) c.args.found.now c.loop-place.found c.loop-place.place
    (subst (λ (xs : List ℕ). length xs ≤ c.loop-place.place) c.items.ensures (omega arith)) c.loop-place.invariant
