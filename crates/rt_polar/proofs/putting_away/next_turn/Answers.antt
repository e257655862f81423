use Rattle.std.proofs.Common.{◌≡◌, true, false}
use Rattle.std.specs.BTreeSet.{contains}
use Rattle.std.specs.Ordering.{is_eq, nat_cmp}
use Rattle.rt_polar.proofs.Turning.{next_turn_of, none_in, none_pending}
use Rattle.rt_polar.proofs.putting_away.next_turn.Goals as goal

pub returns-in-Some-turn_of : goal.returns-in-Some-turn_of
returns-in-Some-turn_of c =
    let t = c.in-Some-turn_of.turn in
    next_turn_of c.in-Some.v t.existential (contains nat_cmp c.loop-v.pending) (contains nat_cmp c.pop_first.new.self) c.args.places.now.slots.items t.slot (λ q. c.in-Some.ensures.updates.0 q) (λ q h. c.in-Some.ensures.least q h) c.loop-v.invariant
    c.in-Some-turn_of.ensures

pub returns : goal.returns
returns c =
    none_pending (contains nat_cmp c.loop-v.pending) c.args.places.now.slots.items c.loop-v.invariant
    (λ n e. none_in (λ k. is_eq (nat_cmp n k)) c.loop-v.pending.keys (λ h. let f : false ≡ true = c.in_default.ensures.variant.1 h in cc) e)
