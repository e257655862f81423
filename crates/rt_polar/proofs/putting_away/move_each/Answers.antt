use Rattle.std.proofs.Common.{None, subst}
use Rattle.std.proofs.Math.ListN.{set}
use Rattle.std.specs.BTreeSet.{contains}
use Rattle.std.specs.Ordering.{nat_cmp}
use Rattle.rt_polar.specs.Index.{has}
use Rattle.rt_polar.specs.Inside.Places.{Settles, moved}
use Rattle.rt_polar.proofs.Moving.{moved_end, moved_step}
use Rattle.rt_polar.proofs.putting_away.move_each.Goals as goal

pub loop-slot-preserved : goal.loop-slot-preserved
loop-slot-preserved c =
    let now = c.loop-slot.places in
    let next = c.move_line.new.places in
    let s = c.loop-slot.invariant.places.named.source c.args.v c.in-Some.slot c.in-Some.ensures.1 in
    record {
      places = c.in_ok-move_line.ensures.places;
      moved = moved_step c.args.v c.args.side.now c.args.places.now.slots.items now.slots.items next.slots.items c.loop-slot.from c.in-Some.slot s.0 (has now.naming) (has next.naming) (contains nat_cmp c.args.pending.now) (contains nat_cmp c.loop-slot.pending)
          (contains nat_cmp c.move_line.new.pending) c.requires.other_base c.requires.own c.loop-slot.invariant.moved c.loop-slot.invariant.places.named c.in_ok-move_line.ensures.places.named c.in-Some.ensures.2 s.1 (subst (λ z. Settles (set now.slots.items c.in-Some.slot None) c.in-Some.slot (moved c.args.v z s.0) next.slots.items) c.in_ok-copy.ensures (c.in_ok-move_line.ensures.moved s.0 s.1))
          c.in_ok-move_line.ensures.kept (λ n names. c.in_ok-move_line.ensures.added n s.0 s.1 names);
    }

pub returns-clause-moved : goal.returns-clause-moved
returns-clause-moved c =
    let now = c.loop-slot.places in
    let held = c.loop-slot.invariant.places in
    moved_end c.args.v c.args.side.now c.loop-slot.from c.args.places.now.slots.items now.slots.items (has now.at) (has now.naming) (contains nat_cmp c.args.pending.now) (contains nat_cmp c.loop-slot.pending) c.loop-slot.invariant.moved held.found held.named held.plain
    c.in_default.ensures
