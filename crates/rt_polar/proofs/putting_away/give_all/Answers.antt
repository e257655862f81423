use Rattle.std.proofs.Common.{sym, subst}
use Rattle.std.specs.BTreeSet.{contains}
use Rattle.std.specs.Ordering.{nat_cmp}
use Rattle.rt_rules.specs.Put.{use_of}
use Rattle.rt_polar.specs.Inside.Places.{Holds, lines_of}
use Rattle.rt_polar.specs.Puts.{Puts}
use Rattle.rt_polar.specs.Index.{has}
use Rattle.rt_polar.proofs.Cuts.{use_has}
use Rattle.rt_polar.proofs.Falling.{gives_falls}
use Rattle.rt_polar.proofs.Giving.{turn_step, turns_end}
use Rattle.rt_polar.proofs.Holding.{use_names}
use Rattle.rt_polar.proofs.putting_away.give_all.Goals as goal

pub loop-turn-init : goal.loop-turn-init
loop-turn-init c = record {
  places = c.requires;
  pending = λ sign n z slot sole.
      c.in_ok-pending.ensures slot n (use_of sign n z) (subst (λ slots. Holds slots slot (use_of sign n z)) (sym c.deref.ensures.value) sole.holds) (use_names sign n (use_of sign n z) (use_has sign n z));
  puts = λ left p. p;
}

pub loop-turn-smaller : goal.loop-turn-smaller
loop-turn-smaller c =
    let t = c.in-Some.turn in
    let slots = c.loop-turn.places.slots.items in
    let g = c.in_ok-give_away.ensures.gives in
    gives_falls t.existential g.0 t.slot slots (contains nat_cmp c.next_turn.new.pending) (lines_of c.give_away.new.places.slots.items) g.1 g.2

pub loop-turn-preserved : goal.loop-turn-preserved
loop-turn-preserved c =
    let t = c.in-Some.turn in
    let slots = c.loop-turn.places.slots.items in
    let g = c.in_ok-give_away.ensures.gives in
    record {
      places = c.in_ok-give_away.ensures.places;
      pending = c.in_ok-give_away.ensures.pending;
      puts = λ left p. c.loop-turn.invariant.puts left
          (turn_step t.existential g.0 t.slot slots (has c.loop-turn.places.at) (contains nat_cmp c.next_turn.new.pending) (lines_of c.give_away.new.places.slots.items) left c.loop-turn.invariant.places.found g.1 g.2 p);
    }

pub returns : goal.returns
returns c =
    let slots = c.loop-turn.places.slots.items in
    c.loop-turn.invariant.puts (lines_of slots) (turns_end slots (has c.loop-turn.places.at) c.loop-turn.invariant.places.found c.in_default.ensures)
