use Rattle.std.proofs.Common.{◌≡◌, ℕ, true, refl, subst, ◌∙◌}
use Rattle.std.specs.BTreeSet.{contains}
use Rattle.std.specs.Ordering.{nat_cmp}
use Rattle.indexmap.proofs.MapLemmas.{OnOk-map}
use Rattle.rt_lines.specs.declared.variable.Dtv.{Dtv}
use Rattle.rt_rules.specs.Put.{put_lines}
use Rattle.rt_polar.specs.Index.{has}
use Rattle.rt_polar.specs.Inside.Places.{Agrees, ArePending, ArePlaces, Settles, lines_of}
use Rattle.rt_polar.specs.Tidied.{tidied}
use Rattle.rt_polar.specs.Inside.Turns.{GivesAway, IsNextTurn}
use Rattle.rt_polar.proofs.Giving.{gives_in_none, gives_in_some, next_side, on_ok_both, pending_after, pending_settled, turn_within}
use Rattle.rt_polar.proofs.putting_away.give_away.Goals as goal

pub returns-in-Some-next_at-clause-pending : goal.returns-in-Some-next_at-clause-pending
returns-in-Some-next_at-clause-pending c =
    let t = c.args.turn in
    let side = c.in-Some.side in
    let first = c.args.places.now in
    let cleared = c.take_side.new.places in
    let old = contains nat_cmp c.args.pending.now in
    let r = c.requires.turn in
    let next : IsNextTurn t.existential side t.slot first.slots.items old = next_side t.existential side r.0 t.slot first.slots.items old (c.in-Some.ensures.side r.1.sign r.0 r.1.turn.sole) r.1 in
    let second = c.move_lines.new.places in
    let new = contains nat_cmp c.move_lines.new.pending in
    let added = contains nat_cmp c.add_base-2.new.pending in
    on_ok_both c.move_lines.result ((n : ℕ) → added n ≡ true → new n ≡ true) (Agrees new cleared.slots.items second.slots.items) (ArePending new second.slots.items)
    (λ kept agree. pending_after t.existential side t.slot first.slots.items cleared.slots.items second.slots.items (has first.at) old added new c.requires.places.found next c.take_side.ensures.slots
    (λ n e. c.in_ok-add_base-2.ensures.kept n (c.in_ok-add_base.ensures.kept n e)) (c.in_ok-add_base-2.ensures.kept t.existential (c.in_ok-add_base.ensures.added t.existential refl)) (λ n e. c.in_ok-add_base-2.ensures.added n (c.base.ensures ∙ e)) kept agree)
    c.move_lines.ensures.kept c.move_lines.ensures.agree

pub returns-in-Some-next_at-clause-gives : goal.returns-in-Some-next_at-clause-gives
returns-in-Some-next_at-clause-gives c =
    let t = c.args.turn in
    let side = c.in-Some.side in
    let first = c.args.places.now in
    let cleared = c.take_side.new.places in
    let old = contains nat_cmp c.args.pending.now in
    let r = c.requires.turn in
    let next : IsNextTurn t.existential side t.slot first.slots.items old = next_side t.existential side r.0 t.slot first.slots.items old (c.in-Some.ensures.side r.1.sign r.0 r.1.turn.sole) r.1 in
    let second = c.move_lines.new.places in
    OnOk-map c.move_lines.result (lines_of second.slots.items ≡ tidied (put_lines t.existential side (lines_of cleared.slots.items)))
    ((z : Dtv) × IsNextTurn t.existential z t.slot first.slots.items old × GivesAway t.existential z first.slots.items t.slot (lines_of second.slots.items))
    (λ e. (
      side,
      next,
      gives_in_some t.existential side first.slots.items cleared.slots.items t.slot c.in-Some-next_at.first (has cleared.naming) (lines_of second.slots.items)
          (turn_within t.existential side t.slot first.slots.items old next) c.take_side.ensures.slots c.take_side.ensures.places.named c.in-Some-next_at.ensures.1 e,
    ))
    c.move_lines.ensures.moved

pub returns-in-None-clause-pending : goal.returns-in-None-clause-pending
returns-in-None-clause-pending c =
    let t = c.args.turn in
    let side = c.in-Some.side in
    let first = c.args.places.now in
    let cleared = c.take_side.new.places in
    let old = contains nat_cmp c.args.pending.now in
    let r = c.requires.turn in
    let next : IsNextTurn t.existential side t.slot first.slots.items old = next_side t.existential side r.0 t.slot first.slots.items old (c.in-Some.ensures.side r.1.sign r.0 r.1.turn.sole) r.1 in
    let second = c.settle.new.self in
    let added = contains nat_cmp c.add_base-2.new.pending in
    OnOk-map c.settle.result (Settles cleared.slots.items t.slot c.existing.result second.slots.items) (ArePending added second.slots.items)
    (λ settles. pending_after t.existential side t.slot first.slots.items cleared.slots.items second.slots.items (has first.at) old added added c.requires.places.found next c.take_side.ensures.slots
    (λ n e. c.in_ok-add_base-2.ensures.kept n (c.in_ok-add_base.ensures.kept n e)) (c.in_ok-add_base-2.ensures.kept t.existential (c.in_ok-add_base.ensures.added t.existential refl)) (λ n e. c.in_ok-add_base-2.ensures.added n (c.base.ensures ∙ e)) (λ n e. e)
    (pending_settled side t.slot first.slots.items cleared.slots.items second.slots.items added (turn_within t.existential side t.slot first.slots.items old next) c.take_side.ensures.slots
    (λ n e. c.in_ok-add_base-2.ensures.added n (c.base.ensures ∙ e)) (subst (λ l. Settles cleared.slots.items t.slot l second.slots.items) c.existing.ensures settles)))
    c.settle.ensures.settles

pub returns-in-None-clause-gives : goal.returns-in-None-clause-gives
returns-in-None-clause-gives c =
    let t = c.args.turn in
    let side = c.in-Some.side in
    let first = c.args.places.now in
    let cleared = c.take_side.new.places in
    let old = contains nat_cmp c.args.pending.now in
    let r = c.requires.turn in
    let next : IsNextTurn t.existential side t.slot first.slots.items old = next_side t.existential side r.0 t.slot first.slots.items old (c.in-Some.ensures.side r.1.sign r.0 r.1.turn.sole) r.1 in
    let second = c.settle.new.self in
    on_ok_both c.settle.result (ArePlaces second) (Settles cleared.slots.items t.slot c.existing.result second.slots.items)
    ((z : Dtv) × IsNextTurn t.existential z t.slot first.slots.items old × GivesAway t.existential z first.slots.items t.slot (lines_of second.slots.items))
    (λ places settles. (
      side,
      next,
      gives_in_none t.existential side first.slots.items cleared.slots.items second.slots.items t.slot (has cleared.naming) (has second.at)
          (turn_within t.existential side t.slot first.slots.items old next) c.take_side.ensures.slots c.take_side.ensures.places.named c.in-None.ensures
          (subst (λ l. Settles cleared.slots.items t.slot l second.slots.items) c.existing.ensures settles) places.found places.plain,
    ))
    c.settle.ensures.places c.settle.ensures.settles
