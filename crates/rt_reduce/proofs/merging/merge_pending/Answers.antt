use Rattle.std.proofs.Common.{◌≡◌, true, false, List, map, sym, ap, subst, ◌∙◌}
use Rattle.std.specs.BTreeSet.{contains}
use Rattle.std.specs.Ordering.{is_eq, nat_cmp}
use Rattle.rt_lines.specs.declared.variable.Dtv.{Dtv}
use Rattle.rt_lines.specs.declared.line.Line.{Line}
use Rattle.rt_rules.specs.Put.{put, put_lines}
use Rattle.rt_polar.specs.Tidied.{tidied}
use Rattle.rt_polar.proofs.Turning.{none_in}
use Rattle.rt_reduction.specs.Merges.Merges.{none_left}
use Rattle.rt_reduce.specs.Inside.Compared.{IsCompared}
use Rattle.rt_reduce.proofs.Compared.{found_first, found_none}
use Rattle.rt_reduce.proofs.Going.{goes_on, goes_past}
use Rattle.rt_reduce.proofs.merging.merge_pending.Goals as goal

pub loop-existential-init : goal.loop-existential-init
loop-existential-init c = record {
  compared = c.requires.compared;
  waiting = c.requires.pending;
  onward = λ order left m. m;
  scheme = λ h. h;
  constants = λ count h. h;
  names = λ n h. h;
}

pub loop-existential-preserved-in_ok-sides : goal.loop-existential-preserved-in_ok-sides
loop-existential-preserved-in_ok-sides c =
    let now = c.loop-existential.now in
    let n = c.in-Some.existential in
    let z = c.in-Some-first.side in
    goes_on c.args.lines c.args.comparison.now.named c.args.equals.now c.args.numbers.now now c.loop-existential.sides.items
    (contains nat_cmp c.loop-existential.pending) (contains nat_cmp c.pop_first.new.self) n c.loop-existential.invariant
    (λ q. c.in-Some.ensures.updates.0 q) z c.in_ok-now.now c.in_ok-sides.sides.items
    (found_first now n c.in_ok-first.first z c.in-Some-first.is (λ order. c.in_ok-first.ensures order now
    (subst (λ (xs : List Dtv). IsCompared now c.args.comparison.now.named c.args.equals.now xs c.args.numbers.now)
    (sym c.deref.ensures.value) c.loop-existential.invariant.compared))) (λ q h. c.in-Some.ensures.least q h)
    (c.in_ok-now.ensures ∙ ap (λ (ls : List Line). tidied (put_lines n z ls)) c.items.ensures)
    (c.in_ok-sides.ensures ∙ ap (λ (xs : List Dtv). map (put n z) xs) c.deref-in-Some-first.ensures.value)

pub loop-existential-preserved-in_ok-sides-2 : goal.loop-existential-preserved-in_ok-sides-2
loop-existential-preserved-in_ok-sides-2 c =
    let now = c.loop-existential.now in
    let n = c.in-Some.existential in
    let z = c.in-Some-first.side in
    goes_on c.args.lines c.args.comparison.now.named c.args.equals.now c.args.numbers.now now c.loop-existential.sides.items
    (contains nat_cmp c.loop-existential.pending) (contains nat_cmp c.pop_first.new.self) n c.loop-existential.invariant
    (λ q. c.in-Some.ensures.updates.0 q) z c.in_ok-now.now c.in_ok-sides.sides.items
    (found_first now n c.in_ok-first.first z c.in-Some-first.is (λ order. c.in_ok-first.ensures order now
    (subst (λ (xs : List Dtv). IsCompared now c.args.comparison.now.named c.args.equals.now xs c.args.numbers.now)
    (sym c.deref.ensures.value) c.loop-existential.invariant.compared))) (λ q h. c.in-Some.ensures.least q h)
    (c.in_ok-now.ensures ∙ ap (λ (ls : List Line). tidied (put_lines n z ls)) c.items.ensures)
    (c.in_ok-sides.ensures ∙ ap (λ (xs : List Dtv). map (put n z) xs) c.deref-in-Some-first.ensures.value)

pub loop-existential-preserved : goal.loop-existential-preserved
loop-existential-preserved c =
    let now = c.loop-existential.now in
    let n = c.in-Some.existential in
    goes_past c.args.lines c.args.comparison.now.named c.args.equals.now c.args.numbers.now now c.loop-existential.sides.items
    (contains nat_cmp c.loop-existential.pending) (contains nat_cmp c.pop_first.new.self) n c.loop-existential.invariant
    (λ q. c.in-Some.ensures.updates.0 q)
    (found_none now n c.in_ok-first.first c.in_default-first.is (λ order. c.in_ok-first.ensures order now
    (subst (λ (xs : List Dtv). IsCompared now c.args.comparison.now.named c.args.equals.now xs c.args.numbers.now)
    (sym c.deref.ensures.value) c.loop-existential.invariant.compared)))

pub returns-clause-merges : goal.returns-clause-merges
returns-clause-merges c = λ order.
    c.loop-existential.invariant.onward order c.loop-existential.now
    (none_left (λ n has. none_in (λ k. is_eq (nat_cmp n k)) c.loop-existential.pending.keys
    (λ h. (let f : false ≡ true = c.in_default.ensures.variant.1 h in cc)) (c.loop-existential.invariant.waiting order n has)))
