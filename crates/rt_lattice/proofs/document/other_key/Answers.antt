use Rattle.std.proofs.Common.{◌≡◌, ◌∷◌, sym, ◌∙◌, arith}
use Rattle.std.proofs.lemmas.Grind.{common_steps}
use Rattle.rt_lattice.proofs.Keys.{other_key-here, other_key-passed, sorted_rest}
use Rattle.rt_lattice.proofs.document.other_key.Goals as goal

pub loop-key-preserved : goal.loop-key-preserved
loop-key-preserved c =
    let iter : c.loop-key.key-iterator ≡ (c.in-Some.key.now, c.in-Some.field-0-1.now) ∷ c.next.new.self = grind (arith, common_steps) in
    let (_, _, sorted, whole) = c.loop-key.invariant in
    let ordered = rw iter at sorted in (
      tt,
      tt,
      sorted_rest (c.in-Some.key.now, c.in-Some.field-0-1.now) c.next.new.self ordered,
      sym (other_key-passed (c.in-Some.key.now, c.in-Some.field-0-1.now) c.next.new.self (sym (rw c.as_str.ensures.value at c.if-not-is_known.ensures))) ∙ rw iter at whole,
    )

pub returns-then-not-is_known : goal.returns-then-not-is_known
returns-then-not-is_known c =
    let iter : c.loop-key.key-iterator ≡ (c.in-Some.key.now, c.in-Some.field-0-1.now) ∷ c.next.new.self = grind (arith, common_steps) in
    let (_, _, sorted, whole) = c.loop-key.invariant in
    let ordered = rw iter at sorted in
    rw c.as_str-then-not-is_known.ensures.value
    (sym (other_key-here (c.in-Some.key.now, c.in-Some.field-0-1.now) c.next.new.self ordered (sym (rw c.as_str.ensures.value at c.if-not-is_known.ensures))) ∙ rw iter at whole)
