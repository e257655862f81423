use Rattle.std.proofs.Common.{◌≡◌, ℕ, None, Some, cond, refl, sym, subst, arith}
use Rattle.std.specs.Prelude.{slice_index}
use Rattle.std.specs.Map.{lookup}
use Rattle.rt_lines.specs.declared.label.Label.{Label}
use Rattle.rt_shape.specs.Graphs.{letter_eq}
use Rattle.rt_shape.proofs.Firsts.{passes, begins_letter, apart, ends}
use Rattle.rt_shape.proofs.closing.steps_apart.Goals as goal
use Rattle.rt_shape.proofs.closing.steps_apart.Goals.{in-Some+else-class-other, in-None+in_ok-insert-in-None}

pub bounds-class-other : goal.bounds-class-other
bounds-class-other c =
    let found = c.loop-i.invariant.from _ _ c.in-Some.other.now (sym c.in-Some.ensures.value) in
    let below = found.6 in
    omega arith

pub returns-then-class-other : goal.returns-then-class-other
returns-then-class-other c =
    apart c.args.tree.now c.args.class.now c.loop-i.i c.loop-i.first.entries c.loop-i.invariant c.edge-from.result.0 c.edge-from.result.1 c.edge-from.result.2 c.edge-from.ensures.entry
    c.edge-from.ensures.within c.edge-from.ensures.found c.in-Some.other.now (subst (λ k. lookup (letter_eq (slice_index c.args.class.now c.edge-from.result.0, k)) c.loop-i.first.entries ≡ Some c.in-Some.other.now) c.pointed.ensures (sym c.in-Some.ensures.value)) c.if-class-other.true

pub loop-i-preserved : goal.loop-i-preserved
loop-i-preserved c =
    elim c.match-get.branch [
      | in-Some+else-class-other w ↦
          rw w.first-is
          (passes c.args.tree.now c.args.class.now c.loop-i.i c.loop-i.first.entries c.loop-i.invariant c.edge-from.result.0 c.edge-from.result.1 c.edge-from.result.2 c.edge-from.ensures.entry
          w.in-Some.other.now (subst (λ k. lookup (letter_eq (slice_index c.args.class.now c.edge-from.result.0, k)) c.loop-i.first.entries ≡ Some w.in-Some.other.now) c.pointed.ensures (sym w.in-Some.ensures.value)) w.if-class-other.false)
      | in-None+in_ok-insert-in-None w ↦
          let begun = begins_letter c.args.tree.now c.args.class.now c.loop-i.i c.loop-i.first.entries c.loop-i.invariant c.edge-from.result.0 c.edge-from.result.1 c.edge-from.result.2 c.edge-from.ensures.entry
          c.edge-from.ensures.within c.edge-from.ensures.found (subst (λ k. lookup (letter_eq (slice_index c.args.class.now c.edge-from.result.0, k)) c.loop-i.first.entries ≡ None) c.pointed.ensures (sym w.in-None.ensures.value)) w.insert.new.self.entries
          (subst (λ k. (q : ℕ × Label) → lookup (letter_eq q) w.insert.new.self.entries ≡ cond (letter_eq (slice_index c.args.class.now c.edge-from.result.0, k) q) (Some c.edge-from.result.2) (lookup (letter_eq q) c.loop-i.first.entries)) c.pointed.ensures w.in_ok-insert-in-None.ensures.updates.0) in
          rw w.first-is
          (passes c.args.tree.now c.args.class.now c.loop-i.i w.insert.new.self.entries begun.0 c.edge-from.result.0 c.edge-from.result.1 c.edge-from.result.2 c.edge-from.ensures.entry
          c.edge-from.result.2 begun.1 refl)
    ]

pub returns : goal.returns
returns c = ends c.args.tree.now c.args.class.now c.loop-i.i c.loop-i.first.entries c.loop-i.invariant (omega arith)
