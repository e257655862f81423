use Rattle.std.proofs.Common.{◌≡◌, ℕ, ◌<◌, get_or}
use Rattle.rt_sat.specs.declared.state.Edge.{Edge}
use Rattle.rt_sat.specs.Numbered.{sign_of}
use Rattle.rt_sat.specs.Pushes.{IsNoted, IsPushedTo, IsDoneAt, IsStill}
use Rattle.rt_sat.proofs.pushing.push_to.Given as goal

abbrev pub invariant-loop-child : goal.invariant-loop-child
invariant-loop-child l = record {
  noted : IsNoted (λ (e : Edge). (e.from ≡ l.source) × IsPushedTo l.frame.named l.flip l.first l.other l.count (sign_of l.source.contra) e.to e.count) l.fn.layers l.layers l.fn.known l.known;
  done : IsStill l.fn.layers l.layers → (i : ℕ) → i < l.child-index → IsDoneAt l.frame.named l.flip l.first l.other l.count (sign_of l.source.contra) l.most l.fn.known (get_or l.child-items i 0);
}
