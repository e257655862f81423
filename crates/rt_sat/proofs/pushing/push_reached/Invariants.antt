use Rattle.std.proofs.Common.{◌≡◌, ℕ, ◌<◌}
use Rattle.std.specs.Prelude.{slice_get, Some}
use Rattle.rt_sat.specs.declared.state.State.{State}
use Rattle.rt_sat.specs.declared.state.Edge.{Edge}
use Rattle.rt_sat.specs.Numbered.{sign_of}
use Rattle.rt_sat.specs.Pushes.{IsNoted, IsPushedOn, IsDoneTo, IsStill}
use Rattle.rt_sat.proofs.pushing.push_reached.Given as goal

abbrev pub invariant-loop-i : goal.invariant-loop-i
invariant-loop-i l = record {
  noted : IsNoted (λ (e : Edge). (e.from ≡ l.source) × IsPushedOn l.frame.named l.flip l.first (sign_of l.source.contra) l.reached e.to e.count) l.fn.layers l.layers l.fn.known l.known;
  done : IsStill l.fn.layers l.layers → (j : ℕ) → j < l.i → (s : State) (k : ℕ) → slice_get l.reached j ≡ Some (s, k) →
      IsDoneTo l.frame.named l.flip l.first s k (sign_of l.source.contra) l.most l.fn.known;
}
