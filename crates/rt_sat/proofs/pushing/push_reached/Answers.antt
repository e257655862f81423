use Rattle.std.proofs.Common.{◌≡◌, ℕ, ◌<◌, length, subst, ◌∙◌, arith, below_more}
use Rattle.std.specs.Prelude.{slice_get, Some}
use Rattle.rt_sat.specs.declared.state.State.{State}
use Rattle.rt_sat.specs.Numbered.{sign_of}
use Rattle.rt_sat.specs.Pushes.{IsDoneTo, IsStill}
use Rattle.rt_sat.proofs.Growing.{noted_more, noted_none, noted_still}
use Rattle.rt_sat.proofs.Pushed.{known_entry, entry_one}
use Rattle.rt_sat.proofs.pushing.push_reached.Goals as goal

pub push_to-requires-clause-indexed : goal.push_to-requires-clause-indexed
push_to-requires-clause-indexed c = c.loop-i.invariant.noted.grown.indexed c.requires.indexed

pub loop-i-init : goal.loop-i-init
loop-i-init c = record { noted = noted_none _ c.args.layers.now c.args.known.now; done = λ h j less. absurd (omega (arith, less)) }

pub loop-i-preserved : goal.loop-i-preserved
loop-i-preserved c = record {
  noted = noted_more _ _ _ _ _ _ _ _ _ (λ e p. p) (λ e p. (p.0, (c.in-Some.entry.now.0, c.in-Some.entry.now.1, c.in-Some.ensures.value, p.1))) c.loop-i.invariant.noted c.in_ok-push_to.ensures.noted;
  done = λ h.
      (let t : IsStill c.args.layers.now c.loop-i.layers × IsStill c.loop-i.layers c.push_to.new.layers = noted_still _ _ _ _ _ _ _ _ c.loop-i.invariant.noted c.in_ok-push_to.ensures.noted h in
      below_more
      (λ j. (s : State) (k : ℕ) → slice_get c.args.reached.now j ≡ Some (s, k) → IsDoneTo c.args.frame.now.named c.args.flip c.args.first s k (sign_of c.args.source.contra) c.args.most c.args.known.now) c.loop-i.i
      (c.loop-i.invariant.done t.0)
      (λ s k e.
      let o : (c.in-Some.entry.now.0 ≡ s) × (c.in-Some.entry.now.1 ≡ k) = entry_one c.in-Some.entry.now.0 s c.in-Some.entry.now.1 k (c.in-Some.ensures.entry ∙ e) in
      subst (λ found. IsDoneTo c.args.frame.now.named c.args.flip c.args.first s k (sign_of c.args.source.contra) c.args.most found) (c.loop-i.invariant.noted.kept t.0)
      (subst (λ (t : State). IsDoneTo c.args.frame.now.named c.args.flip c.args.first t k (sign_of c.args.source.contra) c.args.most c.loop-i.known) o.0
      (subst (λ n. IsDoneTo c.args.frame.now.named c.args.flip c.args.first c.in-Some.entry.now.0 n (sign_of c.args.source.contra) c.args.most c.loop-i.known) o.1 (c.in_ok-push_to.ensures.done t.1)))));
}

pub returns-clause-done : goal.returns-clause-done
returns-clause-done c = λ h other count k.
    let e : (i : ℕ) × (i < length c.args.reached.now) × (slice_get c.args.reached.now i ≡ Some (other, count)) = known_entry c.args.reached.now other count k in
    c.loop-i.invariant.done h e.0 (omega (arith, e.1)) other count e.2
