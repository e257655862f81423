use Rattle.std.proofs.Common.{ℕ, [], List, Contains, get_or, ap, subst, ◌∙◌, arith, below_more}
use Rattle.std.proofs.lemmas.List.Elements.{Contains-get_or}
use Rattle.rt_sat.specs.Numbered.{sign_of}
use Rattle.rt_sat.specs.Pushes.{IsDoneAt, IsStill}
use Rattle.rt_sat.proofs.Growing.{noted_more, noted_none, noted_still}
use Rattle.rt_sat.proofs.Pushed.{children_done}
use Rattle.rt_sat.proofs.pushing.push_to.Goals as goal

pub push_child-requires-clause-indexed : goal.push_child-requires-clause-indexed
push_child-requires-clause-indexed c = c.loop-child.invariant.noted.grown.indexed c.requires.indexed

pub push_child-requires-clause-child : goal.push_child-requires-clause-child
push_child-requires-clause-child c = c.requires.children.within c.args.other.variable (get_or c.numbers_at-child-items.result.now c.loop-child.child-index 0)
    (subst (λ (xs : List ℕ). Contains xs (get_or c.numbers_at-child-items.result.now c.loop-child.child-index 0)) (c.numbers_at-child-items.ensures ∙ ap (λ (xs : List (List ℕ)). get_or xs c.args.other.variable []) c.deref.ensures.value)
    (Contains-get_or c.numbers_at-child-items.result.now c.loop-child.child-index 0 c.loop-child-test.true))

pub loop-child-init : goal.loop-child-init
loop-child-init c = record { noted = noted_none _ c.args.layers.now c.args.known.now; done = λ h i less. absurd (omega (arith, less)) }

pub loop-child-preserved : goal.loop-child-preserved
loop-child-preserved c = record {
  noted = noted_more _ _ _ _ _ _ _ _ _ (λ e p. p) (λ e p. p) c.loop-child.invariant.noted c.in_ok-push_child.ensures.noted;
  done = λ h.
      (let t : IsStill c.args.layers.now c.loop-child.layers × IsStill c.loop-child.layers c.push_child.new.layers = noted_still _ _ _ _ _ _ _ _ c.loop-child.invariant.noted c.in_ok-push_child.ensures.noted h in
      below_more
      (λ i. IsDoneAt c.args.frame.now.named c.args.flip c.args.first c.args.other c.args.count.now (sign_of c.args.source.contra) c.args.most c.args.known.now (get_or c.numbers_at-child-items.result.now i 0)) c.loop-child.child-index
      (c.loop-child.invariant.done t.0)
      (subst (λ found. IsDoneAt c.args.frame.now.named c.args.flip c.args.first c.args.other c.args.count.now (sign_of c.args.source.contra) c.args.most found (get_or c.numbers_at-child-items.result.now c.loop-child.child-index 0))
      (c.loop-child.invariant.noted.kept t.0) (c.in_ok-push_child.ensures.done t.1)));
}

pub returns-clause-done : goal.returns-clause-done
returns-clause-done c = λ h. children_done c.args.frame.now.named c.args.flip c.args.first c.args.source c.args.other c.args.count.now c.args.most c.args.known.now c.args.frame.now.children.items c.numbers_at-child-items.result.now c.requires.children
    (c.numbers_at-child-items.ensures ∙ ap (λ (xs : List (List ℕ)). get_or xs c.args.other.variable []) c.deref.ensures.value)
    (λ i less. c.loop-child.invariant.done h i (omega (arith, less)))
