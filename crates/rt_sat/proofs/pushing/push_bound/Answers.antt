use Rattle.std.proofs.Common.{◌≡◌, ℕ, [], List, Contains, get_or, sym, ap, subst, ◌∙◌, arith, below_more}
use Rattle.std.proofs.lemmas.List.Elements.{Contains-get_or}
use Rattle.rt_lines.specs.declared.label.Label.{Label}
use Rattle.rt_sat.specs.declared.state.Edge.{Edge}
use Rattle.rt_sat.specs.declared.state.State.{State}
use Rattle.rt_sat.specs.Pushes.{IsChildOf, IsClosedIn, IsNeeding, IsPushed, IsStill}
use Rattle.rt_sat.specs.Searches.{IsSearch}
use Rattle.rt_sat.proofs.Growing.{closed_same, grown_more, grown_none, grown_still}
use Rattle.rt_sat.proofs.Pushed.{listed}
use Rattle.rt_sat.proofs.pushing.push_bound.Goals as goal

pub push_child_of-requires-clause-indexed : goal.push_child_of-requires-clause-indexed
push_child_of-requires-clause-indexed c = c.loop-child.invariant.grown.indexed c.requires.indexed

pub push_child_of-requires-clause-child : goal.push_child_of-requires-clause-child
push_child_of-requires-clause-child c = c.requires.children.within c.args.parent.variable (get_or c.numbers_at-child-items.result.now c.loop-child.child-index 0)
    (subst (λ (xs : List ℕ). Contains xs (get_or c.numbers_at-child-items.result.now c.loop-child.child-index 0)) (c.numbers_at-child-items.ensures ∙ ap (λ (xs : List (List ℕ)). get_or xs c.args.parent.variable []) c.deref.ensures.value)
    (Contains-get_or c.numbers_at-child-items.result.now c.loop-child.child-index 0 c.loop-child-test.true))

pub loop-child-init : goal.loop-child-init
loop-child-init c = record { grown = grown_none _ c.args.layers.now; done = λ h i less. absurd (omega (arith, less)) }

pub loop-child-preserved : goal.loop-child-preserved
loop-child-preserved c =
    let P : Edge → Type 0 = IsPushed c.args.frame.now.named c.args.frame.now.flips.items c.args.layers.now.edges.items in
    let step = c.in_ok-push_child_of.ensures.grown c.args.layers.now.edges.items c.in_ok-search.ensures in
    record {
      grown = grown_more P P P _ _ _ (λ e p. p) (λ e p. p) c.loop-child.invariant.grown step;
      done = λ h.
          (let t : IsStill c.args.layers.now c.loop-child.layers × IsStill c.loop-child.layers c.push_child_of.new.layers = grown_still P P _ _ _ c.loop-child.invariant.grown step h in
          below_more
          (λ i. (child : State) (m : Label) → child.variable ≡ get_or c.numbers_at-child-items.result.now i 0 → IsChildOf c.args.frame.now.named child c.args.parent m →
          IsNeeding c.args.frame.now.named c.args.frame.now.flips.items c.args.frame.now.matters.items c.args.bound c.args.parent.variable (get_or c.numbers_at-child-items.result.now i 0) m →
          IsClosedIn c.args.frame.now.named c.args.frame.now.flips.items c.args.frame.now.matters.items c.args.layers.now child c.args.parent m) c.loop-child.child-index
          (c.loop-child.invariant.done t.0)
          (λ child m e k n. closed_same c.args.frame.now.named c.args.frame.now.flips.items c.args.frame.now.matters.items c.args.layers.now c.loop-child.layers child c.args.parent m t.0 c.loop-child.invariant.grown.lines
          (c.in_ok-push_child_of.ensures.done t.1 (subst (λ (xs : List Edge). IsSearch c.args.bound xs c.args.parent c.search.new.found) (sym t.0) c.in_ok-search.ensures) child m e k n)));
    }

pub returns-then-not-is_needed : goal.returns-then-not-is_needed
returns-then-not-is_needed c = record {
  grown = grown_none _ c.args.layers.now;
  done = λ h child l k n. absurd (c.is_needed.ensures (cc) child.variable l n);
}

pub returns-clause-done : goal.returns-clause-done
returns-clause-done c = λ h child l k n.
    let i = listed c.args.frame.now.named c.args.frame.now.flips.items c.args.frame.now.matters.items c.args.bound c.args.frame.now.children.items c.numbers_at-child-items.result.now c.args.parent.variable child.variable l c.requires.children
    (c.numbers_at-child-items.ensures ∙ ap (λ (xs : List (List ℕ)). get_or xs c.args.parent.variable []) c.deref.ensures.value) n in
    c.loop-child.invariant.done h i.0 (omega (arith, i.1)) child l (sym i.2) k
    (subst (λ z. IsNeeding c.args.frame.now.named c.args.frame.now.flips.items c.args.frame.now.matters.items c.args.bound c.args.parent.variable z l) (sym i.2) n)
