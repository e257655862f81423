use Rattle.std.proofs.Common.{◌≡◌, ℕ, [], List, Contains, Option, Some, None, false, get_or, refl, sym, ap, subst, ◌∙◌, arith, below_more}
use Rattle.std.specs.Prelude.{is_some}
use Rattle.std.proofs.lemmas.List.Elements.{Contains-get_or}
use Rattle.rt_lines.specs.declared.label.Label.{Label}
use Rattle.rt_sat.specs.Pushes.{IsNeeding}
use Rattle.rt_sat.proofs.Pushed.{listed}
use Rattle.rt_sat.proofs.pushing.is_needed.Goals as goal

no_letter : (o : Option Label) → is_some o ≡ false → o ≡ None
no_letter None e = refl
no_letter (Some l) e = absurd (cc)

pub needing-requires-clause-child : goal.needing-requires-clause-child
needing-requires-clause-child c = c.requires.children.within c.args.parent (get_or c.numbers_at-child-items.result.now c.loop-child.child-index 0)
    (subst (λ (xs : List ℕ). Contains xs (get_or c.numbers_at-child-items.result.now c.loop-child.child-index 0)) (c.numbers_at-child-items.ensures ∙ ap (λ (xs : List (List ℕ)). get_or xs c.args.parent []) c.deref.ensures.value)
    (Contains-get_or c.numbers_at-child-items.result.now c.loop-child.child-index 0 c.loop-child-test.true))

pub loop-child-preserved : goal.loop-child-preserved
loop-child-preserved c = below_more
    (λ i. (m : Label) → IsNeeding c.args.frame.now.named c.args.frame.now.flips.items c.args.frame.now.matters.items c.args.bound c.args.parent (get_or c.numbers_at-child-items.result.now i 0) m → ⊥) c.loop-child.child-index
    c.loop-child.invariant (c.needing.ensures.none (no_letter c.needing.result (sym c.is_some.ensures ∙ c.if-is_some.false)))

pub returns : goal.returns
returns c = λ e child l n.
    let h = listed c.args.frame.now.named c.args.frame.now.flips.items c.args.frame.now.matters.items c.args.bound c.args.frame.now.children.items c.numbers_at-child-items.result.now c.args.parent child l c.requires.children
    (c.numbers_at-child-items.ensures ∙ ap (λ (xs : List (List ℕ)). get_or xs c.args.parent []) c.deref.ensures.value) n in
    c.loop-child.invariant h.0 (omega (arith, h.1)) l (subst (λ z. IsNeeding c.args.frame.now.named c.args.frame.now.flips.items c.args.frame.now.matters.items c.args.bound c.args.parent z l) (sym h.2) n)
