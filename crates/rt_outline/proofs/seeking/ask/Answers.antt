use Rattle.std.proofs.Common.{◌≡◌, [], ◌∷◌, ◌++◌, Contains, length, length-append, refl, sym, ap, subst, ◌∙◌, inl, arith}
use Rattle.std.proofs.lemmas.List.Elements.{Contains-push_cases}
use Rattle.rt_outline.proofs.seeking.ask.Goals as goal

pub returns-then-contains-clause-only : goal.returns-then-contains-clause-only
returns-then-contains-clause-only c = λ w k. inl k

pub returns-then-contains-clause-none : goal.returns-then-contains-clause-none
returns-then-contains-clause-none c = λ e. (e, refl, c.contains.ensures.0 c.if-contains.true)

pub returns-clause-only : goal.returns-clause-only
returns-clause-only c = λ w k. Contains-push_cases c.args.fresh.now.items c.args.end w (subst (λ xs. Contains xs w) c.in_ok-push.ensures.items k)

pub returns-clause-none : goal.returns-clause-none
returns-clause-none c = λ e. absurd (let f : c.args.fresh.now.items ++ c.args.end ∷ [] ≡ [] = sym c.in_ok-push.ensures.items ∙ e in
    let g : length (c.args.fresh.now.items ++ c.args.end ∷ []) ≡ 0 = ap length f in omega (arith, g, length-append c.args.fresh.now.items (c.args.end ∷ [])))
