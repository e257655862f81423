use Rattle.std.proofs.Common.{◌≡◌, true, inl, inr, List, Contains, sym, ap, subst, ◌∙◌}
use Rattle.std.proofs.lemmas.List.{take_all}
use Rattle.rt_lines.specs.declared.variable.Dtv.{Dtv}
use Rattle.rt_reduce.proofs.Firsts.{more_cases}
use Rattle.rt_reduce.proofs.merging.has_existential.Goals as goal

pub loop-side-preserved : goal.loop-side-preserved
loop-side-preserved c = λ n x h e.
    elim (more_cases c.args.sides.now c.loop-side.side-index c.side-item.result x c.loop-side-test.true c.side-item.is h) [
      | inl d ↦ c.loop-side.invariant n x d e
      | inr f ↦ (let t : c.is_existential.result ≡ true = c.is_existential.ensures n (ap (λ (v : Dtv). v.base) f ∙ e) in absurd (cc))
    ]

pub returns : goal.returns
returns c = λ none n x h e.
    c.loop-side.invariant n x
    (subst (λ (xs : List Dtv). Contains xs x) (sym (take_all c.loop-side.side-index c.args.sides.now c.loop-side-test.false)) h) e
