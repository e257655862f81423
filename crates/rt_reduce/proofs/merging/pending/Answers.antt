use Rattle.std.proofs.Common.{inl, inr, List, Contains, sym, ap, subst, ◌∙◌}
use Rattle.std.proofs.lemmas.List.{take_all}
use Rattle.rt_lines.specs.declared.variable.Dtv.{Dtv}
use Rattle.rt_reduce.proofs.Firsts.{more_cases}
use Rattle.rt_reduce.proofs.merging.pending.Goals as goal

pub loop-side-preserved : goal.loop-side-preserved
loop-side-preserved c = λ n x h e none.
    elim (more_cases c.args.sides.now c.loop-side.side-index c.side-item.result x c.loop-side-test.true c.side-item.is h) [
      | inl d ↦ c.in_ok-add_base.ensures.kept n (c.loop-side.invariant n x d e none)
      | inr f ↦ c.in_ok-add_base.ensures.added n (ap (λ v. v.base) f ∙ e) none
    ]

pub returns : goal.returns
returns c = λ n x h e none.
    c.loop-side.invariant n x
    (subst (λ (xs : List Dtv). Contains xs x) (sym (take_all c.loop-side.side-index c.args.sides.now c.loop-side-test.false)) h) e none
