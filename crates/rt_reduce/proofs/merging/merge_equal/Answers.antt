use Rattle.std.proofs.Common.{List, Contains, sym, subst, ◌∙◌}
use Rattle.std.proofs.lemmas.Result.{IfOk-weaker}
use Rattle.rt_lines.specs.declared.variable.Dtv.{Dtv}
use Rattle.rt_lines.specs.declared.line.Line.{Line}
use Rattle.rt_reduction.specs.Merges.{Merges}
use Rattle.rt_reduction.specs.Merges.Merges.{none_left}
use Rattle.rt_reduce.proofs.Firsts.{equal_side}
use Rattle.rt_reduce.proofs.merging.merge_equal.Goals as goal

pub returns-then-not-has_existential-clause-merges : goal.returns-then-not-has_existential-clause-merges
returns-then-not-has_existential-clause-merges c =
    subst (λ (ls : List Line). Merges c.args.order.now ls c.args.lines.now) (sym (c.from_vec.ensures ∙ c.in_ok-left.ensures))
    (none_left (λ n has. (let s = equal_side c.args.order.now c.args.lines.now n has in
    c.has_existential.ensures c.if-not-has_existential.true n s.0
    (subst (λ (xs : List Dtv). Contains xs s.0) (sym (c.deref.ensures.value ∙ c.in_ok-sides.ensures)) s.1) s.2)))

pub returns-clause-merges : goal.returns-clause-merges
returns-clause-merges c = IfOk-weaker c.merge_compared.result _ _ (λ left is. is.merges c.args.order.now) c.merge_compared.ensures.left

pub returns-clause-scheme : goal.returns-clause-scheme
returns-clause-scheme c = IfOk-weaker c.merge_compared.result _ _ (λ left is. is.scheme) c.merge_compared.ensures.left

pub returns-clause-constants : goal.returns-clause-constants
returns-clause-constants c =
    IfOk-weaker c.merge_compared.result _ _ (λ left is. is.constants c.args.order.now.count c.requires.constants) c.merge_compared.ensures.left

pub returns-clause-named : goal.returns-clause-named
returns-clause-named c = IfOk-weaker c.merge_compared.result _ _ (λ left is. is.named) c.merge_compared.ensures.left
