use Rattle.std.proofs.Common.{◌<◌, length, sym, subst, ◌∙◌, arith}
use Rattle.std.proofs.lemmas.List.{get_or_default}
use Rattle.rt_tree.proofs.equality.reset.Goals as goal

pub returns-clause-within : goal.returns-clause-within
returns-clause-within c = λ k d less.
    let inside : k < c.loop-x.x = omega arith in
    subst (λ n. n < length c.loop-x.class) (sym (get_or_default c.loop-x.class k d 0 less ∙ c.loop-x.invariant k inside)) less
