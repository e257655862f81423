use Rattle.std.proofs.Common.{Contains, subst, arith}
use Rattle.rt_sat.proofs.gathering.push_within.Goals as goal

pub put-requires-clause-class : goal.put-requires-clause-class
put-requires-clause-class c = c.requires.ends.2.0.home.class

pub put-requires-clause-found : goal.put-requires-clause-found
put-requires-clause-found c = λ s h. c.in_ok-found.ensures.inside s (subst (λ xs. Contains xs s) c.deref.ensures.value h)

pub index_mut-requires : goal.index_mut-requires
index_mut-requires c = omega (arith, c.requires.next, c.requires.ends.2.0.home.class)

pub returns-clause-told : goal.returns-clause-told
returns-clause-told c = λ known flips lines are tied before.
    c.in_ok-put.ensures.told known flips lines c.args.source.now.stand are.0.home
    (λ s h. c.in_ok-found.ensures.told known flips lines are tied before s (subst (λ xs. Contains xs s) c.deref.ensures.value h)) before
