use Rattle.std.proofs.Common.{inl, refl, arith}
use Rattle.rt_lattice.proofs.Joined.{first_without}
use Rattle.rt_lattice.proofs.Filling.{filled_more}
use Rattle.rt_lattice.proofs.joins.push_row.Goals as goal

pub no_join-requires-clause-first : goal.no_join-requires-clause-first
no_join-requires-clause-first c =
    rw (← c.requires.counted)
    (first_without _ _ _ _ (λ x. inl refl) (λ p q h less. (_, c.loop-b.invariant.each p q h less)) c.requires.within (omega arith) c.in-None.ensures)

pub loop-b-preserved : goal.loop-b-preserved
loop-b-preserved c = filled_more _ _ _ _ _ _ _ c.loop-b.invariant (omega arith) c.in_ok-push-in-Some.ensures.count c.in_ok-push-in-Some.ensures.cells c.in-Some.ensures
