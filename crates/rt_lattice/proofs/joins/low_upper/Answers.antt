use Rattle.std.proofs.Common.{inl, refl, arith}
use Rattle.rt_lattice.proofs.Joined.{low_begins, low_kept, low_moved, low_ends}
use Rattle.rt_lattice.proofs.joins.low_upper.Goals as goal
use Rattle.rt_lattice.proofs.joins.low_upper.Goals.{then-is_upper+then-le, else-is_upper, else-is_upper-via-then-is_upper+else-le, else-is_upper-via-else-is_upper}

pub loop-c-init : goal.loop-c-init
loop-c-init c = low_begins _ _ _ _ _ c.requires.top.within (c.requires.top.above _ c.requires.first) (c.requires.top.above _ c.requires.second)

pub loop-c-preserved : goal.loop-c-preserved
loop-c-preserved c =
    elim c.if-is_upper.branch [
      | then-is_upper+then-le w ↦
          let pair = c.is_upper.ensures.0 w.if-is_upper.true in
          rw w.low-is
          (low_moved _ _ _ _ _ _ (λ x. inl refl) c.count-c-end.ensures.order.transitive c.loop-c.invariant (omega arith) pair.0 pair.1 (w.le.ensures.0 w.if-le.true))
      | else-is_upper w ↦
          rw w.low-is
          (low_kept _ _ _ _ _ _ c.loop-c.invariant
          (λ f s d.
          elim w.else-is_upper.branch [
            | else-is_upper-via-then-is_upper+else-le v ↦ let t = v.le.ensures.1 d in cc
            | else-is_upper-via-else-is_upper v ↦ let t = c.is_upper.ensures.1 (f, s) in cc
          ]))
    ]

pub returns : goal.returns
returns c = record { low = low_ends _ _ _ _ _ _ c.loop-c.invariant (omega arith); transitive = c.count-c-end.ensures.order.transitive }
