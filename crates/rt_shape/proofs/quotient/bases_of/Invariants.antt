use Rattle.std.proofs.Common.{slice_index}
use Rattle.rt_lines.specs.Equality.{base_eq}
use Rattle.rt_lines.proofs.Equal.{base_equal}
use Rattle.rt_shape.proofs.Mapped.{IsCarried}
use Rattle.rt_shape.proofs.quotient.bases_of.Given as goal
use Rattle.rt_lines.proofs.Same.{base_self}

abbrev pub invariant-loop-i : goal.invariant-loop-i
invariant-loop-i l = IsCarried base_eq base_equal base_eq base_equal base_self (λ b. b) (slice_index l.number) l.tree.bases l.i l.bases.entries
