use Rattle.std.proofs.Common.{slice_index}
use Rattle.rt_shape.specs.Graphs.{letter_eq}
use Rattle.rt_shape.proofs.Letters.{letter_equal, letter_self}
use Rattle.rt_shape.proofs.Mapped.{IsCarried}
use Rattle.rt_shape.proofs.quotient.edges_of.Given as goal

abbrev pub invariant-loop-i : goal.invariant-loop-i
invariant-loop-i l = IsCarried letter_eq letter_equal letter_eq letter_equal letter_self (λ p. (slice_index l.number p.0, p.1)) (slice_index l.number) l.tree.edges l.i l.edges.entries
