-- Two lattices of one order derive the same.
use Rattle.std.proofs.Common.{ℕ, List}
use Rattle.rt_lines.specs.declared.line.Line.{Line}
use Rattle.rt_lines.specs.Orders.{Below, IsAtOrBelow}
use Rattle.rt_rules.specs.Rules.{Derivable}
use Rattle.rt_rules.specs.Rules.Derivable.{named, prefix, left_side, right_side, same_letter, same_line, same_sub, same_self, same_back, same_chain, same_longer, sub_line, sub_self, sub_chain, sub_co, sub_contra, sub_pointer, low_line, up_line, low_sub, up_sub}
use Rattle.rt_lattice.specs.Lattices.{NamedOrder}
use Rattle.rt_run.specs.Laws.{OneLattice}

-- what is derivable is so with each order that has all pairs of the first
module _ (first second : Below) (to : (j k : ℕ) → IsAtOrBelow first j k → IsAtOrBelow second j k) (lines : List Line) where
  moved : {judgement : Line} → Derivable first lines judgement → Derivable second lines judgement
  moved (named l c s) = named l c s
  moved (prefix l d) = prefix l (moved d)
  moved (left_side d) = left_side (moved d)
  moved (right_side d) = right_side (moved d)
  moved (same_letter l d e) = same_letter l (moved d) (moved e)
  moved (same_line c) = same_line c
  moved (same_sub d) = same_sub (moved d)
  moved (same_self d) = same_self (moved d)
  moved (same_back d) = same_back (moved d)
  moved (same_chain d e) = same_chain (moved d) (moved e)
  moved (same_longer l d e) = same_longer l (moved d) (moved e)
  moved (sub_line c) = sub_line c
  moved (sub_self d) = sub_self (moved d)
  moved (sub_chain d e) = sub_chain (moved d) (moved e)
  moved (sub_co l d e v) = sub_co l (moved d) (moved e) v
  moved (sub_contra l d e v) = sub_contra l (moved d) (moved e) v
  moved (sub_pointer x d e) = sub_pointer x (moved d) (moved e)
  moved (low_line c) = low_line c
  moved (up_line c) = up_line c
  moved (low_sub d e a) = low_sub (moved d) (moved e) (to _ _ a)
  moved (up_sub d e a) = up_sub (moved d) (moved e) (to _ _ a)

pub one_lattice : OneLattice
one_lattice first second lines judgement same d = moved first.order second.order (λ j k. (same.below j k).0) lines d
