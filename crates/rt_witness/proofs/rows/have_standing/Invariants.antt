use Rattle.std.proofs.Common.{◌≡◌, ℕ, false, take, Contains, slice_index_or}
use Rattle.rt_witness.proofs.rows.have_standing.Given as goal

abbrev pub invariant-loop-i : goal.invariant-loop-i
invariant-loop-i l = (k : ℕ) → Contains (take l.i-index l.row) k → slice_index_or l.stands k false ≡ false
