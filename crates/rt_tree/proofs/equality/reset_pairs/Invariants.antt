use Rattle.std.proofs.Common.{◌≡◌}
use Rattle.std.specs.List.{AllWithin}
use Rattle.rt_tree.proofs.equality.reset_pairs.Given as goal

abbrev pub invariant-loop-x : goal.invariant-loop-x
invariant-loop-x l = AllWithin (λ pair. (pair.0 ≡ 0) × (pair.1 ≡ 0)) l.todo 0 l.x
