use Rattle.std.proofs.Common.{◌≡◌, ℕ, refl, arith}
use Rattle.std.proofs.lemmas.List.Elements.{AllWithin-more_set}
use Rattle.rt_tree.proofs.equality.reset_pairs.Goals as goal

pub loop-x-preserved : goal.loop-x-preserved
loop-x-preserved c = AllWithin-more_set c.loop-x.todo c.loop-x.x (0, 0) (omega arith) (λ (pair : ℕ × ℕ). (pair.0 ≡ 0) × (pair.1 ≡ 0)) c.loop-x.invariant (refl, refl)
