use Rattle.std.proofs.Common.{◌≡◌, ◌++◌, ◌+◌, map, take, length}
use Rattle.rt_tree.proofs.splitting.append.Given as goal

abbrev pub invariant-loop-first : goal.invariant-loop-first
invariant-loop-first l = l.class.items ≡ l.fn.class.items ++ map (λ k. length l.fn.class.items + k) (take l.first-index l.labels)
