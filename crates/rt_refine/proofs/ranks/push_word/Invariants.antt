use Rattle.std.proofs.Common.{◌≡◌, ◌++◌, map, take}
use Rattle.rt_refine.specs.Ranks.{label_rank}
use Rattle.rt_refine.proofs.ranks.push_word.Given as goal

abbrev pub invariant-loop-label : goal.invariant-loop-label
invariant-loop-label l = l.ranks.items ≡ l.fn.ranks.items ++ map label_rank (take l.label-index l.label-items)
