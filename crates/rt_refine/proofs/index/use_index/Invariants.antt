use Rattle.std.proofs.Common.{take}
use Rattle.std.specs.BTreeMap.{get}
use Rattle.std.specs.BTreeSet.{contains}
use Rattle.std.specs.Ordering.{nat_cmp}
use Rattle.rt_polar.specs.Index.{has}
use Rattle.rt_refine.specs.Groups.{class_of}
use Rattle.rt_refine.specs.Ranks.{rank_cmp}
use Rattle.rt_refine.specs.Numbers.{HasNumber, IsIndexOf}
use Rattle.rt_refine.proofs.index.use_index.Given as goal

abbrev pub invariant-loop-i : goal.invariant-loop-i
invariant-loop-i l =
    IsIndexOf l.side (take l.i l.lines) (class_of (get nat_cmp l.classes)) (contains nat_cmp l.wanted) l.i (HasNumber rank_cmp l.numbers) (has l.index)
