use Rattle.std.proofs.Common.{take}
use Rattle.std.specs.BTreeSet.{contains}
use Rattle.std.specs.Ordering.{nat_cmp}
use Rattle.rt_twins.specs.Inside.Leading.{AreOfLines, IsBareBut}
use Rattle.rt_twins.proofs.arrows.beside_others.Given as goal

abbrev pub invariant-loop-line : goal.invariant-loop-line
invariant-loop-line l = AreOfLines (IsBareBut l.sign (contains nat_cmp l.known)) (take l.line-index l.lines) (contains nat_cmp l.found)
