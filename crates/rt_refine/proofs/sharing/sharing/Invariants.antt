use Rattle.std.proofs.Common.{take}
use Rattle.std.specs.BTreeMap.{get}
use Rattle.std.specs.BTreeSet.{contains}
use Rattle.std.specs.Ordering.{nat_cmp}
use Rattle.rt_refine.specs.Groups.{AreMet, class_of}
use Rattle.rt_refine.proofs.sharing.sharing.Given as goal

abbrev pub invariant-loop-existential : goal.invariant-loop-existential
invariant-loop-existential l =
    AreMet (class_of (get nat_cmp l.classes)) (take l.existential-index l.named) (get nat_cmp l.firsts) (contains nat_cmp l.shared)
