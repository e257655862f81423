use Rattle.std.proofs.Common.{subst}
use Rattle.rt_lattice.specs.Lattices.{NamedOrder, Keeps}
use Rattle.rt_lattice.proofs.Completed.{kept_meet}
use Rattle.rt_lattice.proofs.lattice.Lattice.meet.Goals as goal

pub returns : goal.returns
returns c =
    rw c.get.ensures
    (kept_meet _ _ _ _ (subst (λ (l : NamedOrder). Keeps l c.self.inside.bounds) c.self.view_is c.self.invariant) c.requires.first c.requires.second)
