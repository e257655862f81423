use Rattle.std.proofs.Common.{sym, subst}
use Rattle.rt_sat.specs.Inside.Filling.{AreInFamily}
use Rattle.rt_sat.proofs.filling.copy_class.Goals as goal

pub copy_rows-requires-clause-homes : goal.copy_rows-requires-clause-homes
copy_rows-requires-clause-homes c = subst (AreInFamily c.args.family.now) (sym c.deref.ensures.value) c.in_ok-homes.ensures.inside
