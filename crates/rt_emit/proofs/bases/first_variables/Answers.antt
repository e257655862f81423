use Rattle.std.proofs.Common.{subst, sym}
use Rattle.rt_emit.specs.Inside.Bases.{AreKeptBases}
use Rattle.rt_emit.proofs.bases.first_variables.Goals as goal

pub first_of-requires-clause-kept : goal.first_of-requires-clause-kept
first_of-requires-clause-kept c = subst (AreKeptBases c.args.lines.now) (sym c.deref.ensures.value) c.in_ok-bases.ensures
