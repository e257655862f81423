use Rattle.std.proofs.Common.{subst, sym}
use Rattle.rt_emit.specs.Inside.Bases.{AreKeptBases}
use Rattle.rt_emit.proofs.bases.bases_of.Goals as goal

pub returns : goal.returns
returns c = subst (AreKeptBases c.args.lines.now) (sym c.in_ok-bases.ensures) c.in_ok-kept.ensures
