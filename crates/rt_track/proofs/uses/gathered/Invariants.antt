use Rattle.std.proofs.Common.{take}
use Rattle.rt_track.specs.Inside.Inputs.{Gathers, Keeps}
use Rattle.rt_track.proofs.uses.gathered.Given as goal

abbrev pub invariant-loop-def : goal.invariant-loop-def
invariant-loop-def l = record {
  gathers : Gathers l.ops l.joins.items l.reg l.all (take l.def-index l.defs);
  keeps : Keeps l.fn.joins.items l.joins.items;
}
