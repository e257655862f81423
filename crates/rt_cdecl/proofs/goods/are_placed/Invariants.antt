use Rattle.std.proofs.Common.{◌↔◌, drop}
use Rattle.rt_cdecl.specs.GoodDecls.{ArePlaced}
use Rattle.rt_cdecl.proofs.goods.are_placed.Given as goal

abbrev pub invariant-loop-i : goal.invariant-loop-i
invariant-loop-i l = ArePlaced 0 l.args ↔ ArePlaced l.i (drop l.i l.args)
