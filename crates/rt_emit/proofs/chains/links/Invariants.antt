use Rattle.std.proofs.Common.{◌≡◌, take}
use Rattle.rt_emit.specs.Inside.Joins.{links}
use Rattle.rt_emit.proofs.chains.links.Given as goal

abbrev pub invariant-loop-line : goal.invariant-loop-line
invariant-loop-line l = l.out.items ≡ links (take l.line-index l.lines)
