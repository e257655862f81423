use Rattle.std.proofs.Common.{◌≡◌, map, take}
use Rattle.rt_twins.specs.Inside.Parts.{kept_of}
use Rattle.rt_twins.proofs.parts.part_of.Given as goal

abbrev pub invariant-loop-line : goal.invariant-loop-line
invariant-loop-line l = l.kept.items ≡ map (kept_of l.sign l.part) (take l.line-index l.lines)
