use Rattle.std.proofs.Common.{◌≡◌, map, take}
use Rattle.rt_rules.specs.Alike.{map_line}
use Rattle.rt_scheme.specs.Instances.{instanced}
use Rattle.rt_scheme.proofs.instance.renamed_lines.Given as goal

abbrev pub invariant-loop-line : goal.invariant-loop-line
invariant-loop-line l =
    l.renamed.items ≡ map (map_line (instanced l.own l.first_free l.found.keys)) (take l.line-index l.lines)
