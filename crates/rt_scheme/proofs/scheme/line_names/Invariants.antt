use Rattle.std.proofs.Common.{◌≡◌}
use Rattle.std.specs.List.{list_any}
use Rattle.rt_lines.specs.Sides.{sides}
use Rattle.rt_lines.specs.SidesLeft.{sides_left}
use Rattle.rt_scheme.specs.Ports.{begins_with}
use Rattle.rt_scheme.proofs.scheme.line_names.Given as goal

abbrev pub invariant-loop-x : goal.invariant-loop-x
invariant-loop-x l =
    list_any (begins_with l.own l.label) (sides_left l.x-iterator) ≡ list_any (begins_with l.own l.label) (sides l.line)
