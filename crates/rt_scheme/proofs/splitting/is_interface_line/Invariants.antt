use Rattle.std.proofs.Common.{◌≡◌}
use Rattle.std.specs.List.{list_all}
use Rattle.rt_lines.specs.Sides.{sides}
use Rattle.rt_lines.specs.SidesLeft.{sides_left}
use Rattle.rt_scheme.specs.Splitting.{is_interface_variable}
use Rattle.rt_scheme.proofs.splitting.is_interface_line.Given as goal

abbrev pub invariant-loop-x : goal.invariant-loop-x
invariant-loop-x l =
    list_all is_interface_variable (sides_left l.x-iterator) ≡ list_all is_interface_variable (sides l.line)
