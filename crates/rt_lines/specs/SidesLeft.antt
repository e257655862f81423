-- What is left of the variables of a line.
use Rattle.std.specs.Prelude.{List, ◌++◌}
use Rattle.std.specs.Option.{option_copied, option_to_list}
use Rattle.rt_lines.specs.declared.variable.Dtv.{Dtv}
use Rattle.rt_lines.specs.declared.sides.Sides.{Sides}

-- the variables that are left to go over
abbrev pub sides_left : Sides → List Dtv
sides_left s = option_to_list (option_copied s.left) ++ option_to_list (option_copied s.right)
