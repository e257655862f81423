-- Equality as `==` computes it.
use Rattle.std.specs.Prelude.{Bool}
use Rattle.rt_lines.specs.declared.label.Loc.{Loc}
use Rattle.rt_lines.specs.declared.label.Label.{Label}
use Rattle.rt_lines.specs.declared.variable.Base.{Base}
use Rattle.rt_lines.specs.declared.variable.Dtv.{Dtv}
use Rattle.rt_lines.specs.declared.line.Line.{Line}
use Rattle.rt_lines.specs.contracts.label.LocPartialEq.TheImpl as the_loc
use Rattle.rt_lines.specs.contracts.label.LabelPartialEq.TheImpl as the_label
use Rattle.rt_lines.specs.contracts.variable.BasePartialEq.TheImpl as the_base
use Rattle.rt_lines.specs.contracts.variable.DtvPartialEq.TheImpl as the_variable
use Rattle.rt_lines.specs.contracts.line.LinePartialEq.TheImpl as the_line

abbrev pub loc_eq : Loc → Loc → Bool
loc_eq = (the_loc.ghosts).eq

abbrev pub label_eq : Label → Label → Bool
label_eq = (the_label.ghosts).eq

abbrev pub base_eq : Base → Base → Bool
base_eq = (the_base.ghosts).eq

abbrev pub variable_eq : Dtv → Dtv → Bool
variable_eq = (the_variable.ghosts).eq

abbrev pub line_eq : Line → Line → Bool
line_eq = (the_line.ghosts).eq
