-- Each label, base, variable and line equals itself by its own test.
use Rattle.std.proofs.Common.{◌≡◌, true}
use Rattle.rt_lines.specs.declared.label.Label.{Label}
use Rattle.rt_lines.specs.declared.line.Line.{Line}
use Rattle.rt_lines.specs.declared.variable.Base.{Base}
use Rattle.rt_lines.specs.declared.variable.Dtv.{Dtv}
use Rattle.rt_lines.specs.contracts.label.LabelEq.TheImpl.Laws as label_laws
use Rattle.rt_lines.specs.contracts.line.LineEq.TheImpl.Laws as line_laws
use Rattle.rt_lines.specs.contracts.variable.BaseEq.TheImpl.Laws as base_laws
use Rattle.rt_lines.specs.contracts.variable.DtvEq.TheImpl.Laws as variable_laws
use Rattle.rt_lines.specs.Equality.{label_eq, base_eq, variable_eq, line_eq}

pub label_self : (l : Label) → label_eq l l ≡ true
label_self l = (label_laws.laws-law).refl l

pub base_self : (b : Base) → base_eq b b ≡ true
base_self b = (base_laws.laws-law).refl b

pub variable_self : (x : Dtv) → variable_eq x x ≡ true
variable_self x = (variable_laws.laws-law).refl x

pub line_self : (l : Line) → line_eq l l ≡ true
line_self l = (line_laws.laws-law).refl l
