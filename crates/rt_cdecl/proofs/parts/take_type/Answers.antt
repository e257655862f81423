use Rattle.std.proofs.Common.{sym, ◌∙◌}
use Rattle.rt_cdecl.specs.declared.declarations.CType.TheVariants.{Unused}
use Rattle.rt_cdecl.proofs.OneRow.{one_type}
use Rattle.rt_cdecl.proofs.parts.take_type.Goals as goal

pub returns-in-Some-after_front : goal.returns-in-Some-after_front
returns-in-Some-after_front c = λ t rest good same. one_type Unused t _ rest tt good (sym c.in-Some-after_front.ensures ∙ sym same)
