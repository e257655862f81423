use Rattle.rt_cdecl.proofs.Printed.{AreBegun}
use Rattle.rt_cdecl.proofs.printing.push_fields.Given as goal

abbrev pub invariant-loop-field : goal.invariant-loop-field
invariant-loop-field l = AreBegun l.fields l.field-index l.from l.fn.out.items l.out.items
