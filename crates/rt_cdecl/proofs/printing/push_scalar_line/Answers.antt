use Rattle.std.proofs.Common.{◌++◌, ap, ◌∙◌, codes}
use Rattle.rt_cdecl.specs.Rows.{carrier_text, scalar_text}
use Rattle.rt_cdecl.proofs.Printed.{scalar_line}
use Rattle.rt_cdecl.proofs.printing.push_scalar_line.Goals as goal

pub returns : goal.returns
returns c =
    scalar_line c.args.out.now.items c.push_between.new.out.items c.push_scalar.new.out.items _ (carrier_text c.args.bits) (scalar_text c.args.name.now c.args.bits)
    (c.in_ok-push_between.ensures ∙ ap (λ s. c.args.out.now.items ++ (codes "typedef unsigned " ++ (s ++ codes " "))) c.carrier.ensures)
    c.in_ok-push_scalar.ensures c.in_ok-extend_from_slice.ensures.items
