use Rattle.std.proofs.Common.{List, subst}
use Rattle.rt_lines.specs.declared.line.Line.{Line}
use Rattle.rt_sure.specs.Grounds.{IsTableOf}
use Rattle.rt_sure.proofs.Fating.{told_first}
use Rattle.rt_sure.proofs.fate.grown.Goals as goal

pub returns : goal.returns
returns c =
    let is : IsTableOf c.in_ok-shaped.shaped.items c.in_ok-growing.growing =
    subst (λ (ls : List Line). IsTableOf ls c.in_ok-growing.growing) c.deref.ensures.value c.in_ok-growing.ensures
    in
    told_first c.args.lines.now c.args.stays.now c.in_ok-shaped.shaped.items is.told c.in_ok-growing.growing c.in_ok-shaped.ensures is.derived is.tells
