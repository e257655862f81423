use Rattle.std.proofs.Common.{sym, subst}
use Rattle.rt_lines.specs.declared.line.Line.{Line}
use Rattle.rt_reduce.specs.Inside.Deciding.{Tells}
use Rattle.rt_reduce.proofs.deciding.told.Goals as goal

pub returns-in-Var : goal.returns-in-Var
returns-in-Var c = λ left same ground lines is are.
    subst (λ (l : Line). Tells c.args.order.now left l c.told_named.result) (sym c.in-Var.is)
    (c.told_named.ensures c.args.order.now lines left is are)
