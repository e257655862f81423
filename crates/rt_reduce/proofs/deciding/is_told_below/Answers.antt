use Rattle.std.proofs.Common.{sym, subst}
use Rattle.rt_lines.specs.declared.line.Line.{Line}
use Rattle.rt_rules.specs.Rules.{Derivable}
use Rattle.rt_reduce.proofs.Unbounded.{one_below}
use Rattle.rt_reduce.proofs.deciding.is_told_below.Goals as goal

pub returns : goal.returns
returns c = λ e order.
    subst (λ (l : Line). Derivable order c.args.left.now l) (sym c.in-Sub.is)
    (one_below order c.args.left.now c.in-Sub.x c.in-Sub.y (c.in_ok-yes.ensures e order))
