use Rattle.std.proofs.Common.{sym, subst}
use Rattle.rt_lines.specs.declared.line.Line.{Line}
use Rattle.rt_rules.specs.Rules.{Derivable}
use Rattle.rt_reduce.proofs.deciding.is_spare.Goals as goal

pub returns-in-Yes : goal.returns-in-Yes
returns-in-Yes c = λ yes order lines left are is.
    subst (λ (l : Line). Derivable order left l) (sym c.in-Var.is) ((c.told_named.ensures order lines left are is).yes c.in-Yes.is)
