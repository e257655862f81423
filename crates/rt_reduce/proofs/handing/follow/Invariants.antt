use Rattle.std.proofs.Common.{ℕ, ◌<◌, get_or}
use Rattle.rt_lines.specs.declared.line.Line.{Line}
use Rattle.rt_rules.specs.Rules.{Derivable}
use Rattle.rt_reduce.proofs.handing.follow.Given as goal

abbrev pub invariant-loop-line : goal.invariant-loop-line
invariant-loop-line l = (i : ℕ) (d : Line) → i < l.line-index → Derivable l.order l.others (get_or l.lines i d)
