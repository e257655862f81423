use Rattle.rt_lines.specs.declared.line.Line.TheVariants.{Var}
use Rattle.rt_rules.specs.Rules.{Derivable}
use Rattle.rt_reduce.proofs.Opening.{no_of, yes_of}
use Rattle.rt_reduce.proofs.early.is_there.Goals as goal

pub returns-in-No : goal.returns-in-No
returns-in-No c = λ order.
    let (lines, is, are) = c.requires.witnesses in
    no_of (Derivable order c.args.left.now (Var c.args.x.now)) ((c.told_named.ensures order lines c.args.left.now is are).no c.in-No.is)

pub returns-in-Yes : goal.returns-in-Yes
returns-in-Yes c = λ order.
    let (lines, is, are) = c.requires.witnesses in
    yes_of (Derivable order c.args.left.now (Var c.args.x.now)) ((c.told_named.ensures order lines c.args.left.now is are).yes c.in-Yes.is)
