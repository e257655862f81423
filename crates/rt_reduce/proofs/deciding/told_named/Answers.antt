use Rattle.rt_lines.specs.declared.line.Line.TheVariants.{Var}
use Rattle.rt_reduce.proofs.Telling.{named_there, tells_no, tells_yes}
use Rattle.rt_reduce.proofs.deciding.told_named.Goals as goal

pub returns-then-is_named : goal.returns-then-is_named
returns-then-is_named c = λ order lines left are is.
    tells_yes order left (Var c.args.x.now)
    (named_there order left c.args.x.now (c.is_named.ensures c.if-is_named.true lines left are is))

pub returns-else-may_be_there : goal.returns-else-may_be_there
returns-else-may_be_there c = λ order lines left are is.
    tells_no order left (Var c.args.x.now) (c.may_be_there.ensures c.if-may_be_there.false order lines left are is)
