use Rattle.std.proofs.Common.{sym, subst}
use Rattle.rt_tree.specs.Inside.Quotients.{AreNumbers}
use Rattle.rt_tree.proofs.Numbers.{no_numbers}
use Rattle.rt_tree.proofs.quotient.Numbering.new.Goals as goal

pub returns-clause-numbers : goal.returns-clause-numbers
returns-clause-numbers c = subst (AreNumbers c.loop.number.items) (sym c.new.ensures.items) (no_numbers c.loop.number.items c.loop.invariant.none)
