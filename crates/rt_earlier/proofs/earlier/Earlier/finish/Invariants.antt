use Rattle.std.proofs.Common.{List}
use Rattle.rt_lines.specs.declared.line.Line.{Line as Given}
use Rattle.rt_lines.specs.Orders.{Below}
use Rattle.rt_earlier.specs.Inside.Earlier.{IsSound}
use Rattle.rt_earlier.proofs.earlier.Earlier.finish.Given as goal

abbrev pub invariant-loop : goal.invariant-loop
invariant-loop l = (order : Below) (lines : List Given) → IsSound order lines l.fn.self → IsSound order lines l.self
