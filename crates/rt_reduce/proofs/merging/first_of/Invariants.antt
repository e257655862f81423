use Rattle.std.proofs.Common.{List, take}
use Rattle.rt_lines.specs.declared.line.Line.{Line}
use Rattle.rt_lines.specs.Orders.{Below}
use Rattle.rt_reduce.specs.Inside.Alike.{AreAlikeAt}
use Rattle.rt_reduce.specs.Inside.Merging.{IsFirstAmong}
use Rattle.rt_reduce.proofs.merging.first_of.Given as goal

abbrev pub invariant-loop-i : goal.invariant-loop-i
invariant-loop-i l =
    (order : Below) (lines : List Line) → AreAlikeAt order lines l.existential l.sides l.numbers l.own →
    IsFirstAmong order lines l.existential (take l.i l.sides) l.first
