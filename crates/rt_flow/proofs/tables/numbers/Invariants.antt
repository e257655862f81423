use Rattle.rt_flow.specs.Tables.{AreNumbers, Grows}
use Rattle.rt_flow.proofs.tables.numbers.Given as goal

abbrev pub invariant-loop-row : goal.invariant-loop-row
invariant-loop-row l = record {
  numbers : AreNumbers l.yielded l.sets l.numbers.items;
  grows : Grows l.fn.sets l.sets;
}
