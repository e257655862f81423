use Rattle.std.proofs.Common.{ap, ◌∙◌, ◌+◌, length, arith}
use Rattle.std.proofs.lemmas.List.{length_push}
use Rattle.rt_ways.proofs.Noding.{numbers_more}
use Rattle.rt_ways.proofs.nodes.numbers_below.Goals as goal

pub loop-number-preserved : goal.loop-number-preserved
loop-number-preserved c = record {
  each = ap length c.in_ok-push.ensures.items ∙ length_push c.loop-number.numbers.items c.loop-number.number ∙ ap (λ n. n + 1) c.loop-number.invariant.each;
  is = numbers_more c.loop-number.number c.loop-number.numbers.items c.push.new.self.items c.in_ok-push.ensures.items c.loop-number.invariant.each c.loop-number.invariant.is;
}

pub returns-clause-each : goal.returns-clause-each
returns-clause-each c = omega (arith, c.loop-number.invariant.each, c.loop-number-test.false, c.loop-number.auto.number-end)

pub returns-clause-is : goal.returns-clause-is
returns-clause-is c = λ i h. c.loop-number.invariant.is i (omega (arith, h, c.loop-number-test.false))
