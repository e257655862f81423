use Rattle.std.proofs.Common.{◌∙◌, arith}
use Rattle.rt_sketch.proofs.Taking.{grown_at}
use Rattle.rt_sketch.proofs.growth.grown.Goals as goal

pub returns-then-number-size : goal.returns-then-number-size
returns-then-number-size c = λ lines is constants next.
    grown_at c.args.lattice.now.order lines c.args.machine.now c.args.first c.loop-number.number c.loop-number.growth.states.keys c.loop-number.growth.tree (c.if-number-size.true ∙ c.size.ensures.count) c.loop-number.invariant.taken
    c.loop-number.invariant.begins (c.loop-number.invariant.way lines is constants next)

pub expand-requires-clause-labels : goal.expand-requires-clause-labels
expand-requires-clause-labels c = c.letters_at-letters.ensures.good c.requires.labels

pub loop-number-preserved : goal.loop-number-preserved
loop-number-preserved c = record {
  taken = c.in_ok-expand.ensures.taken;
  within = let long = c.in_ok-expand.ensures.long in omega arith;
  begins = c.in_ok-expand.ensures.kept c.args.first c.loop-number.invariant.begins;
  way = λ lines is constants next.
      c.in_ok-expand.ensures.way lines is constants (c.letters_at-letters.ensures.next lines c.args.machine.now next) (c.loop-number.invariant.way lines is constants next);
}
