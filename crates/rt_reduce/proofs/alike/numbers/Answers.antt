use Rattle.std.proofs.Common.{List, subst, sym}
use Rattle.std.proofs.lemmas.List.{take_all}
use Rattle.rt_lines.specs.declared.variable.Dtv.{Dtv}
use Rattle.rt_reduce.specs.Inside.Alike.{AreNumbered}
use Rattle.rt_reduce.proofs.Numbering.{numbered_next, numbered_none}
use Rattle.rt_reduce.proofs.alike.numbers.Goals as goal

pub loop-side-init : goal.loop-side-init
loop-side-init c = numbered_none c.args.comparison.now.named c.args.equals.now c.in_ok-numbers.numbers.items c.in_ok-numbers.ensures.items

pub known-requires-clause-named : goal.known-requires-clause-named
known-requires-clause-named c = c.requires.named c.side-item.result (c.loop-side.side-index, c.loop-side-test.true, sym c.side-item.is)

pub loop-side-preserved : goal.loop-side-preserved
loop-side-preserved c =
    numbered_next c.args.comparison.now.named c.args.equals.now c.args.sides.now c.loop-side.side-index c.side-item.result
    c.loop-side.numbers.items c.push.new.self.items c.known.result c.loop-side-test.true c.side-item.is c.in_ok-push.ensures.items
    c.known.ensures c.loop-side.invariant

pub returns : goal.returns
returns c =
    subst (λ (xs : List Dtv). AreNumbered c.args.comparison.now.named c.args.equals.now xs c.loop-side.numbers.items)
    (take_all c.loop-side.side-index c.args.sides.now c.loop-side-test.false) c.loop-side.invariant
