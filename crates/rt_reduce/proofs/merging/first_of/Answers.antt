use Rattle.std.proofs.Common.{List, take, sym, subst}
use Rattle.std.proofs.lemmas.List.{take_all}
use Rattle.rt_lines.specs.declared.variable.Dtv.{Dtv}
use Rattle.rt_reduce.specs.Inside.Merging.{IsFirstAmong}
use Rattle.rt_reduce.proofs.Numbering.{equal_iff}
use Rattle.rt_reduce.proofs.merging.first_of.Goals as goal
use Rattle.rt_base.proofs.Lists.{take-next}

pub loop-i-preserved : goal.loop-i-preserved
loop-i-preserved c = λ order lines alike.
    let all = c.args.sides.now in
    let i = c.loop-i.i in
    let x = c.index-sides-i.result in
    subst (λ (seen : List Dtv). IsFirstAmong order lines c.args.existential seen c.in_ok-first.first)
    (sym (take-next all i x c.loop-i-test.true c.index-sides-i.is))
    (c.in_ok-first.ensures order lines (take i all)
    (equal_iff order lines c.args.existential all c.args.numbers.now c.args.own i x c.loop-i-test.true c.index-sides-i.is alike)
    (c.loop-i.invariant order lines alike))

pub returns : goal.returns
returns c = λ order lines alike.
    subst (λ (seen : List Dtv). IsFirstAmong order lines c.args.existential seen c.loop-i.first)
    (take_all c.loop-i.i c.args.sides.now c.loop-i-test.false) (c.loop-i.invariant order lines alike)
