use Rattle.std.proofs.Common.{arith, get_or, refl, ap}
use Rattle.std.proofs.lemmas.List.{get_or_default}
use Rattle.rt_lines.specs.declared.variable.Dtv.{Dtv}
use Rattle.rt_reduce.specs.Inside.Alike.{no_side}
use Rattle.rt_reduce.proofs.Noting.{noted_next}
use Rattle.rt_reduce.proofs.bases.noted.Goals as goal

pub loop-i-preserved : goal.loop-i-preserved
loop-i-preserved c =
    noted_next c.loop-i.i c.args.sides.now c.args.numbers.now (get_or c.args.numbers.now c.loop-i.i 0)
    (get_or c.args.sides.now c.loop-i.i c.index-sides-i.result).base c.loop-i.bases.items c.note.new.bases.items refl
    (ap (λ (x : Dtv). x.base) (get_or_default c.args.sides.now c.loop-i.i c.index-sides-i.result no_side c.loop-i-test.true))
    c.loop-i.invariant c.note.ensures

pub returns : goal.returns
returns c = λ j h. c.loop-i.invariant j (omega (arith, h, c.loop-i-test.false))
