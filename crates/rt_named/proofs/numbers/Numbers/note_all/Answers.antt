use Rattle.std.proofs.Common.{refl}
use Rattle.rt_named.proofs.Noting.{rows_first, rows_next, rows_whole}
use Rattle.rt_named.proofs.numbers.Numbers.note_all.Goals as goal

pub loop-number-init : goal.loop-number-init
loop-number-init c = rows_first c.args.numbers.now c.args.self.now

pub loop-number-preserved : goal.loop-number-preserved
loop-number-preserved c =
    rows_next c.args.numbers.now c.loop-number.number-index _ c.args.self.now c.loop-number.self c.note.new.self c.loop-number-test.true refl c.loop-number.invariant c.in_ok-note.ensures

pub returns : goal.returns
returns c = rows_whole c.args.numbers.now c.loop-number.number-index c.args.self.now c.loop-number.self c.loop-number-test.false c.loop-number.invariant
