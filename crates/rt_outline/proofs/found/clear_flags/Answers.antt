use Rattle.std.proofs.Common.{◌<◌, length, refl, get_or, arith}
use Rattle.std.proofs.lemmas.List.{get_or_default}
use Rattle.rt_outline.proofs.Flagged.{clearing_first, clearing_next, clearing_whole}
use Rattle.rt_outline.proofs.found.clear_flags.Goals as goal

pub loop-number-init : goal.loop-number-init
loop-number-init c = clearing_first c.args.numbers.now c.args.flags.now.items c.requires

pub index_mut-requires : goal.index_mut-requires
index_mut-requires c = let h : get_or c.args.numbers.now c.loop-number.number-index 0 < length c.loop-number.flags.items = c.loop-number.invariant.within (get_or c.args.numbers.now c.loop-number.number-index 0) (c.loop-number.number-index, c.loop-number-test.true, get_or_default c.args.numbers.now c.loop-number.number-index (get_or c.args.numbers.now c.loop-number.number-index 0) 0 c.loop-number-test.true) in omega (arith, h)

pub loop-number-preserved : goal.loop-number-preserved
loop-number-preserved c = clearing_next c.args.numbers.now c.loop-number.flags.items c.loop-number.number-index c.loop-number-test.true c.loop-number.invariant

pub returns : goal.returns
returns c = clearing_whole c.args.numbers.now c.loop-number.flags.items c.loop-number.number-index _ c.loop-number-test.false refl c.loop-number.invariant
