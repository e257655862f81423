use Rattle.std.proofs.Common.{arith}
use Rattle.rt_chain.proofs.Digits.{small, bit-small}
use Rattle.rt_chain.proofs.number.Goals as goal

pub overflow_mul-number : goal.overflow_mul-number
overflow_mul-number c =
    let s = small c.args.word.now c.args.flips.now c.loop-i.i c.requires.few in
    omega (arith, s, c.loop-i.invariant.number)

pub overflow_add-number : goal.overflow_add-number
overflow_add-number c =
    let s = small c.args.word.now c.args.flips.now c.loop-i.i c.requires.few in
    omega (arith, s, c.loop-i.invariant.number, c.bit.ensures, bit-small c.times-sign.result)
