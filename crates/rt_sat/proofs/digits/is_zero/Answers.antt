use Rattle.std.proofs.Common.{◌≤◌, refl, arith}
use Rattle.rt_sat.specs.Counts.{value_of}
use Rattle.rt_sat.proofs.Binary.{some_digit, no_digit}
use Rattle.rt_sat.proofs.digits.is_zero.Goals as goal

pub returns-then-digit : goal.returns-then-digit
returns-then-digit c =
    let some : 1 ≤ value_of c.args.digits.now = some_digit c.args.digits.now c.loop-digit.digit-index c.if-digit.true in
    (λ t. absurd (cc), λ e. absurd (omega (arith, some, e)))

pub returns : goal.returns
returns c = (λ t. no_digit c.args.digits.now (λ k h. c.loop-digit.invariant k (omega (arith, h, c.loop-digit-test.false))), λ e. refl)
