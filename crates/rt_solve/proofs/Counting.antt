-- Counters that stay at the end of 64 bits.
use Rattle.std.proofs.Common.{◌≡◌, ℕ, ◌+◌, ◌≤◌, arith}
use Rattle.rt_solve.specs.Steps.{RoseAtMost, RoseBy}

pub rose_none : (old new : ℕ) → RoseBy 0 old new → new ≡ old
rose_none old new is = omega (arith, is)

pub none_rose : (old new : ℕ) → new ≡ old → RoseBy 0 old new
none_rose old new is = omega (arith, is)

pub rose_more : (first second third m n : ℕ) → RoseBy m first second → RoseBy n second third → RoseBy (m + n) first third
rose_more first second third m n a b = omega (arith, a, b)

pub rose_at_most : (old new m n : ℕ) → RoseBy m old new → m ≤ n → RoseAtMost n old new
rose_at_most old new m n is le = (omega (arith, is), omega (arith, is, le))
