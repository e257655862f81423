use Rattle.std.proofs.Common.{length, take, ℕ, List, Option, ◌-◌, ◌*◌, ◌<◌, ◌≤◌, ◌≡◌, min}
use Rattle.std.specs.Io.KnownBytes.{Appends}
use Rattle.rt_io.specs.Puts.{ArePut}
use Rattle.rt_io.proofs.put.put_all.Given as goal

-- what was put is the front of the text up to the place, in whole pieces
pub record IsPutTo {S : Type 0} (Takes : S → List ℕ → S → Type 0) (written now : Option (List ℕ)) (faults counted at : ℕ) (text : List ℕ) (old new : S) : Type 0 where
  pub within : at ≤ length text
  pub front : Appends written now (take at text)
  pub counts : faults ≤ counted
  pub pieces : ℕ
  pub is_at : at ≡ min (pieces * 4096) (length text)
  pub begin : (n : ℕ) → n < pieces → n * 4096 < length text
  pub put : ArePut Takes text pieces old new

abbrev pub invariant-loop-at : goal.invariant-loop-at
invariant-loop-at g l = IsPutTo g.O.Sink.takes (g.O.Sink.written l.fn.out) (g.O.Sink.written l.out) (g.O.Sink.faults l.fn.out) (g.O.Sink.faults l.out) l.at l.text l.fn.out l.out

abbrev pub decreases-loop-at : goal.decreases-loop-at
decreases-loop-at g l = length l.text - l.at
