use Rattle.std.proofs.Common.{◌≡◌, ℕ, [], Contains}
use Rattle.std.specs.Prelude.{slice_index_or}
use Rattle.rt_earlier.specs.Inside.Earlier.{AreOne, StaysSound}
use Rattle.rt_earlier.proofs.earlier.Earlier.move_members.Given as goal

abbrev pub invariant-loop-number : goal.invariant-loop-number
invariant-loop-number l = record {
  moved : (n : ℕ) → Contains l.number-items n → Contains (slice_index_or l.fn.self.members.items l.from []) n;
  sound : StaysSound (λ order lines. AreOne order lines l.fn.self.named l.from l.to) l.fn.self l.self;
  named : l.self.named ≡ l.fn.self.named;
}
