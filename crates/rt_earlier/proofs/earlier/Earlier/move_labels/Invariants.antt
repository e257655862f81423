use Rattle.std.proofs.Common.{◌≡◌}
use Rattle.rt_earlier.specs.Inside.Earlier.{AreOne, StaysSound}
use Rattle.rt_earlier.proofs.earlier.Earlier.move_labels.Given as goal

abbrev pub invariant-loop-label : goal.invariant-loop-label
invariant-loop-label l = record {
  sound : StaysSound (λ order lines. AreOne order lines l.fn.self.named l.from l.to) l.fn.self l.self;
  named : l.self.named ≡ l.fn.self.named;
}
