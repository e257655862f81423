use Rattle.std.proofs.Common.{◌≡◌, ℕ, [], take}
use Rattle.rt_named.specs.Numbers.{IsLeft}
use Rattle.rt_outline.proofs.Following.{OfSome}
use Rattle.rt_outline.proofs.spreading.may_lead.Given as goal

abbrev pub invariant-loop-source : goal.invariant-loop-source
invariant-loop-source l = IsLeft (OfSome (λ (s w : ℕ). s ≡ w) (take l.source-index l.sources)) [] l.found
