use Rattle.std.proofs.Common.{◌≡◌, ℕ, length}
use Rattle.rt_sure.specs.declared.fate.Fate.TheVariants.{Goes}
use Rattle.rt_sure.specs.Fates.{fate_at}
use Rattle.rt_sure.proofs.Fating.{DoStayTo}
use Rattle.rt_sure.proofs.fate.known.Given as goal

abbrev pub invariant-loop-i : goal.invariant-loop-i
invariant-loop-i l = record {
  each : length l.fates.items ≡ l.i;
  staying : DoStayTo l.stays l.fates.items l.i;
  going : (j : ℕ) → fate_at l.fates.items j ≡ Goes → ⊥;
}
