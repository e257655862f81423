use Rattle.std.proofs.Common.{ℕ, List, All, Contains, take}
use Rattle.rt_reports.proofs.listed.ListedGlobals.are_among.Given as goal

abbrev pub invariant-loop-number : goal.invariant-loop-number
invariant-loop-number l = All (λ (g : ℕ × List ℕ). Contains l.named g.0) (take l.number-index l.self.globals)
