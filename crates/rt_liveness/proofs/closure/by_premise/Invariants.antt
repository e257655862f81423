use Rattle.std.proofs.Common.{◌≡◌, ℕ}
use Rattle.rt_liveness.specs.Inside.Additions.{Adds}
use Rattle.rt_liveness.specs.Inside.Closures.{rules_at, IsPremise}
use Rattle.rt_liveness.proofs.Adding.{ForFirst}
use Rattle.rt_liveness.proofs.closure.by_premise.Given as goal

abbrev pub invariant-loop-rule : goal.invariant-loop-rule
invariant-loop-rule l = (p : ℕ) → Adds (rules_at l.initial.table.items p) (rules_at l.table.items p) (ForFirst l.rules (λ rule other. (other ≡ rule) × IsPremise p rule) l.rule-index)
