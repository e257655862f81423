use Rattle.std.proofs.Common.{List, ℕ, sym, subst}
use Rattle.rt_plan.specs.Inside.Boards.{AreCallers}
use Rattle.rt_plan.proofs.calls.Calls.new.Goals as goal

pub invariant_of-result : goal.invariant_of-result
invariant_of-result c =
    subst (λ (callees : List (List ℕ)). AreCallers callees c.in_ok-callers.callers.items) (sym c.in_ok-callees.ensures) (record {
      lower = c.requires.lower;
      numbered = c.requires.few;
      each = c.in_ok-callers.ensures.each;
      called = c.in_ok-callers.ensures.called;
    })
