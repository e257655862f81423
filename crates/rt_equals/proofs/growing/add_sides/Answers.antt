use Rattle.std.proofs.Common.{inl, inr}
use Rattle.std.proofs.lemmas.Result.{on_ok_weaker}
use Rattle.rt_equals.proofs.growing.add_sides.Goals as goal

pub returns-in_ok-add_marked-in-Same : goal.returns-in_ok-add_marked-in-Same
returns-in_ok-add_marked-in-Same c =
    on_ok_weaker c.add_marked-in-Same-2.result
    (λ more x h. (elim (more x h) [
      | inl old ↦ c.in_ok-add_marked-in-Same.ensures x old
      | inr own ↦ inr own
    ]))
    c.add_marked-in-Same-2.ensures
