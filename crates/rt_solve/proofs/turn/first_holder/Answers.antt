use Rattle.std.proofs.Common.{◌≡◌, ◌<◌, ◌⊎◌, inl, inr, ℕ, ◌+◌, None, sym, ap, subst, ◌∙◌, arith}
use Rattle.std.specs.Prelude.{is_some}
use Rattle.std.proofs.lemmas.Bool.{cases_eq}
use Rattle.rt_plan.specs.Plans.{held_by}
use Rattle.rt_solve.proofs.Turned.{first_is, first_none, none_is}
use Rattle.rt_solve.proofs.turn.first_holder.Goals as goal

pub returns-then-is_some : goal.returns-then-is_some
returns-then-is_some c =
    sym (first_is c.args.run.now.stage.board c.loop-worker.worker c.loop-worker-test.true
    (ap is_some (sym c.held.ensures) ∙ sym c.is_some.ensures ∙ c.if-is_some.true) c.loop-worker.invariant)
