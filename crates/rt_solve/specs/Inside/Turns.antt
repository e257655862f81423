-- What a turn of the driver makes of a run, a schedule and a counter.
use Rattle.std.specs.Prelude.{◌≡◌, ℕ, Bool, true, false, Some, List, ◌++◌}
use Rattle.rt_plan.specs.declared.event.Event.{Event}
use Rattle.rt_plan.specs.declared.event.State.TheVariants.{Published}
use Rattle.rt_plan.specs.Driver.{first_holder}
use Rattle.rt_plan.specs.Plans.{held_by, is_done, with_state}
use Rattle.rt_plan.specs.Turns.{IsTurn}
use Rattle.rt_solve.specs.Claimed.{Claimed}
use Rattle.rt_solve.specs.Runs.{Course, IsInOrder, IsRun}
use Rattle.rt_solve.specs.Steps.{RoseBy}

-- one course comes from another by events
pub record ComesFrom (old new : Course) : Type 0 where
  pub task : new.task ≡ old.task
  pub count : new.count ≡ old.count
  pub events : List Event
  pub run : IsRun old.task old.stage events new.stage

-- a worker publishes the group that it holds
pub record Publishes (worker : ℕ) (old new : Course) : Type 0 where
  pub group : ℕ
  pub undone : is_done old.stage.board ≡ false
  pub holds : held_by old.stage.board worker ≡ Some group
  pub comes : ComesFrom old new
  pub board : new.stage.board ≡ with_state old.stage.board group Published

-- the least worker that holds a group publishes it
pub record Helps (old new : Course) : Type 0 where
  pub worker : ℕ
  pub least : first_holder old.stage.board ≡ Some worker
  pub publishes : Publishes worker old new

-- a turn of a worker, with the claims that it notes and how many groups it publishes
pub record IsTurned (worker : ℕ) (old new : Course) (before after : Claimed) (from to : ℕ) : Type 0 where
  pub undone : is_done old.stage.board ≡ false
  pub comes : ComesFrom old new
  pub claims : List (ℕ × ℕ)
  pub published : ℕ
  pub turn : IsTurn worker old.stage.board claims published new.stage.board
  pub noted : after ≡ record { number = before.number; claims = before.claims ++ claims }
  pub rose : RoseBy published from to

-- nothing is left to do, and nothing was done
pub record IsEnded (old new : Course) (before after : Claimed) (from to : ℕ) : Type 0 where
  pub done : is_done old.stage.board ≡ true
  pub comes : ComesFrom old new
  pub board : new.stage.board ≡ old.stage.board
  pub noted : after ≡ before
  pub rose : to ≡ from

-- whether something was left to do, and what was done
abbrev pub Turns : Bool → ℕ → Course → Course → Claimed → Claimed → ℕ → ℕ → Type 0
Turns true worker old new before after from to = IsTurned worker old new before after from to
Turns false worker old new before after from to = IsEnded old new before after from to

-- a run that is over, of a task that began
pub record IsOver (old new : Course) : Type 0 where
  pub comes : ComesFrom old new
  pub in_order : IsInOrder old.task new.stage
  pub done : is_done new.stage.board ≡ true
