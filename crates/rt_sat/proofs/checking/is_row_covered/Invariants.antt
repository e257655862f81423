use Rattle.std.proofs.Common.{ℕ, ◌<◌, List}
use Rattle.rt_grid.specs.Tables.{count_at}
use Rattle.rt_sat.specs.declared.state.Edge.{Edge}
use Rattle.rt_sat.specs.Inside.Checks.{AreWalked}
use Rattle.rt_sat.specs.Inside.Flags.{IsCoveredTo}
use Rattle.rt_sat.specs.Hints.{state_at}
use Rattle.rt_sat.specs.Pushes.{asked_of}
use Rattle.rt_sat.proofs.checking.is_row_covered.Given as goal

abbrev pub invariant-loop-index : goal.invariant-loop-index
invariant-loop-index l = (more : List Edge) → AreWalked l.pushed more → (j : ℕ) → j < l.index → count_at l.row j < 255 →
    IsCoveredTo l.frame.named l.target.flip (asked_of l.target.matters) more l.target.child l.target.letter (state_at l.members j)
    (count_at l.row j)
