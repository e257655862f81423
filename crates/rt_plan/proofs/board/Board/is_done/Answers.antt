use Rattle.std.proofs.Common.{length, ap, ◌∙◌}
use Rattle.rt_plan.specs.Plans.{Board, is_done}
use Rattle.rt_plan.proofs.Keeping.{done_told}
use Rattle.rt_plan.proofs.board.Board.is_done.Goals as goal

pub returns : goal.returns
returns c =
    let i = c.self.inside in
    let board : Board = record { workers = length i.held.items; callees = i.calls; states = i.states.items } in
    done_told board i.waits.left.items i.opened i.waits.ready i.held.items i.unpublished c.self.invariant ∙ ap (λ (b : Board). is_done b) c.self.view_is
