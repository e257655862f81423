use Rattle.std.proofs.Common.{length, ap, ◌∙◌}
use Rattle.rt_plan.specs.Plans.{Board, first_ready}
use Rattle.rt_plan.proofs.Keeping.{first_ready_told}
use Rattle.rt_plan.proofs.board.Board.first_ready.Goals as goal

pub returns : goal.returns
returns c =
    let i = c.self.inside in
    let board : Board = record { workers = length i.held.items; callees = i.calls; states = i.states.items } in
    c.least.ensures ∙ (first_ready_told board i.waits.left.items i.opened i.waits.ready i.held.items i.unpublished c.self.invariant ∙ ap (λ (b : Board). first_ready b) c.self.view_is)
