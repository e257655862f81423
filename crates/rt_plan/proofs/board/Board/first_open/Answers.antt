use Rattle.std.proofs.Common.{◌<◌, IfSome, length, sym, ap, subst, ◌∙◌}
use Rattle.rt_plan.specs.Plans.{Board, first_open}
use Rattle.rt_plan.proofs.Keeping.{first_open_told}
use Rattle.rt_plan.proofs.Changing.{first_open_some}
use Rattle.rt_plan.proofs.board.Board.first_open.Goals as goal

pub returns-clause-least : goal.returns-clause-least
returns-clause-least c =
    let i = c.self.inside in
    let board : Board = record { workers = length i.held.items; callees = i.calls; states = i.states.items } in
    c.least.ensures ∙ (first_open_told board i.waits.left.items i.opened i.waits.ready i.held.items i.unpublished c.self.invariant ∙ ap (λ (b : Board). first_open b) c.self.view_is)

pub returns-clause-within : goal.returns-clause-within
returns-clause-within c =
    let i = c.self.inside in
    let board : Board = record { workers = length i.held.items; callees = i.calls; states = i.states.items } in
    subst (λ o. IfSome o (λ g. g < length c.args.self.now.states)) (sym (c.least.ensures ∙ (first_open_told board i.waits.left.items i.opened i.waits.ready i.held.items i.unpublished c.self.invariant ∙ ap (λ (b : Board). first_open b) c.self.view_is))) (first_open_some c.args.self.now)
