use Rattle.std.proofs.Common.{◌<◌, None, IfSome, length, sym, ap, subst, ◌∙◌}
use Rattle.std.proofs.lemmas.List.{get_or_read}
use Rattle.rt_plan.specs.Plans.{Board, held_by}
use Rattle.rt_plan.proofs.Keeping.{held_told}
use Rattle.rt_plan.proofs.Changing.{held_some_within}
use Rattle.rt_plan.proofs.board.Board.held.Goals as goal

pub returns-clause-held : goal.returns-clause-held
returns-clause-held c =
    let i = c.self.inside in
    let w = c.args.worker in
    let board : Board = record { workers = length i.held.items; callees = i.calls; states = i.states.items } in
    let less : w < length i.held.items = subst (λ n. w < n) (sym (ap (λ (b : Board). b.workers) c.self.view_is)) c.requires in
    get_or_read i.held.items w c.index.result.now less c.index.ensures None ∙ (held_told board i.waits.left.items i.opened i.waits.ready i.held.items i.unpublished c.self.invariant w ∙ ap (λ (b : Board). held_by b w) c.self.view_is)

pub returns-clause-within : goal.returns-clause-within
returns-clause-within c =
    let i = c.self.inside in
    let w = c.args.worker in
    let board : Board = record { workers = length i.held.items; callees = i.calls; states = i.states.items } in
    let less : w < length i.held.items = subst (λ n. w < n) (sym (ap (λ (b : Board). b.workers) c.self.view_is)) c.requires in
    subst (λ o. IfSome o (λ g. g < length c.args.self.now.states)) (sym (get_or_read i.held.items w c.index.result.now less c.index.ensures None ∙ (held_told board i.waits.left.items i.opened i.waits.ready i.held.items i.unpublished c.self.invariant w ∙ ap (λ (b : Board). held_by b w) c.self.view_is))) (held_some_within c.args.self.now w)
