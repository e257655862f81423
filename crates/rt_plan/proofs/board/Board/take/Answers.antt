use Rattle.std.proofs.Common.{◌<◌, Some, length, refl, sym, ap, subst, ◌∙◌, arith}
use Rattle.std.proofs.lemmas.List.{length-set}
use Rattle.rt_plan.specs.declared.event.State.TheVariants.{Held}
use Rattle.rt_plan.specs.Plans.{Board, first_ready, held_by}
use Rattle.rt_plan.proofs.Keeping.{first_ready_within, left_within, opened_within}
use Rattle.rt_plan.proofs.Changing.{kept_taken, written_is}
use Rattle.rt_plan.proofs.board.Board.take.Goals as goal

pub invariant_of-self : goal.invariant_of-self
invariant_of-self c =
    let i = c.self.inside in
    let w = c.args.worker in
    let g = c.args.group in
    let board : Board = record { workers = length i.held.items; callees = i.calls; states = i.states.items } in
    let less : w < length i.held.items = subst (λ n. w < n) (sym (ap (λ (b : Board). b.workers) c.self.view_is)) c.requires.worker in
    kept_taken board i.waits.left.items i.opened i.waits.ready i.held.items i.unpublished c.self.invariant w g less
    (ap (λ (b : Board). held_by b w) c.self.view_is ∙ c.requires.holds_none) (ap (λ (b : Board). first_ready b) c.self.view_is ∙ c.requires.ready) _ _ _ _ c.turn.ensures.left c.set.ensures c.turn.ensures.ready refl

pub returns : goal.returns
returns c =
    let i = c.self.inside in
    let board : Board = record { workers = length i.held.items; callees = i.calls; states = i.states.items } in
    written_is board c.args.self.now _ c.args.group (Held c.args.worker) c.self.view_is (length-set i.held.items c.args.worker (Some c.args.group))

pub index_mut-requires : goal.index_mut-requires
index_mut-requires c =
    let i = c.self.inside in
    let g = c.args.group in
    let board : Board = record { workers = length i.held.items; callees = i.calls; states = i.states.items } in
    let less : g < length i.states.items = (first_ready_within board g (ap (λ (b : Board). first_ready b) c.self.view_is ∙ c.requires.ready)).0 in
    omega arith

pub set-requires-clause-within : goal.set-requires-clause-within
set-requires-clause-within c =
    let i = c.self.inside in
    let g = c.args.group in
    let board : Board = record { workers = length i.held.items; callees = i.calls; states = i.states.items } in
    opened_within board i.waits.left.items i.opened i.waits.ready i.held.items i.unpublished c.self.invariant g ((first_ready_within board g (ap (λ (b : Board). first_ready b) c.self.view_is ∙ c.requires.ready)).0)

pub turn-requires-clause-within : goal.turn-requires-clause-within
turn-requires-clause-within c =
    let i = c.self.inside in
    let g = c.args.group in
    let board : Board = record { workers = length i.held.items; callees = i.calls; states = i.states.items } in
    left_within board i.waits.left.items i.opened i.waits.ready i.held.items i.unpublished c.self.invariant g ((first_ready_within board g (ap (λ (b : Board). first_ready b) c.self.view_is ∙ c.requires.ready)).0)
