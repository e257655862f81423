use Rattle.std.proofs.Common.{◌≡◌, ◌+◌, ◌-◌, ◌<◌, None, List, length, get_or, set, refl, sym, ap, subst, ◌∙◌, arith}
use Rattle.std.proofs.lemmas.List.{length-set}
use Rattle.rt_plan.specs.declared.event.State.{State}
use Rattle.rt_plan.specs.declared.event.State.TheVariants.{Published}
use Rattle.rt_plan.specs.Plans.{Board, held_by}
use Rattle.rt_plan.specs.Inside.Boards.{AreReady}
use Rattle.rt_plan.proofs.Keeping.{held_by_within}
use Rattle.rt_plan.proofs.Changing.{enough_left, kept_given, ready_before, some_unpublished, written_is}
use Rattle.rt_plan.proofs.board.Board.publish.Goals as goal

pub index_mut-requires : goal.index_mut-requires
index_mut-requires c =
    let i = c.self.inside in
    let w = c.args.worker in
    let g = c.args.group in
    let board : Board = record { workers = length i.held.items; callees = i.calls; states = i.states.items } in
    let less : g < length i.states.items = held_by_within board w g (ap (λ (b : Board). held_by b w) c.self.view_is ∙ c.requires.holds) in
    omega arith

pub callers-requires : goal.callers-requires
callers-requires c =
    let i = c.self.inside in
    let w = c.args.worker in
    let g = c.args.group in
    let board : Board = record { workers = length i.held.items; callees = i.calls; states = i.states.items } in
    let less : g < length i.states.items = held_by_within board w g (ap (λ (b : Board). held_by b w) c.self.view_is ∙ c.requires.holds) in
    let each : length i.calls ≡ length i.states.items = c.self.invariant.each_called in
    omega arith

pub overflow_sub-self : goal.overflow_sub-self
overflow_sub-self c =
    let i = c.self.inside in
    let w = c.args.worker in
    let board : Board = record { workers = length i.held.items; callees = i.calls; states = i.states.items } in
    let less : w < length i.held.items = subst (λ n. w < n) (sym (ap (λ (b : Board). b.workers) c.self.view_is)) c.requires.worker in
    some_unpublished board i.waits.left.items i.opened i.waits.ready i.held.items i.unpublished c.self.invariant w c.args.group less (ap (λ (b : Board). held_by b w) c.self.view_is ∙ c.requires.holds)

pub publish-requires-clause-enough : goal.publish-requires-clause-enough
publish-requires-clause-enough c =
    let i = c.self.inside in
    let w = c.args.worker in
    let board : Board = record { workers = length i.held.items; callees = i.calls; states = i.states.items } in
    let less : w < length i.held.items = subst (λ n. w < n) (sym (ap (λ (b : Board). b.workers) c.self.view_is)) c.requires.worker in
    enough_left board i.waits.left.items i.opened i.waits.ready i.held.items i.unpublished c.self.invariant w c.args.group less
    (ap (λ (b : Board). held_by b w) c.self.view_is ∙ c.requires.holds) c.callers.result.now c.callers.ensures.called

pub publish-requires-clause-ready : goal.publish-requires-clause-ready
publish-requires-clause-ready c =
    let i = c.self.inside in
    let w = c.args.worker in
    let board : Board = record { workers = length i.held.items; callees = i.calls; states = i.states.items } in
    let less : w < length i.held.items = subst (λ n. w < n) (sym (ap (λ (b : Board). b.workers) c.self.view_is)) c.requires.worker in
    subst (λ (states : List State). AreReady states i.waits.left.items i.waits.ready) (sym c.deref.ensures.value)
    (ready_before board i.waits.left.items i.opened i.waits.ready i.held.items i.unpublished c.self.invariant w c.args.group less (ap (λ (b : Board). held_by b w) c.self.view_is ∙ c.requires.holds))

pub invariant_of-self : goal.invariant_of-self
invariant_of-self c =
    let i = c.self.inside in
    let w = c.args.worker in
    let g = c.args.group in
    let board : Board = record { workers = length i.held.items; callees = i.calls; states = i.states.items } in
    let less : w < length i.held.items = subst (λ n. w < n) (sym (ap (λ (b : Board). b.workers) c.self.view_is)) c.requires.worker in
    let holds = ap (λ (b : Board). held_by b w) c.self.view_is ∙ c.requires.holds in
    let some = some_unpublished board i.waits.left.items i.opened i.waits.ready i.held.items i.unpublished c.self.invariant w g less holds in
    kept_given board i.waits.left.items i.opened i.waits.ready i.held.items i.unpublished c.self.invariant w g less
    holds c.publish.new.self.left.items c.publish.new.self.ready (i.unpublished - 1) (length (set i.held.items w None)) c.publish.ensures.each
    (λ h. ap (λ n. get_or c.publish.new.self.left.items h 0 + n) (sym (c.callers.ensures.called h)) ∙ c.publish.ensures.left h)
    (subst (λ (states : List State). AreReady states c.publish.new.self.left.items c.publish.new.self.ready) c.deref.ensures.value c.publish.ensures.ready)
    (omega arith) refl

pub returns : goal.returns
returns c =
    let i = c.self.inside in
    let board : Board = record { workers = length i.held.items; callees = i.calls; states = i.states.items } in
    written_is board c.args.self.now _ c.args.group Published c.self.view_is (length-set i.held.items c.args.worker None)
