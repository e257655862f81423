use Rattle.std.proofs.Common.{◌≡◌, ℕ, List, Contains, Some, sym, ◌∙◌}
use Rattle.std.specs.Prelude.{slice_get}
use Rattle.std.proofs.lemmas.Option.{get_or_from_slice_get, slice_get_within}
use Rattle.rt_outline.proofs.Rested.{known_more, more_chain, more_one, rested_first, rested_more, rests_line}
use Rattle.rt_outline.proofs.resting.+resting.Goals as goal

here : (xs : List ℕ) (i x : ℕ) → slice_get xs i ≡ Some x → Contains xs x
here xs i x e = (i, slice_get_within xs i x e, get_or_from_slice_get xs i x x e)

pub leads-returns-clause-known : goal.leads-returns-clause-known
leads-returns-clause-known t c =
    known_more c.args.ground.now.named.now c.args.ground.now.arcs.now c.args.ground.now.stands.now c.args.from c.in_ok-found.found c.reach.new.known.items c.push.new.self.items c.in_ok-push.ensures.items c.in_ok-found.ensures.known c.in_ok-found.ensures.found

pub reach-loop-i-init : goal.reach-loop-i-init
reach-loop-i-init t c = (c.requires.known, rested_first c.args.ground.now.named.now c.args.ground.now.arcs.now c.args.ground.now.stands.now c.args.source c.in_ok-found.found c.insert.new.self c.in_ok-found.ensures c.in_ok-insert.ensures)

pub reach-loop-i-preserved : goal.reach-loop-i-preserved
reach-loop-i-preserved t c = (
  c.in_ok-step.ensures.known,
  rested_more c.args.ground.now.named.now c.args.ground.now.arcs.now c.args.ground.now.stands.now c.args.source c.in-Some.next c.loop-i.found c.step.new.found (here c.loop-i.found c.loop-i.i c.in-Some.next (sym c.in-Some.ensures)) c.loop-i.invariant.1 c.in_ok-step.ensures.more,
)

pub step-loop-arc-preserved : goal.step-loop-arc-preserved
step-loop-arc-preserved t c = (c.in_ok-take.ensures.known, more_chain c.args.ground.now.named.now c.args.ground.now.arcs.now c.args.ground.now.stands.now c.args.from c.args.found.now c.loop-arc.found c.take.new.found c.loop-arc.invariant.1 c.in_ok-take.ensures.more)

pub take-returns-in_ok-insert-clause-more : goal.take-returns-in_ok-insert-clause-more
take-returns-in_ok-insert-clause-more t c =
    more_one c.args.ground.now.named.now c.args.ground.now.arcs.now c.args.ground.now.stands.now c.args.from c.args.arc.to c.args.found.now c.insert.new.self (c.in_ok-rests.ensures.rests c.if-branch.true) c.in_ok-insert.ensures

pub rests-returns-then-is_open-clause-rests : goal.rests-returns-then-is_open-clause-rests
rests-returns-then-is_open-clause-rests t c = λ e.
    rests_line c.args.ground.now.named.now c.args.ground.now.arcs.now c.args.ground.now.stands.now c.args.from c.args.arc.to (c.args.arc.line, c.requires.arc, sym c.is_open.ensures ∙ c.if-is_open.true)
