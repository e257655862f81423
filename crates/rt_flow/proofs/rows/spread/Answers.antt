use Rattle.std.proofs.Common.{rules, ◌≡◌, ◌<◌, ℕ, List, None, length, sym, subst, ◌∙◌}
use Rattle.std.specs.Prelude.{Contains, slice_index_or}
use Rattle.std.proofs.lemmas.List.{nil_from_length}
use Rattle.rt_flow.proofs.Filling.{IsFilling, some_of, none_of, ready_before, begin, within_here, stops, passes, ends}
use Rattle.rt_flow.proofs.Marking.{row_read}
use Rattle.rt_flow.proofs.rows.spread.Goals as goal

pub mark_all-requires-clause-within : goal.mark_all-requires-clause-within
mark_all-requires-clause-within c = λ b h. subst (λ n. b < n) (sym c.requires.rows_each) (c.requires.starts_in b h)

pub mark_all-requires-clause-ready : goal.mark_all-requires-clause-ready
mark_all-requires-clause-ready c = ready_before c.args.targets.now c.args.lasts.now c.args.starts.now c.args.def c.args.rows.now.items c.requires.order c.requires.before

pub loop-block-init : goal.loop-block-init
loop-block-init c =
    begin c.args.targets.now c.args.lasts.now c.args.starts.now c.args.def c.args.rows.now.items c.requires.starts_in c.requires.before
    c.args.work.now.items c.requires.empty c.mark_all.new.rows.items c.mark_all.new.work.items c.in_ok-mark_all.ensures

pub bounds-lasts-block : goal.bounds-lasts-block
bounds-lasts-block c =
    subst (λ n. c.in-Some.block < n) (sym c.requires.lasts_each)
    (within_here c.args.targets.now c.args.lasts.now c.args.starts.now c.args.def c.args.rows.now.items c.loop-block.rows.items c.pop.new.self.items c.loop-block.work.items c.loop-block.invariant c.in-Some.block c.in-Some.ensures.items)

pub bounds-targets-block : goal.bounds-targets-block
bounds-targets-block c =
    within_here c.args.targets.now c.args.lasts.now c.args.starts.now c.args.def c.args.rows.now.items c.loop-block.rows.items c.pop.new.self.items c.loop-block.work.items c.loop-block.invariant c.in-Some.block c.in-Some.ensures.items

pub mark_all-requires-in-Some-clause-within : goal.mark_all-requires-in-Some-clause-within
mark_all-requires-in-Some-clause-within c = λ b h.
    let block = within_here c.args.targets.now c.args.lasts.now c.args.starts.now c.args.def c.args.rows.now.items c.loop-block.rows.items c.pop.new.self.items c.loop-block.work.items c.loop-block.invariant c.in-Some.block c.in-Some.ensures.items in
    let row = row_read c.args.targets.now c.in-Some.block c.index-targets-block.result c.items.result.now block c.index-targets-block.is c.items.ensures in
    subst (λ n. b < n) (sym (c.loop-block.invariant.each ∙ c.requires.rows_each)) (c.requires.within c.in-Some.block b (subst (λ (xs : List ℕ). Contains xs b) row h))

pub loop-block-preserved : goal.loop-block-preserved
loop-block-preserved c =
    let block = within_here c.args.targets.now c.args.lasts.now c.args.starts.now c.args.def c.args.rows.now.items c.loop-block.rows.items c.pop.new.self.items c.loop-block.work.items c.loop-block.invariant c.in-Some.block c.in-Some.ensures.items in
    let row = row_read c.args.targets.now c.in-Some.block c.index-targets-block.result c.items.result.now block c.index-targets-block.is c.items.ensures in
    passes c.args.targets.now c.args.lasts.now c.args.starts.now c.args.def c.args.rows.now.items c.loop-block.rows.items c.pop.new.self.items c.loop-block.work.items c.loop-block.invariant c.in-Some.block c.in-Some.ensures.items
    c.requires.within (none_of (slice_index_or c.args.lasts.now c.in-Some.block None) (sym c.is_some.ensures ∙ c.if-is_some.false)) c.items.result.now row c.mark_all-in-Some.new.rows.items c.mark_all-in-Some.new.work.items c.in_ok-mark_all-2.ensures

pub loop-block-preserved-then-is_some : goal.loop-block-preserved-then-is_some
loop-block-preserved-then-is_some c =
    let some = some_of (slice_index_or c.args.lasts.now c.in-Some.block None) (sym c.is_some.ensures ∙ c.if-is_some.true) in
    stops c.args.targets.now c.args.lasts.now c.args.starts.now c.args.def c.args.rows.now.items c.loop-block.rows.items c.pop.new.self.items c.loop-block.work.items c.loop-block.invariant c.in-Some.block c.in-Some.ensures.items
    some.0 some.1

pub returns-clause-spreads : goal.returns-clause-spreads
returns-clause-spreads c =
    let none : length c.loop-block.work.items ≡ 0 = search rules in
    ends c.args.targets.now c.args.lasts.now c.args.starts.now c.args.def c.args.rows.now.items c.loop-block.rows.items
    (subst (λ (ws : List ℕ). IsFilling c.args.targets.now c.args.lasts.now c.args.starts.now c.args.def c.args.rows.now.items c.loop-block.rows.items ws) (nil_from_length c.loop-block.work.items none) c.loop-block.invariant)
