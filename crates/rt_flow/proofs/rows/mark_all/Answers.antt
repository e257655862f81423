use Rattle.std.proofs.Common.{◌<◌, ℕ, List, length, take, sym, subst}
use Rattle.std.specs.Prelude.{slice_index}
use Rattle.std.proofs.lemmas.List.{take_more, take_all}
use Rattle.std.proofs.lemmas.List.Elements.{Contains-get_or}
use Rattle.rt_flow.specs.Inside.Spreading.{MarksAll}
use Rattle.rt_flow.proofs.Marking.{starts, marks}
use Rattle.rt_flow.proofs.rows.mark_all.Goals as goal

pub loop-block-init : goal.loop-block-init
loop-block-init c = starts c.args.def c.args.rows.now.items c.args.work.now.items c.requires.ready

pub mark-requires-clause-within : goal.mark-requires-clause-within
mark-requires-clause-within c =
    subst (λ n. slice_index c.args.blocks.now c.loop-block.block-index < n) (sym c.loop-block.invariant.each) (c.requires.within (slice_index c.args.blocks.now c.loop-block.block-index) (Contains-get_or c.args.blocks.now c.loop-block.block-index 0 c.loop-block-test.true))

pub mark-requires-clause-ready : goal.mark-requires-clause-ready
mark-requires-clause-ready c = c.loop-block.invariant.ready

pub loop-block-preserved : goal.loop-block-preserved
loop-block-preserved c =
    let block = slice_index c.args.blocks.now c.loop-block.block-index in
    let within : block < length c.loop-block.rows.items = subst (λ n. block < n) (sym c.loop-block.invariant.each) (c.requires.within block (Contains-get_or c.args.blocks.now c.loop-block.block-index 0 c.loop-block-test.true)) in
    subst (λ (bs : List ℕ). MarksAll c.args.def bs c.args.rows.now.items c.args.work.now.items c.mark.new.rows.items c.mark.new.work.items) (sym (take_more c.args.blocks.now c.loop-block.block-index 0 c.loop-block-test.true))
    (marks c.args.def (take c.loop-block.block-index c.args.blocks.now) c.args.rows.now.items c.args.work.now.items c.loop-block.rows.items c.loop-block.work.items c.loop-block.invariant block within c.mark.new.rows.items c.mark.new.work.items c.in_ok-mark.ensures)

pub returns : goal.returns
returns c =
    subst (λ (bs : List ℕ). MarksAll c.args.def bs c.args.rows.now.items c.args.work.now.items c.loop-block.rows.items c.loop-block.work.items) (take_all c.loop-block.block-index c.args.blocks.now c.loop-block-test.false) c.loop-block.invariant
