use Rattle.std.proofs.Common.{◌+◌, ℕ, List, None, sym, ap, subst, ◌∙◌}
use Rattle.std.specs.Prelude.{Contains, slice_index_or}
use Rattle.rt_flow.proofs.Arriving.{IsDone, starts, none, some, comes_before, ends}
use Rattle.rt_flow.proofs.Filling.{none_if}
use Rattle.rt_flow.proofs.Marking.{row_read}
use Rattle.rt_flow.proofs.rows.rows.Goals as goal
use Rattle.rt_flow.proofs.rows.rows.Goals.{in-Some+in_ok-spread-2, in_default}

pub loop-block-init : goal.loop-block-init
loop-block-init c = record {
  done = starts c.args.targets.now c.args.lasts.now c.args.entry c.in_ok-rows.rows.items c.spread.new.rows.items c.in_ok-rows.ensures c.in_ok-spread.ensures.spreads;
  empty = c.in_ok-spread.ensures.empty;
}

pub spread-requires-in-Some-clause-starts_in : goal.spread-requires-in-Some-clause-starts_in
spread-requires-in-Some-clause-starts_in c = λ b h.
    let row = row_read c.args.targets.now c.loop-block.block c.index-targets-block.result c.items-starts.result.now c.loop-block-test.true c.index-targets-block.is c.items-starts.ensures in
    c.requires.within c.loop-block.block b (subst (λ (xs : List ℕ). Contains xs b) row h)

pub spread-requires-in-Some-clause-before : goal.spread-requires-in-Some-clause-before
spread-requires-in-Some-clause-before c =
    comes_before c.args.targets.now c.args.lasts.now c.args.entry c.requires.ascending c.loop-block.block c.loop-block.rows.items c.loop-block.invariant.done c.in-Some.site c.in-Some.is

pub loop-block-preserved : goal.loop-block-preserved
loop-block-preserved c = elim c.match-lasts-block.branch [
  | in-Some+in_ok-spread-2 w ↦
      let row = row_read c.args.targets.now c.loop-block.block w.index-targets-block.result w.items-starts.result.now c.loop-block-test.true w.index-targets-block.is w.items-starts.ensures in
      let done = some c.args.targets.now c.args.lasts.now c.args.entry c.requires.ascending c.loop-block.block c.loop-block.rows.items c.loop-block.invariant.done w.in-Some.site w.in-Some.is
      w.items-starts.result.now row w.spread-in-Some.new.rows.items w.in_ok-spread-2.ensures.spreads in
      record {
        done = subst (IsDone c.args.targets.now c.args.lasts.now c.args.entry (c.loop-block.block + 1)) (sym (ap (λ v. v.items) w.rows-is)) done;
        empty = ap (λ v. v.items) w.work-is ∙ w.in_ok-spread-2.ensures.empty;
      }
  | in_default w ↦
      let done = none c.args.targets.now c.args.lasts.now c.args.entry c.requires.ascending c.loop-block.block c.loop-block.rows.items c.loop-block.invariant.done
      (none_if (slice_index_or c.args.lasts.now c.loop-block.block None) w.in_default.not-Some) in
      record {
        done = subst (IsDone c.args.targets.now c.args.lasts.now c.args.entry (c.loop-block.block + 1)) (sym (ap (λ v. v.items) w.rows-is)) done;
        empty = ap (λ v. v.items) w.work-is ∙ c.loop-block.invariant.empty;
      }
]

pub returns : goal.returns
returns c = ends c.args.targets.now c.args.lasts.now c.args.entry c.requires.lasts_each c.loop-block.block c.loop-block-test.false c.loop-block.rows.items c.loop-block.invariant.done
