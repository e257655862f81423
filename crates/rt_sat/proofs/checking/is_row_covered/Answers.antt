use Rattle.std.proofs.Common.{◌≡◌, ◌<◌, length, get_or, subst, arith, below_more}
use Rattle.std.proofs.lemmas.List.{get_or_default}
use Rattle.rt_grid.specs.Tables.{count_at}
use Rattle.rt_sat.specs.Inside.Flags.{IsCoveredTo}
use Rattle.rt_sat.specs.Hints.{state_at}
use Rattle.rt_sat.specs.Pushes.{asked_of}
use Rattle.rt_sat.proofs.Flagging.{counted_inside}
use Rattle.rt_sat.proofs.checking.is_row_covered.Goals as goal

pub loop-index-preserved : goal.loop-index-preserved
loop-index-preserved c = λ more walked.
    let known = c.args.frame.now.named in
    let target = c.args.target.now in
    let row = c.args.row.now in
    let members = c.args.members.now in
    let index = c.loop-index.index in
    let read : get_or row index 0 ≡ count_at row index = get_or_default row index 0 255 c.loop-index-test.true in
    below_more
    (λ j. count_at row j < 255 → IsCoveredTo known target.flip (asked_of target.matters) more target.child target.letter
    (state_at members j) (count_at row j)) index
    (c.loop-index.invariant more walked)
    (subst (λ s. count_at row index < 255 →
    IsCoveredTo known target.flip (asked_of target.matters) more target.child target.letter s
    (count_at row index)) c.member_state-other.ensures
    (subst (λ n. n < 255 → IsCoveredTo known target.flip
    (asked_of target.matters) more target.child target.letter c.member_state-other.result n) read
    (c.is_place_covered.ensures c.if-not-is_place_covered.false more walked)))

pub returns : goal.returns
returns c = λ e more walked j few.
    let inside : j < length c.args.row.now = counted_inside c.args.row.now j few in
    c.loop-index.invariant more walked j (omega (arith, inside, c.loop-index-test.false)) few
