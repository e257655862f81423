use Rattle.std.proofs.Common.{ℕ, ◌+◌, List, Contains, get_or, subst, take}
use Rattle.std.proofs.lemmas.List.{take_all}
use Rattle.rt_base.proofs.Lists.{Contains-none}
use Rattle.rt_lattice.specs.Lattices.{IsBelow, size_of}
use Rattle.rt_sketch.specs.Bounds.{IsBoundOf, IsLeastOver}
use Rattle.rt_sketch.proofs.Joining.{bound_cases, bound_left, bound_right, itself, least_join, least_none, transitive}
use Rattle.rt_sketch.proofs.marks.joined.Goals as goal

pub loop-number-init : goal.loop-number-init
loop-number-init c =
    least_none (IsBelow c.args.lattice.now) (size_of c.args.lattice.now) (transitive c.args.lattice.now c.requires.lattice) (itself c.args.lattice.now) (IsBoundOf c.args.rows.now (take 0 c.args.numbers.now)) c.bottom-mark.result
    (λ k b. Contains-none b.0 b.1) c.bottom-mark.ensures

pub join_row-mark-requires-clause-first : goal.join_row-mark-requires-clause-first
join_row-mark-requires-clause-first c = c.loop-number.invariant.within

pub join_row-mark-requires-clause-bounds : goal.join_row-mark-requires-clause-bounds
join_row-mark-requires-clause-bounds c = λ k h. c.requires.bounds (get_or c.args.numbers.now c.loop-number.number-index 0) k (subst (λ (xs : List ℕ). Contains xs k) c.row.ensures h)

pub loop-number-preserved : goal.loop-number-preserved
loop-number-preserved c =
    let rows = c.args.rows.now in
    let numbers = c.args.numbers.now in
    let i = c.loop-number.number-index in
    least_join (IsBelow c.args.lattice.now) (size_of c.args.lattice.now) (transitive c.args.lattice.now c.requires.lattice) (itself c.args.lattice.now) (IsBoundOf rows (take i numbers)) (Contains c.row.result.now)
    (IsBoundOf rows (take (i + 1) numbers)) c.loop-number.mark c.join_row-mark.result (λ k b. c.requires.bounds b.0 k b.2) (bound_cases rows numbers i c.row.result.now c.loop-number-test.true c.row.ensures)
    (bound_left rows numbers i c.loop-number-test.true) (bound_right rows numbers i c.row.result.now c.loop-number-test.true c.row.ensures) c.loop-number.invariant c.join_row-mark.ensures

pub returns : goal.returns
returns c =
    subst (λ (xs : List ℕ). IsLeastOver (IsBelow c.args.lattice.now) (size_of c.args.lattice.now) (IsBoundOf c.args.rows.now xs) c.loop-number.mark) (take_all c.loop-number.number-index c.args.numbers.now c.loop-number-test.false) c.loop-number.invariant
