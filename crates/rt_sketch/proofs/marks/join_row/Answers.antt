use Rattle.std.proofs.Common.{◌≡◌, ◌+◌, ◌⊎◌, inl, inr, Contains, refl, take}
use Rattle.rt_lattice.specs.Lattices.{IsBelow, size_of}
use Rattle.rt_sketch.proofs.Joining.{first_none, itself, least_as, least_more, least_one, row_more, row_left, row_back, row_small, row_whole, take_here, transitive}
use Rattle.rt_sketch.proofs.marks.join_row.Goals as goal
use Rattle.rt_base.proofs.Lists.{Contains-at}

pub loop-bound-init : goal.loop-bound-init
loop-bound-init c =
    least_one (IsBelow c.args.lattice.now) (size_of c.args.lattice.now) (transitive c.args.lattice.now c.requires.lattice) (itself c.args.lattice.now) (λ k. (k ≡ c.args.first) ⊎ Contains (take 0 c.args.row.now) k) c.args.first c.requires.first (inl refl)
    (first_none c.args.first c.args.row.now)

pub join-mark-requires-clause-first : goal.join-mark-requires-clause-first
join-mark-requires-clause-first c = c.loop-bound.invariant.within

pub join-mark-requires-clause-second : goal.join-mark-requires-clause-second
join-mark-requires-clause-second c = c.requires.bounds _ (Contains-at c.args.row.now c.loop-bound.bound-index c.loop-bound-test.true)

pub loop-bound-preserved : goal.loop-bound-preserved
loop-bound-preserved c =
    let row = c.args.row.now in
    let i = c.loop-bound.bound-index in
    least_more (IsBelow c.args.lattice.now) (size_of c.args.lattice.now) (transitive c.args.lattice.now c.requires.lattice) (itself c.args.lattice.now) (λ k. (k ≡ c.args.first) ⊎ Contains (take i row) k)
    (λ k. (k ≡ c.args.first) ⊎ Contains (take (i + 1) row) k) c.loop-bound.mark _ c.join-mark.result (row_small (size_of c.args.lattice.now) c.args.first row i c.requires.first c.requires.bounds)
    (c.requires.bounds _ (Contains-at row i c.loop-bound-test.true)) (row_more c.args.first row i c.loop-bound-test.true) (row_left c.args.first row i c.loop-bound-test.true) (inr (take_here row i c.loop-bound-test.true)) c.loop-bound.invariant c.join-mark.ensures

pub returns : goal.returns
returns c =
    least_as (IsBelow c.args.lattice.now) (size_of c.args.lattice.now) (transitive c.args.lattice.now c.requires.lattice) (itself c.args.lattice.now) (λ k. (k ≡ c.args.first) ⊎ Contains (take c.loop-bound.bound-index c.args.row.now) k)
    (λ k. (k ≡ c.args.first) ⊎ Contains c.args.row.now k) c.loop-bound.mark (row_whole c.args.first c.args.row.now c.loop-bound.bound-index) (row_back c.args.first c.args.row.now c.loop-bound.bound-index c.loop-bound-test.false) c.loop-bound.invariant
