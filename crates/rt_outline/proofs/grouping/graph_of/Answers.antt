use Rattle.std.proofs.Common.{ℕ, ◌+◌, ◌<◌, List, [], ◌∷◌, ◌++◌, get_or, refl, set, take, sym, subst}
use Rattle.rt_outline.specs.Together.{IsGraphOf}
use Rattle.rt_base.proofs.Lists.{Contains-read}
use Rattle.rt_outline.proofs.Joining.{graph_more, pair_next}
use Rattle.rt_outline.proofs.grouping.graph_of.Goals as goal

pub add_edge-requires-clause-from : goal.add_edge-requires-clause-from
add_edge-requires-clause-from c =
    let p = get_or c.args.pairs.now c.loop-pair.pair-index (0, 0) in
    subst (λ n. p.0 < n) (sym c.loop-pair.invariant.each)
    (c.requires.within p.0 p.1 (Contains-read c.args.pairs.now c.loop-pair.pair-index (0, 0) p c.loop-pair-test.true refl)).0

pub add_edge-requires-clause-to : goal.add_edge-requires-clause-to
add_edge-requires-clause-to c =
    let p = get_or c.args.pairs.now c.loop-pair.pair-index (0, 0) in
    subst (λ n. p.1 < n) (sym c.loop-pair.invariant.each)
    (c.requires.within p.0 p.1 (Contains-read c.args.pairs.now c.loop-pair.pair-index (0, 0) p c.loop-pair-test.true refl)).1

pub loop-pair-preserved : goal.loop-pair-preserved
loop-pair-preserved c =
    let pairs = c.args.pairs.now in
    let i = c.loop-pair.pair-index in
    let p = get_or pairs i (0, 0) in
    subst (IsGraphOf (take (i + 1) pairs) c.args.count) (sym c.in_ok-add_edge.ensures.ok)
    (subst (λ (xs : List (ℕ × ℕ)). IsGraphOf xs c.args.count
    (set c.loop-pair.graph p.0 (get_or c.loop-pair.graph p.0 [] ++ p.1 ∷ []))) (sym (pair_next pairs i c.loop-pair-test.true))
    (graph_more (take i pairs) p.0 p.1 c.args.count c.loop-pair.graph
    (subst (λ n. p.0 < n) (sym c.loop-pair.invariant.each)
    (c.requires.within p.0 p.1 (Contains-read pairs i (0, 0) p c.loop-pair-test.true refl)).0) c.loop-pair.invariant))
