use Rattle.std.proofs.Common.{◌≡◌, ℕ, ◌<◌, slice_index, sym, subst, ◌∙◌}
use Rattle.std.proofs.lemmas.Result.{IfOk-weaker}
use Rattle.rt_shape.specs.Shapes.{ArePairs}
use Rattle.rt_shape.proofs.Classed.{own_are_classes}
use Rattle.rt_shape.proofs.Within.{pairs_within}
use Rattle.rt_shape.proofs.plain.of.Goals as goal

pub shape_of-requires-clause-classes : goal.shape_of-requires-clause-classes
shape_of-requires-clause-classes c =
    let count = c.count.ensures.count in
    own_are_classes c.in_ok-naming.naming.tree c.deref.result.now c.in_ok-class.class.items (c.in_ok-class.ensures.each ∙ count) (subst (λ n. (i : ℕ) → i < n → slice_index c.in_ok-class.class.items i ≡ i) count c.in_ok-class.ensures.own)

pub shape_of-requires-clause-pairs_in : goal.shape_of-requires-clause-pairs_in
shape_of-requires-clause-pairs_in c =
    pairs_within c.args.lines.now c.in_ok-naming.naming.tree c.deref.result.now c.count.ensures.good (subst (ArePairs c.args.lines.now c.in_ok-naming.naming.tree) (sym c.deref.ensures.value) c.in_ok-naming.ensures.pairs)

pub returns : goal.returns
returns c =
    let are = subst (ArePairs c.args.lines.now c.in_ok-naming.naming.tree) (sym c.deref.ensures.value) c.in_ok-naming.ensures.pairs in
    IfOk-weaker c.shape_of.result _ _ (λ shape h. h c.args.lines.now c.in_ok-naming.ensures.naming are) c.shape_of.ensures
