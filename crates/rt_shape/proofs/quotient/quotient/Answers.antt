use Rattle.std.proofs.Common.{◌≡◌, ℕ, ◌<◌, List, length, slice_index, sym, subst, arith}
use Rattle.std.proofs.lemmas.List.Elements.{All-from_get_or}
use Rattle.std.proofs.lemmas.Result.{IfOk-weaker}
use Rattle.rt_shape.specs.Graphs.{Graph}
use Rattle.rt_shape.specs.Inside.Classes.{IsNumbering, IsQuotient}
use Rattle.rt_shape.proofs.quotient.quotient.Goals as goal

pub numbered-requires-clause-few : goal.numbered-requires-clause-few
numbered-requires-clause-few c = omega arith

pub numbered-requires-clause-within : goal.numbered-requires-clause-within
numbered-requires-clause-within c =
    All-from_get_or (λ k. k < length c.args.class.now) c.args.class.now 0
    (λ i less. subst (λ n. slice_index c.args.class.now i < n) (sym c.requires.classes.each) (c.requires.classes.within i (subst (λ n. i < n) c.requires.classes.each less)))

pub numbered_shape-requires-clause-tree : goal.numbered_shape-requires-clause-tree
numbered_shape-requires-clause-tree c = c.count-nodes.ensures.good

pub numbered_shape-requires-clause-number : goal.numbered_shape-requires-clause-number
numbered_shape-requires-clause-number c = (
  c.args.class.now,
  c.requires.classes.each,
  c.requires.closed.steps_one,
  subst (λ ns. IsNumbering c.args.class.now ns c.in_ok-number.count) (sym c.deref.ensures.value) c.in_ok-number.ensures,
)

pub returns : goal.returns
returns c =
    let class = c.args.class.now in
    let tree = c.args.tree.now in
    let number = c.deref.result.now in
    let count = c.in_ok-number.count in
    let numbering : IsNumbering class number count = subst (λ ns. IsNumbering class ns count) (sym c.deref.ensures.value) c.in_ok-number.ensures in
    let P : Graph → Type 0 = λ shape. (shape.count ≡ count) × IsQuotient tree number shape in
    let Q : Graph → Type 0 = λ shape. (numbers : List ℕ) × IsNumbering class numbers shape.count × IsQuotient tree numbers shape in
    IfOk-weaker c.numbered_shape.result P Q (λ shape (e, quotient). (number, subst (IsNumbering class number) (sym e) numbering, quotient)) c.numbered_shape.ensures
