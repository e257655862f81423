use Rattle.std.proofs.Common.{◌≡◌, ℕ, ◌+◌, List, [], ◌∷◌, ◌++◌, Option, None, Some, take, sym, subst, arith}
use Rattle.std.specs.Prelude.{IfSome, MatchOption}
use Rattle.rt_lines.specs.declared.line.Line.{Line}
use Rattle.rt_shape.specs.Graphs.{Graph}
use Rattle.rt_shape.specs.Shapes.{ArePairOf, ArePairs, IsNaming}
use Rattle.rt_shape.proofs.Named.{turn, IsNaming-nil, IsNaming-push, ArePairs-nil, ArePairs-kept, ArePairs-push_none, ArePairs-push_some}
use Rattle.rt_shape.proofs.naming.named.Goals as goal

-- the pair of one line more
paired : (front : List Line) (l : Line) (new : Graph) (pairs after : List (ℕ × ℕ)) (pair : Option (ℕ × ℕ)) → ArePairs front new pairs → ((i j : ℕ) → ArePairOf new l i j → pair ≡ Some (i, j)) → IfSome pair (λ p. ArePairOf new l p.0 p.1) →
    MatchOption pair (after ≡ pairs) (λ p. after ≡ pairs ++ p ∷ []) → ArePairs (front ++ l ∷ []) new after
paired front l new pairs after None were found are e = rw e (ArePairs-push_none front l new pairs were found)
paired front l new pairs after (Some pair) were found are e = rw e (ArePairs-push_some front l new pairs were pair found are)

pub loop-line-init : goal.loop-line-init
loop-line-init c = record {
  naming = IsNaming-nil c.new-tree.result c.new-tree.ensures;
  pairs = subst (ArePairs [] c.new-tree.result) (sym c.new-pairs.ensures.items) (ArePairs-nil c.new-tree.result);
}

pub loop-line-preserved : goal.loop-line-preserved
loop-line-preserved c =
    let front = take c.loop-line.line-index c.args.lines.now in
    let l = c.line-item.result in
    let new = c.enter_line.new.tree in
    let more : take (c.loop-line.line-index + 1) c.args.lines.now ≡ front ++ l ∷ [] = turn c.args.lines.now c.loop-line.line-index l (omega arith) c.line-item.is in
    let were : ArePairs front new c.loop-line.pairs.items =
    ArePairs-kept front c.loop-line.tree new c.loop-line.pairs.items c.loop-line.invariant.naming c.in_ok-sides.ensures.kept c.loop-line.invariant.pairs in
    record {
      naming = subst (λ ls. IsNaming ls new) (sym more)
          (IsNaming-push front l c.loop-line.tree new c.loop-line.invariant.naming c.in_ok-sides.ensures.sides c.in_ok-sides.ensures.kept c.in_ok-sides.ensures.only);
      pairs = subst (λ ls. ArePairs ls new c.add_pair.new.pairs.items) (sym more)
          (paired front l new c.loop-line.pairs.items c.add_pair.new.pairs.items c.in_ok-sides.sides were c.in_ok-sides.ensures.found c.in_ok-sides.ensures.are c.in_ok-add_pair.ensures);
    }
