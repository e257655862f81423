use Rattle.std.proofs.Common.{◌-◌, length, sym, subst, arith}
use Rattle.rt_tree.specs.Trees.{AreLike}
use Rattle.rt_tree.specs.Pairs.{both, Follows}
use Rattle.rt_tree.proofs.spreading.spread.Goals as goal

pub loop-init : goal.loop-init
loop-init c =
    let a = c.args.a.now in
    let b = c.args.b.now in
    let roots : Follows (both a b) (length a) 0 c.size-root.result = λ like. subst (λ n. AreLike (both a b) 0 n) (sym c.size-root.ensures.count) like in
    record {
      classes = c.enter-top.ensures.classes (both a b) (length a) c.requires.classes roots;
      next = c.enter-top.ensures.next;
      todo = c.enter-top.ensures.todo (both a b) (length a) c.requires.classes roots c.requires.todo;
      top = c.enter-top.ensures.top;
    }

pub spread_edges-top-requires-clause-pair : goal.spread_edges-top-requires-clause-pair
spread_edges-top-requires-clause-pair c =
    c.loop.invariant.todo (c.loop.top - 1) (0, 0) (let t = c.loop.invariant.top in let n = c.if-top-eq0.false in omega arith)
