use Rattle.std.proofs.Common.{◌+◌, ◌<◌, length, get_or, sym, ap, subst, ◌∙◌, arith}
use Rattle.rt_lines.specs.declared.label.Loc.TheVariants.{Arg}
use Rattle.rt_lines.specs.declared.label.Label.TheVariants.{In}
use Rattle.rt_tree.specs.Pairs.{both, shifted_edges}
use Rattle.rt_tree.proofs.Both.{both_nodes}
use Rattle.rt_tree.proofs.Sound.{ends_follow}
use Rattle.rt_tree.proofs.spreading.spread_edges.Goals as goal

pub enter-top-requires-clause-first : goal.enter-top-requires-clause-first
enter-top-requires-clause-first c =
    let a = c.args.a.now in
    let b = c.args.b.now in
    let xs = c.edges_in-xs.result.now in
    let ys = c.edges_in-ys.result.now in
    let k = c.loop-k.k in
    let in_xs : k < length xs = let t = c.loop-k-test.true in let m = c.min-k-end.ensures in omega arith in
    let in_ys : k < length ys = let t = c.loop-k-test.true in let m = c.min-k-end.ensures in omega arith in
    let ends = ends_follow (both a b) (both_nodes a b c.requires.first c.requires.second) (length a) c.args.pair.0 c.args.pair.1 c.root_in-i.result c.root_in-j.result k xs ys (In (Arg 0), 0) c.requires.pair.0 c.requires.pair.1 c.requires.pair.2 (ap (λ n. shifted_edges n xs) c.root_in-i.ensures ∙ c.edges_in-xs.ensures) (ap (λ n. shifted_edges n ys) c.root_in-j.ensures ∙ c.edges_in-ys.ensures) in_xs in_ys in
    subst (λ n. c.root_in-i.result + (get_or xs k (In (Arg 0), 0)).1 < n) (sym c.loop-k.invariant.classes.each) ends.0

pub enter-top-requires-clause-second : goal.enter-top-requires-clause-second
enter-top-requires-clause-second c =
    let a = c.args.a.now in
    let b = c.args.b.now in
    let xs = c.edges_in-xs.result.now in
    let ys = c.edges_in-ys.result.now in
    let k = c.loop-k.k in
    let in_xs : k < length xs = let t = c.loop-k-test.true in let m = c.min-k-end.ensures in omega arith in
    let in_ys : k < length ys = let t = c.loop-k-test.true in let m = c.min-k-end.ensures in omega arith in
    let ends = ends_follow (both a b) (both_nodes a b c.requires.first c.requires.second) (length a) c.args.pair.0 c.args.pair.1 c.root_in-i.result c.root_in-j.result k xs ys (In (Arg 0), 0) c.requires.pair.0 c.requires.pair.1 c.requires.pair.2 (ap (λ n. shifted_edges n xs) c.root_in-i.ensures ∙ c.edges_in-xs.ensures) (ap (λ n. shifted_edges n ys) c.root_in-j.ensures ∙ c.edges_in-ys.ensures) in_xs in_ys in
    subst (λ n. c.root_in-j.result + (get_or ys k (In (Arg 0), 0)).1 < n) (sym c.loop-k.invariant.classes.each) ends.1

pub loop-k-preserved : goal.loop-k-preserved
loop-k-preserved c =
    let a = c.args.a.now in
    let b = c.args.b.now in
    let xs = c.edges_in-xs.result.now in
    let ys = c.edges_in-ys.result.now in
    let k = c.loop-k.k in
    let in_xs : k < length xs = let t = c.loop-k-test.true in let m = c.min-k-end.ensures in omega arith in
    let in_ys : k < length ys = let t = c.loop-k-test.true in let m = c.min-k-end.ensures in omega arith in
    let ends = ends_follow (both a b) (both_nodes a b c.requires.first c.requires.second) (length a) c.args.pair.0 c.args.pair.1 c.root_in-i.result c.root_in-j.result k xs ys (In (Arg 0), 0) c.requires.pair.0 c.requires.pair.1 c.requires.pair.2 (ap (λ n. shifted_edges n xs) c.root_in-i.ensures ∙ c.edges_in-xs.ensures) (ap (λ n. shifted_edges n ys) c.root_in-j.ensures ∙ c.edges_in-ys.ensures) in_xs in_ys in
    record {
      classes = c.enter-top.ensures.classes (both a b) (length a) c.loop-k.invariant.classes ends.2;
      next = c.enter-top.ensures.next;
      todo = c.enter-top.ensures.todo (both a b) (length a) c.loop-k.invariant.classes ends.2 c.loop-k.invariant.todo;
      top = c.enter-top.ensures.top;
    }
