use Rattle.std.proofs.Common.{◌≡◌, ℕ, ◌<◌, List, length, map, get_or, refl, sym, subst, arith}
use Rattle.rt_tree.specs.Trees.{Nodes}
use Rattle.rt_tree.specs.Pairs.{both, AreClasses, IsFoundOfAll, renamed_class}
use Rattle.rt_tree.specs.declared.equality.Found.TheVariants.{Apart}
use Rattle.rt_tree.proofs.Both.{length-both, both_nodes}
use Rattle.rt_tree.proofs.Alike.{total, total-renamed, renamed_classes, roots_alike}
use Rattle.rt_tree.proofs.equality.settle.Goals as goal

module _ (t : Nodes) (root : ℕ) (old new : List ℕ) (i j : ℕ) (are : AreClasses t root old) (found : IsFoundOfAll old t root (Apart i j))
    (renamed : new ≡ map (renamed_class (get_or old i 0) (get_or old j 0)) old) where
  kept : AreClasses t root new
  kept = subst (AreClasses t root) (sym renamed) (renamed_classes t root old are i j found.0 found.1 found.2)

  falls : total new < total old
  falls =
      subst (λ xs. total xs < total old) (sym renamed)
      (total-renamed old i j (subst (λ n. i < n) (sym are.each) found.0) (subst (λ n. j < n) (sym are.each) found.1) found.3)

pub compare_all-found-requires-in-Apart-clause-classes : goal.compare_all-found-requires-in-Apart-clause-classes
compare_all-found-requires-in-Apart-clause-classes c =
    kept (both c.args.a.now c.args.b.now) (length c.args.a.now) c.loop-found.class c.rename.new.class c.in-Apart.i c.in-Apart.j c.loop-found.invariant.classes (rw c.in-Apart.is at c.loop-found.invariant.found) c.rename.ensures

pub loop-found-smaller : goal.loop-found-smaller
loop-found-smaller c =
    falls (both c.args.a.now c.args.b.now) (length c.args.a.now) c.loop-found.class c.rename.new.class c.in-Apart.i c.in-Apart.j c.loop-found.invariant.classes (rw c.in-Apart.is at c.loop-found.invariant.found) c.rename.ensures

pub loop-found-preserved : goal.loop-found-preserved
loop-found-preserved c = record {
  classes = kept (both c.args.a.now c.args.b.now) (length c.args.a.now) c.loop-found.class c.rename.new.class c.in-Apart.i c.in-Apart.j c.loop-found.invariant.classes (rw c.in-Apart.is at c.loop-found.invariant.found) c.rename.ensures;
  found = c.compare_all-found-in-Apart.ensures;
}

pub returns-in-Same : goal.returns-in-Same
returns-in-Same c =
    let a = c.args.a.now in
    let b = c.args.b.now in
    let len = length-both a b in
    let rooted = c.requires.first.rooted in
    let rooted' = c.requires.second.rooted in
    (λ _. roots_alike (both a b) (both_nodes a b c.requires.first c.requires.second) (length a) c.loop-found.class c.loop-found.invariant.classes (rw c.in-Same.is at c.loop-found.invariant.found) (omega arith) (omega arith), λ _. refl)
