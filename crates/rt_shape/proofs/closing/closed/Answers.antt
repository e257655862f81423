use Rattle.std.proofs.Common.{◌≡◌, ℕ, ◌<◌, ◌++◌, List, length, map, take, drop, get_or, sym, ap, subst, ◌∙◌, arith}
use Rattle.std.proofs.lemmas.List.{length-map, take_at}
use Rattle.rt_shape.specs.Graphs.{Graph}
use Rattle.rt_shape.specs.Inside.Classes.{AreClasses, IsViolated, renamed_class}
use Rattle.rt_shape.proofs.Classed.{total, renamed_classes, total-renamed}
use Rattle.rt_shape.proofs.closing.closed.Goals as goal

module _ (graph : Graph) (pairs : List (ℕ × ℕ)) (old new : List ℕ) (len i j : ℕ) (are : AreClasses graph pairs old)
    (violated : IsViolated graph pairs old i j) (renamed : new ≡ map (renamed_class (get_or old i 0) (get_or old j 0)) old) (whole : length old ≡ len) where
  written : take len (new ++ drop (length new) old) ≡ new
  written = take_at new (drop (length new) old) len (ap length renamed ∙ length-map old (renamed_class (get_or old i 0) (get_or old j 0)) ∙ whole)

  preserved : AreClasses graph pairs (take len (new ++ drop (length new) old))
  preserved = subst (AreClasses graph pairs) (sym (written ∙ renamed)) (renamed_classes graph pairs old are i j violated)

  falls : total (take len (new ++ drop (length new) old)) < total old
  falls =
      subst (λ xs. total xs < total old) (sym (written ∙ renamed))
      (total-renamed old i j (subst (λ n. i < n) (sym are.each) violated.first_in) (subst (λ n. j < n) (sym are.each) violated.second_in) violated.apart)

pub loop-class-preserved : goal.loop-class-preserved
loop-class-preserved c =
    let found = c.in_ok-i.ensures in
    let violated : IsViolated c.args.tree.now c.args.pairs.now c.loop-class.class.items c.in-Some.i c.in-Some.j =
    subst (λ xs. IsViolated c.args.tree.now c.args.pairs.now xs c.in-Some.i c.in-Some.j) c.deref.ensures.value (rw c.in-Some.is at found) in
    let renamed : c.rename.new.class ≡ map (renamed_class (get_or c.loop-class.class.items c.in-Some.i 0) (get_or c.loop-class.class.items c.in-Some.j 0)) c.loop-class.class.items =
    subst (λ xs. c.rename.new.class ≡ map (renamed_class (get_or xs c.in-Some.i 0) (get_or xs c.in-Some.j 0)) xs) c.deref_mut.ensures.value c.rename.ensures in
    preserved c.args.tree.now c.args.pairs.now c.loop-class.class.items c.rename.new.class c.loop-class.class.len c.in-Some.i c.in-Some.j c.loop-class.invariant violated renamed (omega arith)

pub loop-class-smaller : goal.loop-class-smaller
loop-class-smaller c =
    let found = c.in_ok-i.ensures in
    let violated : IsViolated c.args.tree.now c.args.pairs.now c.loop-class.class.items c.in-Some.i c.in-Some.j =
    subst (λ xs. IsViolated c.args.tree.now c.args.pairs.now xs c.in-Some.i c.in-Some.j) c.deref.ensures.value (rw c.in-Some.is at found) in
    let renamed : c.rename.new.class ≡ map (renamed_class (get_or c.loop-class.class.items c.in-Some.i 0) (get_or c.loop-class.class.items c.in-Some.j 0)) c.loop-class.class.items =
    subst (λ xs. c.rename.new.class ≡ map (renamed_class (get_or xs c.in-Some.i 0) (get_or xs c.in-Some.j 0)) xs) c.deref_mut.ensures.value c.rename.ensures in
    falls c.args.tree.now c.args.pairs.now c.loop-class.class.items c.rename.new.class c.loop-class.class.len c.in-Some.i c.in-Some.j c.loop-class.invariant violated renamed (omega arith)
