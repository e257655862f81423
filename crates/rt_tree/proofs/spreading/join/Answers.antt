use Rattle.std.proofs.Common.{◌<◌, length, sym, subst}
use Rattle.rt_tree.specs.Pairs.{AreClasses}
use Rattle.rt_tree.proofs.Alike.{follows_back}
use Rattle.rt_tree.proofs.Sound.{names_follow}
use Rattle.rt_tree.proofs.spreading.join.Goals as goal
use Rattle.rt_tree.proofs.spreading.join.Goals.{then-size-p, else-size-p}

pub returns-clause-classes : goal.returns-clause-classes
returns-clause-classes c = λ t root are follows.
    let class = c.args.class.now in
    let i = c.args.i in
    let j = c.args.j in
    let less : i < length t = subst (λ n. i < n) are.each c.requires.i in
    let less' : j < length t = subst (λ n. j < n) are.each c.requires.j in
    elim c.if-size-p.branch [
      | then-size-p w ↦ subst (AreClasses t root) (sym w.class-is) (w.rename_ring.ensures t root are (are.within j less') (names_follow t root class i j are less less' follows))
      | else-size-p w ↦
          subst (AreClasses t root) (sym w.class-is)
          (w.rename_ring-else-size-p.ensures t root are (are.within i less) (names_follow t root class j i are less' less (follows_back t root i j follows)))
    ]
