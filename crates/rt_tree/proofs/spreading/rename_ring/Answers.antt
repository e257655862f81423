use Rattle.std.proofs.Common.{◌<◌, length, sym, subst, arith}
use Rattle.rt_tree.specs.Pairs.{AreClasses}
use Rattle.rt_tree.proofs.Sound.{set_classes}
use Rattle.rt_tree.proofs.spreading.rename_ring.Goals as goal
use Rattle.rt_tree.proofs.spreading.rename_ring.Goals.{then-class-x, else-class-x}

pub returns-then-x-start : goal.returns-then-x-start
returns-then-x-start c = λ t root are less follows.
    let now = c.loop.invariant.classes t root are less follows in
    let inside : c.loop.x < length t = subst (λ n. c.loop.x < n) now.each c.loop.invariant.x in
    elim c.if-class-x.branch [
      | then-class-x w ↦ subst (AreClasses t root) (sym w.class-is) (set_classes t root c.loop.class c.loop.x c.args.from c.args.to now inside less w.if-class-x.true follows)
      | else-class-x w ↦ subst (AreClasses t root) (sym w.class-is) now
    ]

pub loop-preserved : goal.loop-preserved
loop-preserved c =
    let within : c.loop.x < length c.args.next.now = let x = c.loop.invariant.x in let m = c.loop.auto.class in let e = c.requires.each in omega arith in
    let next = c.requires.next c.loop.x 0 within in
    record {
      x = let n = c.if-class-x.auto.class in let m = c.loop.auto.class in omega arith;
      classes = λ t root are less follows.
          let now = c.loop.invariant.classes t root are less follows in
          let inside : c.loop.x < length t = subst (λ n. c.loop.x < n) now.each c.loop.invariant.x in
          elim c.if-class-x.branch [
            | then-class-x w ↦ subst (AreClasses t root) (sym w.class-is) (set_classes t root c.loop.class c.loop.x c.args.from c.args.to now inside less w.if-class-x.true follows)
            | else-class-x w ↦ subst (AreClasses t root) (sym w.class-is) now
          ];
    }
