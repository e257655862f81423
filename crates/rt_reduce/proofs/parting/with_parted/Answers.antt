use Rattle.std.proofs.Common.{◌≡◌, ◌+◌, [], ◌∷◌, true, length, replicate, length-append, sym, ap, ◌∙◌}
use Rattle.rt_lines.specs.Orders.{Below}
use Rattle.rt_reduce.specs.Inside.Dropping.{AreStaying, IsStaying}
use Rattle.rt_reduce.proofs.Cleared.{more_staying}
use Rattle.rt_reduce.proofs.parting.with_parted.Goals as goal
use Rattle.rt_reduce.proofs.parting.with_parted.Goals.{then-not-yes+then-asked-lt-MOST+then-has+in_ok-yes, else-not-yes}

pub loop-i-preserved : goal.loop-i-preserved
loop-i-preserved c =
    let lines = c.args.lines.now in
    let stays = c.args.stays.now in
    let old = c.loop-i.now.items in
    let new = c.push.new.self.items in
    let yes = c.if-not-yes.yes in
    let flags : c.if-not-yes.others.items ≡ replicate (length lines) true = elim c.if-not-yes.branch [
      | then-not-yes+then-asked-lt-MOST+then-has+in_ok-yes w ↦
          ap (λ v. v.items) w.others-is ∙ w.in_ok-yes.ensures.same ∙ c.loop-i.invariant.flags
      | else-not-yes w ↦ ap (λ v. v.items) w.others-is ∙ c.loop-i.invariant.flags
    ] in
    let here : (order : Below) → AreStaying order lines stays → yes ≡ true → IsStaying order lines c.loop-i.i =
    elim c.if-not-yes.branch [
      | then-not-yes+then-asked-lt-MOST+then-has+in_ok-yes w ↦
          λ order are set. w.in_ok-yes.ensures.staying (sym w.yes-is ∙ set) order
      | else-not-yes w ↦ λ order are set. are c.loop-i.i (sym w.yes-is ∙ set)
    ] in
    record {
      flags = flags;
      each = ap length c.in_ok-push.ensures.items ∙ length-append old (yes ∷ []) ∙ ap (λ n. n + 1) c.loop-i.invariant.each;
      staying = λ order are. more_staying order lines old new c.loop-i.i yes c.in_ok-push.ensures.items c.loop-i.invariant.each
          (here order are) (c.loop-i.invariant.staying order are);
    }
