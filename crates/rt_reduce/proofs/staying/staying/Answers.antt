use Rattle.std.proofs.Common.{◌≡◌, ◌+◌, [], ◌∷◌, true, length, length-append, replicate, sym, ap, ◌∙◌}
use Rattle.rt_reduce.specs.Inside.Dropping.{IsStaying}
use Rattle.rt_reduce.proofs.Cleared.{more_staying}
use Rattle.rt_reduce.proofs.staying.staying.Goals as goal
use Rattle.rt_reduce.proofs.staying.staying.Goals.{then-known-i, else-known-i+in_ok-yes}

pub loop-i-preserved : goal.loop-i-preserved
loop-i-preserved c =
    let order = c.args.order.now in
    let lines = c.args.lines.now in
    let old = c.loop-i.stays.items in
    let new = c.push.new.self.items in
    let yes = c.if-known-i.yes in
    let flags : c.if-known-i.stands.items ≡ replicate (length lines) true =
    elim c.if-known-i.branch [
      | then-known-i w ↦ ap (λ v. v.items) w.stands-is ∙ c.loop-i.invariant.flags
      | else-known-i+in_ok-yes w ↦ ap (λ v. v.items) w.stands-is ∙ w.in_ok-yes.ensures.same ∙ c.loop-i.invariant.flags
    ] in
    let here : yes ≡ true → IsStaying order lines c.loop-i.i =
    elim c.if-known-i.branch [
      | then-known-i w ↦ λ e. c.requires.known c.loop-i.i w.if-known-i.true
      | else-known-i+in_ok-yes w ↦ λ e. w.in_ok-yes.ensures.staying (sym w.yes-is ∙ e)
    ] in
    record {
      flags = flags;
      each = ap length c.in_ok-push.ensures.items ∙ length-append old (yes ∷ []) ∙ ap (λ n. n + 1) c.loop-i.invariant.each;
      staying = more_staying order lines old new c.loop-i.i yes c.in_ok-push.ensures.items
          c.loop-i.invariant.each here c.loop-i.invariant.staying;
    }
