use Rattle.std.proofs.Common.{◌≡◌, true, false}
use Rattle.std.specs.BTreeSet.{contains}
use Rattle.std.specs.Ordering.{is_eq, nat_cmp}
use Rattle.rt_polar.specs.Index.{has}
use Rattle.rt_polar.proofs.Turning.{none_in}
use Rattle.rt_refine.proofs.Noting.{number_self}
use Rattle.rt_twins.proofs.Following.{none_there, followed_first, followed_more, followed_all, followed_last}
use Rattle.rt_twins.proofs.leading.leading.Goals as goal

pub loop-least-init : goal.loop-least-init
loop-least-init c =
    followed_first c.args.sign c.args.lines.now (contains nat_cmp c.new-none.result) (contains nat_cmp c.in_ok-bare.bare)
    (contains nat_cmp c.in_ok-pending.pending) (λ n. none_there (λ k. is_eq (nat_cmp n k)) c.new-none.result.keys c.new-none.ensures.empty)
    c.in_ok-bare.ensures c.in_ok-pending.ensures (contains nat_cmp c.new-out.result) (has c.in_ok-arrows.arrows)
    (λ n. none_there (λ k. is_eq (nat_cmp n k)) c.new-out.result.keys c.new-out.ensures.empty) c.in_ok-arrows.ensures

pub loop-least-preserved-in_ok-insert-in-Some-first_arrow : goal.loop-least-preserved-in_ok-insert-in-Some-first_arrow
loop-least-preserved-in_ok-insert-in-Some-first_arrow c =
    let m = c.in-Some.least.now in
    let n = c.in-Some-first_arrow.other in
    followed_more c.args.sign c.args.lines.now (contains nat_cmp c.loop-least.out) (contains nat_cmp c.loop-least.pending)
    (contains nat_cmp c.insert.new.self) (has c.loop-least.arrows) (has c.remove.new.self) m n c.loop-least.invariant c.in-Some.ensures.member
    c.in-Some-first_arrow.ensures (λ q. c.in_ok-insert-in-Some-first_arrow.ensures.updates.0 q)
    (λ a b. c.remove.ensures.updates.0 (a, b)) (number_self n)

pub loop-least-preserved : goal.loop-least-preserved
loop-least-preserved c =
    followed_all c.args.sign c.args.lines.now (contains nat_cmp c.loop-least.out) (contains nat_cmp c.insert-in-None.new.self)
    (contains nat_cmp c.loop-least.pending) (contains nat_cmp c.remove-in-None.new.self) (has c.loop-least.arrows) c.in-Some.least.now
    c.loop-least.invariant c.in-Some.ensures.member c.in-None.ensures (λ q. c.in_ok-insert-in-None.ensures.updates.0 q)
    (λ q. c.remove-in-None.ensures.updates.0 q)

pub returns : goal.returns
returns c =
    followed_last c.args.sign c.args.lines.now (contains nat_cmp c.loop-least.out) (contains nat_cmp c.loop-least.pending)
    (has c.loop-least.arrows) c.loop-least.invariant
    (λ n. none_in (λ k. is_eq (nat_cmp n k)) c.loop-least.pending.keys (λ h. let f : false ≡ true = c.in_default.ensures.variant.1 h in cc))
