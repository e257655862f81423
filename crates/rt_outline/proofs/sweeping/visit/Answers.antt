use Rattle.std.proofs.Common.{◌≡◌, ℕ, true, Some, None, refl, sym, ap, ◌∙◌}
use Rattle.rt_outline.specs.Arcs.{Leads}
use Rattle.rt_outline.specs.Inside.Sweeps.{end_of}
use Rattle.rt_named.proofs.Noting.{left_as, left_none}
use Rattle.rt_outline.proofs.sweeping.visit.Goals as goal

pub returns-in_ok-insert-in-Some-clause-found : goal.returns-in_ok-insert-in-Some-clause-found
returns-in_ok-insert-in-Some-clause-found c =
    left_none (λ (w : ℕ). (end_of c.args.frame.now.steps c.args.origin.0 c.args.origin.1 c.args.next ≡ None) × Leads c.args.arcs.now c.args.stands.now true c.args.next w) c.args.room.now.found c.args.room.now.found refl
    (λ w p. absurd (let e : None ≡ Some c.in-Some.end = sym p.0 ∙ sym c.end.ensures ∙ c.in-Some.is in cc))

pub returns-in_ok-insert-in-Some-clause-ends : goal.returns-in_ok-insert-in-Some-clause-ends
returns-in_ok-insert-in-Some-clause-ends c =
    left_as (λ (w : ℕ). c.in-Some.end ≡ w) (λ (w : ℕ). end_of c.args.frame.now.steps c.args.origin.0 c.args.origin.1 c.args.next ≡ Some w) c.args.room.now.ends c.insert.new.self
    (λ w e. sym c.end.ensures ∙ c.in-Some.is ∙ ap Some e) (λ w e. (let f : Some c.in-Some.end ≡ Some w = sym c.in-Some.is ∙ c.end.ensures ∙ e in cc)) c.in_ok-insert-in-Some.ensures

pub returns-in_ok-leave-in-None-clause-found : goal.returns-in_ok-leave-in-None-clause-found
returns-in_ok-leave-in-None-clause-found c =
    left_as (Leads c.args.arcs.now c.args.stands.now true c.args.next)
    (λ (w : ℕ). (end_of c.args.frame.now.steps c.args.origin.0 c.args.origin.1 c.args.next ≡ None) × Leads c.args.arcs.now c.args.stands.now true c.args.next w) c.args.room.now.found c.leave.new.found
    (λ w e. (sym c.end.ensures ∙ c.in-None.is, e)) (λ w p. p.1) c.in_ok-leave-in-None.ensures

pub returns-in_ok-leave-in-None-clause-ends : goal.returns-in_ok-leave-in-None-clause-ends
returns-in_ok-leave-in-None-clause-ends c =
    left_none (λ (w : ℕ). end_of c.args.frame.now.steps c.args.origin.0 c.args.origin.1 c.args.next ≡ Some w) c.args.room.now.ends c.args.room.now.ends refl
    (λ w e. absurd (let f : None ≡ Some w = sym c.in-None.is ∙ c.end.ensures ∙ e in cc))
