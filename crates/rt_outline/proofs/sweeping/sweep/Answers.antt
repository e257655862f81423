use Rattle.std.proofs.Common.{◌≡◌, ℕ, true, None, Some, sym, subst}
use Rattle.std.proofs.lemmas.Option.{get_or_from_slice_get, slice_get_within}
use Rattle.rt_named.specs.Numbers.{IsLeft}
use Rattle.rt_outline.specs.Arcs.{Leads}
use Rattle.rt_outline.specs.Inside.Sweeps.{end_of}
use Rattle.rt_outline.proofs.Swept.{sweeping_first, sweeping_next, sweeping_whole}
use Rattle.rt_outline.proofs.sweeping.sweep.Goals as goal
use Rattle.rt_base.proofs.Lists.{past_end}

pub loop-i-init : goal.loop-i-init
loop-i-init c =
    sweeping_first (Leads c.args.arcs.now c.args.stands.now true) c.args.frame.now.steps c.args.origin.0 c.args.origin.1 c.insert.new.self c.clear.new.self
    (subst (λ xs. IsLeft (λ (w : ℕ). c.args.origin.0 ≡ w) xs c.insert.new.self) c.clear-2.ensures c.in_ok-insert.ensures) c.clear.ensures

pub returns-in_default-clause-swept : goal.returns-in_default-clause-swept
returns-in_default-clause-swept c =
    sweeping_whole (Leads c.args.arcs.now c.args.stands.now true) c.args.frame.now.steps c.args.origin.0 c.args.origin.1 c.loop-i.room.found c.loop-i.room.ends c.loop-i.i
    (past_end c.loop-i.room.found c.loop-i.i (sym c.in_default.ensures)) c.loop-i.invariant

pub returns-in_default-clause-ends : goal.returns-in_default-clause-ends
returns-in_default-clause-ends c = c.loop-i.invariant.ends

pub loop-i-preserved : goal.loop-i-preserved
loop-i-preserved c =
    sweeping_next (Leads c.args.arcs.now c.args.stands.now true) c.args.frame.now.steps c.args.origin.0 c.args.origin.1 c.loop-i.room.found c.visit.new.room.found c.loop-i.room.ends c.visit.new.room.ends c.loop-i.i
    (slice_get_within c.loop-i.room.found c.loop-i.i c.in-Some.next (sym c.in-Some.ensures))
    (subst (λ n. IsLeft (λ (w : ℕ). (end_of c.args.frame.now.steps c.args.origin.0 c.args.origin.1 n ≡ None) × Leads c.args.arcs.now c.args.stands.now true n w) c.loop-i.room.found c.visit.new.room.found)
    (sym (get_or_from_slice_get c.loop-i.room.found c.loop-i.i c.in-Some.next 0 (sym c.in-Some.ensures))) c.in_ok-visit.ensures.found)
    (subst (λ n. IsLeft (λ (w : ℕ). end_of c.args.frame.now.steps c.args.origin.0 c.args.origin.1 n ≡ Some w) c.loop-i.room.ends c.visit.new.room.ends)
    (sym (get_or_from_slice_get c.loop-i.room.found c.loop-i.i c.in-Some.next 0 (sym c.in-Some.ensures))) c.in_ok-visit.ensures.ends) c.loop-i.invariant
