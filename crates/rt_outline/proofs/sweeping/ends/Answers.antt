use Rattle.std.proofs.Common.{rules, ◌≡◌, ℕ, true, List, [], Contains, sym, subst, arith}
use Rattle.std.specs.Prelude.{slice_index_or}
use Rattle.std.proofs.lemmas.List.{nil_from_length}
use Rattle.rt_outline.specs.declared.arc.Arc.{Arc}
use Rattle.rt_components.specs.Groups.{Reaches}
use Rattle.rt_outline.specs.Arcs.{Leads}
use Rattle.rt_outline.specs.Inside.Sweeps.{IsEnd, IsSwept, end_of}
use Rattle.rt_outline.proofs.Pushing.{end_pushed, followed_noted, swept_done}
use Rattle.rt_outline.proofs.sweeping.ends.Goals as goal

-- src/sweeping.rt:59:9
pub returns-then-eq-clause-done : goal.returns-then-eq-clause-done
returns-then-eq-clause-done c = λ e.
    (let same : c.reached_from.result.now ≡ c.numbers.result.now = search rules in
    swept_done c.args.frame.now.origins.items c.args.frame.now.steps c.args.frame.now.arcs.items c.args.frame.now.back.items c.args.stands.now c.args.node c.args.origin.0 c.args.origin.1
    c.sweep.new.room.ends c.sweep.new.room.found c.requires.frame c.requires.made
    (λ w k. c.requires.followed c.args.node w (subst (λ (ys : List (List ℕ)). Contains (slice_index_or ys c.args.node []) w) c.deref.ensures.value (subst (λ xs. Contains xs w) c.reached_from.ensures (subst (λ xs. Contains xs w) (sym same) (subst (λ xs. Contains xs w) (sym c.numbers.ensures) k)))))
    (subst (λ xs. IsSwept (Leads xs c.args.stands.now true) (end_of c.args.frame.now.steps c.args.origin.0 c.args.origin.1) (Contains c.sweep.new.room.ends) c.args.origin.0 c.sweep.new.room.found) c.side-arcs.ensures c.in_ok-sweep.ensures.swept))

-- src/sweeping.rt:63:9
pub returns-then-not-is_empty-clause-pushed : goal.returns-then-not-is_empty-clause-pushed
returns-then-not-is_empty-clause-pushed c = λ w h.
    end_pushed c.args.frame.now.origins.items c.args.frame.now.steps c.args.frame.now.arcs.items c.args.frame.now.back.items c.args.stands.now c.args.node c.args.origin.0 c.args.origin.1 w c.requires.frame c.requires.made
    (subst (λ xs. IsEnd (Leads xs c.args.stands.now true) c.args.frame.now.steps c.args.origin.0 c.args.origin.1 w) c.side-arcs.ensures (c.in_ok-sweep.ensures.ends w (c.in_ok-fresh.ensures.only w h)))

-- src/sweeping.rt:38:1
pub returns-clause-done : goal.returns-clause-done
returns-clause-done c = λ e.
    swept_done c.args.frame.now.origins.items c.args.frame.now.steps c.args.frame.now.arcs.items c.args.frame.now.back.items c.args.stands.now c.args.node c.args.origin.0 c.args.origin.1
    c.sweep.new.room.ends c.sweep.new.room.found c.requires.frame c.requires.made
    (λ w k. subst (λ (ys : List (List Arc)). Reaches (Leads ys [] true) c.args.node w) c.deref-2.ensures.value (c.in_ok-fresh.ensures.none e w k))
    (subst (λ xs. IsSwept (Leads xs c.args.stands.now true) (end_of c.args.frame.now.steps c.args.origin.0 c.args.origin.1) (Contains c.sweep.new.room.ends) c.args.origin.0 c.sweep.new.room.found) c.side-arcs.ensures c.in_ok-sweep.ensures.swept)

-- src/sweeping.rt:38:1
pub returns-clause-followed : goal.returns-clause-followed
returns-clause-followed c =
    (let none : c.in_ok-fresh.fresh.items ≡ [] = nil_from_length c.in_ok-fresh.fresh.items (grind (arith, c.if-not-is_empty.ensures, c.if-not-is_empty.false)) in
    followed_noted c.args.reached.now.items c.note.new.reached.items c.args.frame.now.arcs.items c.args.node c.numbers-2.result.now c.in_ok-note.ensures
    (λ w k. subst (λ (ys : List (List Arc)). Reaches (Leads ys [] true) c.args.node w) c.deref-2.ensures.value (c.in_ok-fresh.ensures.none none w (subst (λ xs. Contains xs w) c.numbers-2.ensures k)))
    c.requires.followed)
