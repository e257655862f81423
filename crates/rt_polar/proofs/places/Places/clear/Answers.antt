use Rattle.std.proofs.Common.{None, sym, subst, ◌∙◌}
use Rattle.std.proofs.Math.ListN.{set}
use Rattle.rt_polar.specs.Index.{has, IsBareForgotten, IsForgotten}
use Rattle.rt_polar.specs.Inside.Places.{AreHeld, Holds}
use Rattle.rt_polar.proofs.Holding.{held_cleared}
use Rattle.rt_polar.proofs.Pairs.{bare_forgotten}
use Rattle.rt_polar.proofs.Slots.{held_by}
use Rattle.rt_polar.proofs.places.Places.clear.Goals as goal

pub returns-in-Some-clause-places : goal.returns-in-Some-clause-places
returns-in-Some-clause-places c =
    let old = c.args.self.now in
    let holds : Holds old.slots.items c.args.slot c.in-Some.held = held_by old.slots.items c.args.slot c.index_mut.result.now c.in-Some.held c.requires.within (sym c.index_mut.ensures.value ∙ sym c.take-row.ensures.value ∙ c.in-Some.is) in
    let all : AreHeld (set old.slots.items c.args.slot None) (has c.remove.new.self) (has c.forget.new.index) (has c.forget-in-Some.new.index) (has c.forget-in-Some-2.new.index) =
    held_cleared old.slots.items c.args.slot c.in-Some.held (has old.at) (has c.remove.new.self) (has old.naming) (has old.defining) (has old.consuming) (has c.forget.new.index) (has c.forget-in-Some.new.index) (has c.forget-in-Some-2.new.index)
    holds c.requires.places (subst (λ d. IsBareForgotten d c.args.slot (has old.at) (has c.remove.new.self)) c.digest.ensures (bare_forgotten c.digest.result c.args.slot (has old.at) (has c.remove.new.self) (λ n i. c.remove.ensures.updates.0 (n, i))))
    (subst (λ l. IsForgotten l c.args.slot (has old.naming) (has c.forget.new.index)) c.line-line.ensures c.forget.ensures)
    (subst (λ l. IsForgotten l c.args.slot (has old.defining) (has c.forget-in-Some.new.index)) c.line-line.ensures c.forget-in-Some.ensures)
    (subst (λ l. IsForgotten l c.args.slot (has old.consuming) (has c.forget-in-Some-2.new.index)) c.line-line.ensures c.forget-in-Some-2.ensures) in
    subst (λ s. AreHeld (set old.slots.items c.args.slot s) (has c.remove.new.self) (has c.forget.new.index) (has c.forget-in-Some.new.index) (has c.forget-in-Some-2.new.index)) (sym c.take-row.ensures.after) all
