use Rattle.std.proofs.Common.{◌≡◌, List, Bool, length, sym, ap, subst, ◌∙◌}
use Rattle.std.proofs.lemmas.Option.{IfSome_then}
use Rattle.rt_sure.specs.Fates.{DoStay}
use Rattle.rt_reduce.specs.Inside.Dropping.{AreStaying}
use Rattle.rt_reduce.proofs.Fated.{fated_found}
use Rattle.rt_reduce.proofs.Grounded.{own_ground}
use Rattle.rt_reduce.proofs.dropping.fates_of.Goals as goal

pub returns-clause-each : goal.returns-clause-each
returns-clause-each c =
    c.in_ok-fated.ensures.each ∙ ap length c.deref-3.ensures.value ∙ c.in_ok-stays.ensures.each ∙ ap length c.deref.ensures.value
    ∙ c.in_ok-near.ensures.each

pub returns-clause-fated : goal.returns-clause-fated
returns-clause-fated c =
    let order = c.args.order.now in
    let lines = c.args.lines.now in
    let stays = c.in_ok-stays.stays.items in
    let fates = c.in_ok-fated.fated.fates.items in
    let long : length stays ≡ length lines =
    c.in_ok-stays.ensures.each ∙ ap length c.deref.ensures.value ∙ c.in_ok-near.ensures.each
    in
    fated_found order lines stays fates long (c.in_ok-fated.ensures.each ∙ ap length c.deref-3.ensures.value)
    (c.in_ok-stays.ensures.staying order (subst (AreStaying order lines) (sym c.deref.ensures.value) c.in_ok-near.ensures.staying))
    (subst (λ (fs : List Bool). DoStay fs fates) c.deref-3.ensures.value c.in_ok-fated.ensures.staying) (c.in_ok-fated.ensures.going order)

pub returns-clause-ground : goal.returns-clause-ground
returns-clause-ground c =
    let fates = c.in_ok-fated.fated.fates.items in
    IfSome_then c.in_ok-fated.fated.ground c.in_ok-fated.ensures.ground
    (λ g is. own_ground c.args.lines.now c.in_ok-stays.stays.items fates g
    (subst (λ (fs : List Bool). DoStay fs fates) c.deref-3.ensures.value c.in_ok-fated.ensures.staying)
    (is.0, is.1 ∙ c.deref-3.ensures.value))
