use Rattle.std.proofs.Common.{◌≡◌, ℕ, Bool, Contains, List, length, ap, refl, subst, sym, ◌∙◌}
use Rattle.rt_lines.specs.declared.variable.Dtv.{Dtv}
use Rattle.rt_sat.specs.declared.gathering.Ready.{Ready}
use Rattle.rt_sat.specs.declared.increments.GrowingTable.{GrowingTable}
use Rattle.rt_sat.specs.declared.links.Links.{Links}
use Rattle.rt_sat.specs.declared.state.Edge.{Edge}
use Rattle.rt_sat.specs.declared.table.Begun.{Begun}
use Rattle.rt_sat.specs.Inside.Links.{AreLinked}
use Rattle.rt_sat.specs.Hints.{IsFamily, IsToldFamily}
use Rattle.rt_sat.proofs.Adding.{begun_tells}
use Rattle.rt_sat.proofs.ToldPushes.{all_ready_same}
use Rattle.rt_sat.proofs.increments.GrowingTable.of.Goals as goal

pub kin-requires : goal.kin-requires
kin-requires c = (length c.deref-3.result.now, c.in_ok-enter_lines.ensures.family (length c.deref-3.result.now) c.in_ok-family.ensures.family)

pub resting-requires : goal.resting-requires
resting-requires c = (length c.deref-3.result.now, c.in_ok-enter_lines.ensures.family (length c.deref-3.result.now) c.in_ok-family.ensures.family)

pub readied-requires-clause-family : goal.readied-requires-clause-family
readied-requires-clause-family c = (length c.deref-3.result.now, c.in_ok-enter_lines.ensures.family (length c.deref-3.result.now) c.in_ok-family.ensures.family)

pub spread-requires-clause-family : goal.spread-requires-clause-family
spread-requires-clause-family c = (length c.deref-3.result.now, c.in_ok-enter_lines.ensures.family (length c.deref-3.result.now) c.in_ok-family.ensures.family)

pub spread-requires-clause-ready : goal.spread-requires-clause-ready
spread-requires-clause-ready c = (c.in_ok-begun.begun.frame.named, c.in_ok-begun.begun.frame.flips.items, c.in_ok-kin-2.ensures)

pub returns-clause-tells : goal.returns-clause-tells
returns-clause-tells c =
    let begun : Begun = c.in_ok-begun.begun in
    let known : List Dtv = begun.frame.named in
    let flips : List Bool = begun.frame.flips.items in
    let first : List Edge = begun.first.items in
    let links : Links = c.in_ok-kin.kin.links in
    let ends : List Ready = c.in_ok-kin-2.field-0.items in
    let grown : GrowingTable = record { frame = begun.frame; family = c.spread.new.family; kin = record { groups = c.in_ok-kin.kin.groups; links = links; ready = c.in_ok-kin-2.field-0; halves = c.in_ok-kin.kin.halves } } in
    let count : ℕ = length c.deref-3.result.now in
    let long : count ≡ length known = ap length c.deref-3.ensures.value ∙ c.in_ok-begun.ensures.1.nodes in
    let before : IsFamily count c.enter_lines.new.family = c.in_ok-enter_lines.ensures.family count c.in_ok-family.ensures.family in
    let after : IsFamily count c.spread.new.family = c.in_ok-spread.ensures.family count before in
    let entered : IsToldFamily known flips first c.enter_lines.new.family =
    c.in_ok-enter_lines.ensures.among known flips first (λ e h. subst (λ (edges : List Edge). Contains edges e) c.deref-5.ensures.value h) (c.in_ok-family.ensures.told known flips first (sym long)) in
    let linked : AreLinked known flips first links =
    c.in_ok-kin.ensures.linked known flips first (λ e h. subst (λ (edges : List Edge). Contains edges e) c.deref-6.ensures.value h) in
    begun_tells c.args.lines.now c.args.extra.now c.in_ok-begun.ensures.0 begun c.in_ok-begun.ensures.1 grown refl (subst (λ n. IsFamily n c.spread.new.family) long after)
    (all_ready_same known flips count c.enter_lines.new.family c.spread.new.family links ends c.in_ok-spread.ensures.same before after c.in_ok-kin-2.ensures) linked
    (c.in_ok-spread.ensures.told known flips first c.in_ok-kin-2.ensures linked entered)
