use Rattle.std.proofs.Common.{◌≡◌, ℕ, length, subst, sym, ap, ◌∙◌}
use Rattle.rt_sat.specs.Hints.{AreGroups, IsFamily}
use Rattle.rt_sat.proofs.Families.{groups_same}
use Rattle.rt_sat.proofs.hints.hints.Goals as goal

pub kin-requires : goal.kin-requires
kin-requires c = (length c.deref.result.now, c.in_ok-enter_lines.ensures.family (length c.deref.result.now) c.in_ok-family.ensures.family)

pub dead-requires : goal.dead-requires
dead-requires c = (length c.deref.result.now, c.in_ok-enter_lines.ensures.family (length c.deref.result.now) c.in_ok-family.ensures.family)

pub readied-requires-clause-family : goal.readied-requires-clause-family
readied-requires-clause-family c = (length c.deref.result.now, c.in_ok-enter_lines.ensures.family (length c.deref.result.now) c.in_ok-family.ensures.family)

pub spread-requires-clause-family : goal.spread-requires-clause-family
spread-requires-clause-family c = (length c.deref.result.now, c.in_ok-enter_lines.ensures.family (length c.deref.result.now) c.in_ok-family.ensures.family)

pub spread-requires-clause-ready : goal.spread-requires-clause-ready
spread-requires-clause-ready c = (c.args.frame.now.named, c.args.frame.now.flips.items, c.in_ok-kin-2.ensures)

pub pushed-requires-clause-family : goal.pushed-requires-clause-family
pushed-requires-clause-family c =
    let count : ℕ = length c.deref.result.now in
    subst (λ n. IsFamily n c.spread.new.family) (ap length c.deref.ensures.value ∙ c.requires.nodes) (c.in_ok-spread.ensures.family count (c.in_ok-enter_lines.ensures.family count c.in_ok-family.ensures.family))

pub pushed-requires-clause-groups : goal.pushed-requires-clause-groups
pushed-requires-clause-groups c = groups_same c.enter_lines.new.family c.spread.new.family c.deref-5.result.now c.in_ok-spread.ensures.same
    (subst (AreGroups c.enter_lines.new.family) (sym c.deref-5.ensures.value) c.in_ok-kin.ensures.groups)

pub returns-clause-told : goal.returns-clause-told
returns-clause-told c =
    let long : length c.deref.result.now ≡ length c.args.frame.now.named = ap length c.deref.ensures.value ∙ c.requires.nodes in
    c.in_ok-edges.ensures.told c.args.lines.now (c.in_ok-spread.ensures.told c.args.frame.now.named c.args.frame.now.flips.items c.args.lines.now c.in_ok-kin-2.ensures
    (c.in_ok-kin.ensures.linked c.args.frame.now.named c.args.frame.now.flips.items c.args.lines.now (λ e h. h)) (c.in_ok-enter_lines.ensures.told c.args.frame.now.named c.args.frame.now.flips.items
    (c.in_ok-family.ensures.told c.args.frame.now.named c.args.frame.now.flips.items c.args.lines.now (sym long))))

pub returns-clause-family : goal.returns-clause-family
returns-clause-family c =
    let count : ℕ = length c.deref.result.now in
    subst (λ n. IsFamily n c.spread.new.family) (ap length c.deref.ensures.value ∙ c.requires.nodes) (c.in_ok-spread.ensures.family count (c.in_ok-enter_lines.ensures.family count c.in_ok-family.ensures.family))
