use Rattle.std.proofs.Common.{◌<◌, None, Some, length, refl, sym, ap, subst, ◌∙◌, arith}
use Rattle.std.proofs.lemmas.Option.{slice_get-get_or}
use Rattle.rt_sat.specs.Hints.{AreMembers}
use Rattle.rt_sat.proofs.Families.{members_none}
use Rattle.rt_sat.proofs.family.members.Goals as goal
use Rattle.rt_sat.proofs.family.members.Goals.{in-Some+then-used-number+in_ok-settle, in_default}

pub loop-number-init : goal.loop-number-init
loop-number-init c = record { each = refl; are = members_none (length c.args.nodes.now) c.in_ok-members.members.items c.in_ok-members.ensures.none }

pub settle-requires : goal.settle-requires
settle-requires c =
    let below : c.in-Some.node < c.class_count.result = c.class_count.ensures c.loop-number.number c.in-Some.node (slice_get-get_or c.args.nodes.now c.loop-number.number None c.loop-number-test.true ∙ ap Some c.in-Some.is) in
    omega (arith, below, c.loop-number.invariant.each, c.in_ok-members.ensures.length)

pub loop-number-preserved : goal.loop-number-preserved
loop-number-preserved c = elim c.match-nodes-number.branch [
  | in-Some+then-used-number+in_ok-settle w ↦ record {
    each = ap (λ v. length v.items) w.members-is ∙ w.in_ok-settle.ensures.each ∙ c.loop-number.invariant.each;
    are = subst (λ v. AreMembers (length c.args.nodes.now) v.items) (sym w.members-is) (w.in_ok-settle.ensures.members (length c.args.nodes.now) c.loop-number-test.true c.loop-number.invariant.are);
  }
  | in_default w ↦ record {
    each = ap (λ v. length v.items) w.members-is ∙ c.loop-number.invariant.each;
    are = subst (λ v. AreMembers (length c.args.nodes.now) v.items) (sym w.members-is) c.loop-number.invariant.are;
  }
]

pub returns : goal.returns
returns c = c.loop-number.invariant.are
