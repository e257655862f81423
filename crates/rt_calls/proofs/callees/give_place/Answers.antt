use Rattle.std.proofs.Common.{get_or, set, take, sym, subst, arith}
use Rattle.std.proofs.lemmas.List.{take_all, take_more}
use Rattle.rt_calls.specs.Inside.Places.{GivesPlace}
use Rattle.rt_calls.proofs.Placing.{gives_none, gives_more}
use Rattle.rt_calls.proofs.callees.give_place.Goals as goal

pub loop-member-init : goal.loop-member-init
loop-member-init c = gives_none c.args.places.now c.args.place

pub loop-member-preserved : goal.loop-member-preserved
loop-member-preserved c =
    let members = c.args.members.now in
    let i = c.loop-member.member-index in
    let member = get_or members i 0 in
    let old = c.args.places.now in
    let mid = c.loop-member.places in
    subst (λ ms. GivesPlace ms c.args.place old (set mid member c.args.place)) (sym (take_more members i 0 c.loop-member-test.true))
    (gives_more (take i members) c.args.place old mid member c.loop-member.invariant (c.requires i 0 c.loop-member-test.true))

pub returns : goal.returns
returns c =
    let members = c.args.members.now in
    subst (λ ms. GivesPlace ms c.args.place c.args.places.now c.loop-member.places) (take_all c.loop-member.member-index members (omega arith)) c.loop-member.invariant
