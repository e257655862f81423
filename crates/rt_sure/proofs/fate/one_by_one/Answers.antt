use Rattle.std.proofs.Common.{◌≡◌, ◌<◌, Some, false, length, sym, ap, subst, ◌∙◌, arith}
use Rattle.std.specs.Prelude.{slice_get}
use Rattle.std.proofs.lemmas.List.{get_or_default}
use Rattle.std.proofs.lemmas.Option.{slice_get-get_or}
use Rattle.rt_sure.specs.Fates.{DoStay}
use Rattle.rt_sure.proofs.Fating.{all_go, DoStayTo, gone_here, more_go, more_long, more_same, none_go, told_next, whole_same}
use Rattle.rt_sure.proofs.fate.one_by_one.Goals as goal

pub loop-i-init : goal.loop-i-init
loop-i-init c = record {
  each = ap length c.in_ok-fates.ensures.items;
  staying = λ j h. absurd (omega (arith, h));
  going = none_go c.args.lines.now c.args.stays.now c.in_ok-fates.fates.items c.in_ok-fates.ensures.items;
  told = c.requires.told;
  still = λ told base t. t;
}

pub loop-i-preserved : goal.loop-i-preserved
loop-i-preserved c =
    let i = c.loop-i.i in
    let lines = c.args.lines.now in
    let stays = c.args.stays.now in
    let old = c.loop-i.fates.items in
    let new = c.push.new.self.items in
    let fate = c.in_ok-fate.fate in
    let line = c.index-lines-i.result in
    let within : i < length lines = omega arith in
    let joined = c.args.joined.now in
    let less : i < length joined = omega (arith, c.requires.long) in
    let here : slice_get lines i ≡ Some line =
    slice_get-get_or lines i line within ∙ ap Some (sym c.index-lines-i.is) in
    record {
      each = more_long old new i fate c.in_ok-push.ensures.items c.loop-i.invariant.each;
      staying = more_same stays old new i fate _ c.in_ok-push.ensures.items c.loop-i.invariant.each c.loop-i-test.true
          c.in_ok-fate.ensures.stays c.loop-i.invariant.staying;
      going = more_go lines stays i line here old new fate c.in_ok-push.ensures.items c.loop-i.invariant.each
          (λ e. let (flag, subtype, derived) = c.in_ok-fate.ensures.goes e in
          gone_here lines stays i line here c.loop-i.growing joined c.loop-i.invariant.told c.requires.joined
          (get_or_default joined i false _ less ∙ flag) subtype derived)
          c.loop-i.invariant.going;
      told = told_next lines stays i line here c.loop-i.growing c.going.new.growing c.loop-i.invariant.told
          c.in_ok-fate.ensures.added;
      still = λ told base t. c.in_ok-fate.ensures.then told base (c.loop-i.invariant.still told base t);
    }

pub returns-clause-staying : goal.returns-clause-staying
returns-clause-staying c =
    let fates = c.loop-i.fates.items in
    let stays = c.args.stays.now in
    let all : c.loop-i.i ≡ length stays = omega arith in
    whole_same stays fates (c.loop-i.invariant.each ∙ all) (subst (DoStayTo stays fates) all c.loop-i.invariant.staying)

pub returns-clause-going : goal.returns-clause-going
returns-clause-going c = λ order.
    let fates = c.loop-i.fates.items in
    let stays = c.args.stays.now in
    let all : c.loop-i.i ≡ length stays = omega arith in
    let same : DoStay stays fates =
    whole_same stays fates (c.loop-i.invariant.each ∙ all) (subst (DoStayTo stays fates) all c.loop-i.invariant.staying) in
    all_go order c.args.lines.now stays fates same c.loop-i.invariant.going
