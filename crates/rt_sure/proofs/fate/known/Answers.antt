use Rattle.std.proofs.Common.{◌≡◌, length, ap, sym, subst, ◌∙◌, arith}
use Rattle.rt_sure.specs.declared.fate.Fate.TheVariants.{Goes, Open}
use Rattle.rt_sure.specs.Fates.{fate_at}
use Rattle.rt_sure.proofs.Fating.{DoStayTo, more_long, more_same, none_more, whole_same}
use Rattle.rt_sure.proofs.fate.known.Goals as goal

pub loop-i-init : goal.loop-i-init
loop-i-init c = record {
  each = ap length c.in_ok-fates.ensures.items;
  staying = λ j h. absurd (omega (arith, h));
  going = λ j e. let g : Open ≡ Goes = sym (ap (λ fs. fate_at fs j) c.in_ok-fates.ensures.items) ∙ e in absurd (cc);
}

pub loop-i-preserved : goal.loop-i-preserved
loop-i-preserved c =
    let old = c.loop-i.fates.items in
    let new = c.push.new.self.items in
    let fate = c.fate_by.result in
    record {
      each = more_long old new c.loop-i.i fate c.in_ok-push.ensures.items c.loop-i.invariant.each;
      staying = more_same c.args.stays.now old new c.loop-i.i fate _ c.in_ok-push.ensures.items c.loop-i.invariant.each
          c.loop-i-test.true c.fate_by.ensures.stays c.loop-i.invariant.staying;
      going = none_more old new fate c.in_ok-push.ensures.items c.fate_by.ensures.goes c.loop-i.invariant.going;
    }

pub returns-clause-staying : goal.returns-clause-staying
returns-clause-staying c =
    let fates = c.loop-i.fates.items in
    let stays = c.args.stays.now in
    let all : c.loop-i.i ≡ length stays = omega arith in
    whole_same stays fates (c.loop-i.invariant.each ∙ all) (subst (DoStayTo stays fates) all c.loop-i.invariant.staying)
