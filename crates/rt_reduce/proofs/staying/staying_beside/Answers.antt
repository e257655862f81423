use Rattle.std.proofs.Common.{◌≡◌, ◌+◌, [], ◌∷◌, length, length-append, ap, ◌∙◌, arith}
use Rattle.rt_reduce.proofs.Settled.{all_settled, more_settled, still_staying}
use Rattle.rt_reduce.proofs.staying.staying_beside.Goals as goal

pub loop-i-preserved : goal.loop-i-preserved
loop-i-preserved c =
    let old = c.loop-i.now.items in
    let new = c.push.new.self.items in
    let fate = c.in_ok-fate.fate in
    record {
      flags = c.in_ok-fate.ensures.same ∙ c.loop-i.invariant.flags;
      each = ap length c.in_ok-push.ensures.items ∙ length-append old (fate ∷ []) ∙ ap (λ n. n + 1) c.loop-i.invariant.each;
      settled = more_settled c.args.order.now c.args.lines.now c.args.fates.now old new c.loop-i.i fate _ c.in_ok-push.ensures.items
          c.loop-i.invariant.each c.loop-i-test.true c.in_ok-fate.ensures.fate c.loop-i.invariant.settled;
    }

pub returns-clause-fated : goal.returns-clause-fated
returns-clause-fated c =
    let lines = c.args.lines.now in
    let fates = c.args.fates.now in
    let now = c.loop-i.now.items in
    let all : c.loop-i.i ≡ length fates = omega arith in
    all_settled c.args.order.now lines fates now c.requires.each (c.loop-i.invariant.each ∙ all)
    (λ j h. c.loop-i.invariant.settled j (omega (arith, h, all))) c.requires.fated

pub returns-clause-kept : goal.returns-clause-kept
returns-clause-kept c =
    let lines = c.args.lines.now in
    let fates = c.args.fates.now in
    let now = c.loop-i.now.items in
    let all : c.loop-i.i ≡ length fates = omega arith in
    still_staying c.args.order.now lines fates now c.requires.each (c.loop-i.invariant.each ∙ all)
    (λ j h. c.loop-i.invariant.settled j (omega (arith, h, all))) c.requires.fated
