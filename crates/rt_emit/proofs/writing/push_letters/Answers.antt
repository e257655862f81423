use Rattle.std.proofs.Common.{rules, ◌≡◌, ◌↔◌, ◌⊎◌, ◌+◌, Some, Contains, length, subst, sym, arith}
use Rattle.std.specs.Ordering.{nat_cmp}
use Rattle.std.specs.BTreeMap.{get}
use Rattle.std.proofs.lemmas.Result.{on_ok_weaker}
use Rattle.rt_lines.specs.declared.variable.Dtv.{Dtv}
use Rattle.rt_emit.specs.Inside.Writing.{total, IsNext}
use Rattle.rt_emit.proofs.Turns.{taken_letters, taken_total}
use Rattle.rt_emit.proofs.writing.push_letters.Goals as goal

pub returns-in-Some-clause-holds : goal.returns-in-Some-clause-holds
returns-in-Some-clause-holds c =
    let found : get nat_cmp c.args.letters.now c.args.node ≡ Some c.in-Some.next = search rules in
    on_ok_weaker c.push_next.result
    (λ h. subst (λ ls. (y : Dtv) → Contains c.push_next.new.queue y ↔ (Contains c.args.queue.now y ⊎ IsNext c.args.x.now ls y))
    (sym (taken_letters c.args.node c.args.letters.now c.in-Some.next found)) h)
    c.push_next.ensures.holds

pub returns-in-Some-clause-less : goal.returns-in-Some-clause-less
returns-in-Some-clause-less c =
    let found : get nat_cmp c.args.letters.now c.args.node ≡ Some c.in-Some.next = search rules in
    let less : total c.remove.new.self + length c.in-Some.next ≡ total c.args.letters.now =
    taken_total c.args.node c.args.letters.now c.remove.new.self c.in-Some.next c.in-Some.ensures.entries found in
    on_ok_weaker c.push_next.result (λ h. omega (arith, h, less)) c.push_next.ensures.length
