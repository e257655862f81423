use Rattle.std.proofs.Common.{◌≡◌, ◌+◌, ◌<◌, ◌==◌, ℕ, [], cond, nat_lt, All, length, get_or, sym, ap, subst, ◌∙◌, arith}
use Rattle.std.proofs.lemmas.List.{get_or_read, length-replicate}
use Rattle.std.proofs.lemmas.List.Elements.{All-weaker}
use Rattle.rt_plan.specs.Inside.Boards.{times}
use Rattle.rt_plan.proofs.Calling.{called_none, called_more, called_all}
use Rattle.rt_plan.proofs.calls.callers_of.Goals as goal

pub loop-group-init : goal.loop-group-init
loop-group-init c =
    let callees = c.args.callees.now in
    record {
      each = ap length c.in_ok-callers.ensures ∙ length-replicate (length callees) [];
      called = subst (λ lists. (g k : ℕ) → times g (get_or lists k []) ≡ cond (nat_lt g 0) (times k (get_or callees g [])) 0) (sym c.in_ok-callers.ensures) (called_none callees (length callees));
    }

pub push_caller-requires : goal.push_caller-requires
push_caller-requires c =
    let callees = c.args.callees.now in
    let group = c.loop-group.group in
    let less : group < length callees = omega arith in
    let is : c.items.result.now ≡ get_or callees group [] = c.items.ensures ∙ get_or_read callees group c.index-callees-group.result less c.index-callees-group.is [] in
    let each = c.loop-group.invariant.each in
    record {
      within = subst (All (λ k. k < length c.loop-group.callers.items)) (sym is) (All-weaker (λ k. k < group) (λ k. k < length c.loop-group.callers.items) (λ k h. omega arith) (get_or callees group []) (c.requires.lower group));
    }

pub loop-group-preserved : goal.loop-group-preserved
loop-group-preserved c =
    let callees = c.args.callees.now in
    let group = c.loop-group.group in
    let less : group < length callees = omega arith in
    let is : c.items.result.now ≡ get_or callees group [] = c.items.ensures ∙ get_or_read callees group c.index-callees-group.result less c.index-callees-group.is [] in
    let now = c.loop-group.callers.items in
    let after = c.push_caller.new.callers.items in
    record {
      each = c.in_ok-push_caller.ensures.each ∙ c.loop-group.invariant.each;
      called = called_more callees now after group c.loop-group.invariant.called (subst (λ xs. (g k : ℕ) → times g (get_or after k []) ≡ times g (get_or now k []) + cond (g == group) (times k xs) 0) is c.in_ok-push_caller.ensures.called);
    }

pub returns-clause-called : goal.returns-clause-called
returns-clause-called c = called_all c.args.callees.now c.loop-group.callers.items c.loop-group.group (omega arith) c.loop-group.invariant.called
