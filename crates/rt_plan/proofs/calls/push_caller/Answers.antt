use Rattle.std.proofs.Common.{◌≡◌, ◌<◌, ◌++◌, List, ℕ, [], ◌∷◌, length, get_or, set, sym, ap, subst, ◌∙◌}
use Rattle.std.proofs.lemmas.List.{get_or_read, get_or_default, length-set}
use Rattle.rt_plan.proofs.Calling.{noted_more}
use Rattle.rt_plan.proofs.calls.push_caller.Goals as goal

pub loop-callee-preserved : goal.loop-callee-preserved
loop-callee-preserved c =
    let xs = c.args.callees.now in
    let i = c.loop-callee.callee-index in
    let k = get_or xs i 0 in
    let now = c.loop-callee.callers.items in
    let group = c.args.group in
    let within : k < length now = subst (λ n. k < n) (sym c.loop-callee.invariant.each) (c.requires.within i 0 c.loop-callee-test.true) in
    let was : c.index_mut.result.now ≡ get_or now k [] = get_or_read now k c.index_mut.result.now within c.index_mut.ensures.value [] in
    let put : c.push.new.self ≡ get_or now k [] ++ group ∷ [] = c.in_ok-push.ensures.ok ∙ ap (λ (ys : List ℕ). ys ++ group ∷ []) was in
    record {
      each = length-set now k c.push.new.self ∙ c.loop-callee.invariant.each;
      called = noted_more c.args.callers.now.items now (set now k c.push.new.self) xs i k group c.loop-callee-test.true (get_or_default xs i 0 k c.loop-callee-test.true) within (ap (set now k) put) c.loop-callee.invariant.called;
    }
