use Rattle.std.proofs.Common.{◌≡◌, ◌<◌, None, All, fold, length, get_or, sym, ap, subst, ◌∙◌, arith}
use Rattle.std.proofs.lemmas.List.{take_all}
use Rattle.std.proofs.lemmas.List.Elements.{All-weaker}
use Rattle.std.proofs.lemmas.List.Sums.{fold_more}
use Rattle.rt_plan.specs.Plans.{Board, callees_at}
use Rattle.rt_plan.specs.Inside.Leasts.{lesser}
use Rattle.rt_plan.proofs.Missing.{next_waiting, missing_told}
use Rattle.rt_plan.proofs.board.Board.missing.Goals as goal

pub loop-callee-preserved : goal.loop-callee-preserved
loop-callee-preserved c =
    let board = c.args.self.now in
    let xs = c.callees-called.result.now in
    let i = c.loop-callee.callee-index in
    c.lesser-least.ensures ∙ (ap (λ o. lesser c.loop-callee.least o) c.waiting.ensures ∙ (ap (λ o. next_waiting board o (get_or xs i 0)) c.loop-callee.invariant ∙ sym (fold_more (next_waiting board) None xs i 0 c.loop-callee-test.true)))

pub returns : goal.returns
returns c =
    let board = c.args.self.now in
    let xs = c.callees-called.result.now in
    let group = c.args.group in
    let called : xs ≡ callees_at board group = c.callees-called.ensures.value ∙ ap (λ (b : Board). callees_at b group) c.self.view_is in
    let within : All (λ k. k < length board.states) (callees_at board group) = subst (All (λ k. k < length board.states)) called (All-weaker (λ k. k < group) (λ k. k < length board.states) (λ k h. let less = c.requires in omega arith) xs c.callees-called.ensures.lower) in
    c.loop-callee.invariant ∙ (ap (fold (next_waiting board) None) (take_all c.loop-callee.callee-index xs c.loop-callee-test.false) ∙ (ap (fold (next_waiting board) None) called ∙ missing_told board group within))
