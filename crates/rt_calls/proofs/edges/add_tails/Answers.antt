use Rattle.std.proofs.Common.{List, get_or, take, Contains, sym, subst, arith}
use Rattle.std.proofs.lemmas.List.{take_more, take_all}
use Rattle.rt_proc.specs.declared.site.Callee.{Callee}
use Rattle.rt_proc.specs.declared.site.Callee.TheVariants.{Proc}
use Rattle.rt_calls.specs.Calls.{AddsEdges}
use Rattle.rt_calls.proofs.Adding.{adds_callee}
use Rattle.rt_calls.proofs.edges.add_tails.Goals as goal

pub loop-callee-preserved : goal.loop-callee-preserved
loop-callee-preserved c =
    let tails = c.args.tails.now in
    let i = c.loop-callee.callee-index in
    let callee = get_or tails i (Proc 0) in
    let old = c.args.graph.now in
    let new = c.add_callee.new.graph in
    let more = take_more tails i (Proc 0) c.loop-callee-test.true in
    subst (λ (xs : List Callee). AddsEdges old new c.args.caller (λ q. Contains xs (Proc q))) (sym more)
    (adds_callee old c.loop-callee.graph new c.args.caller (take i tails) callee c.loop-callee.invariant c.in_ok-add_callee.ensures)

pub returns : goal.returns
returns c =
    let tails = c.args.tails.now in
    subst (λ (xs : List Callee). AddsEdges c.args.graph.now c.loop-callee.graph c.args.caller (λ q. Contains xs (Proc q))) (take_all c.loop-callee.callee-index tails (omega arith)) c.loop-callee.invariant
