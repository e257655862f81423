use Rattle.std.proofs.Common.{◌≡◌, ◌-◌, ◌+◌, ◌<◌, length, sym, ap, subst, ◌∙◌}
use Rattle.std.proofs.lemmas.Result.{IfOk-weaker}
use Rattle.rt_table.specs.Inside.Parts.{result_of_calls}
use Rattle.rt_table.specs.Table.{at_side, def_written}
use Rattle.rt_table.specs.Inside.Told.{context_of}
use Rattle.rt_table.proofs.Tracing.{trace-known, trace-through, outcome}
use Rattle.rt_table.proofs.context.Context.at_side.Goals as goal

pub returns-in-Known : goal.returns-in-Known
returns-in-Known c =
    let context = context_of c.args.self.now in
    let sites = length context.reading.actions in
    let whole = def_written context c.args.site c.args.register in
    let less : c.loop.counter < sites = subst (λ actions. c.loop.counter < length actions) c.actions-end.ensures.actions c.loop-test.true in
    let known = subst (outcome context c.loop.writer c.loop.written) c.in-Known.is c.in_ok-side.ensures in
    IfOk-weaker c.result_of_calls.result _ _
    (λ side e. e ∙ sym (trace-known context c.loop.calls.items sites c.loop.counter c.loop.writer c.loop.written whole c.in-Known.side less c.loop.invariant known))
    c.result_of_calls.ensures

pub loop-preserved : goal.loop-preserved
loop-preserved c =
    let context = context_of c.args.self.now in
    let sites = length context.reading.actions in
    let whole = def_written context c.args.site c.args.register in
    let less : c.loop.counter < sites = subst (λ actions. c.loop.counter < length actions) c.actions-end.ensures.actions c.loop-test.true in
    let through = subst (outcome context c.loop.writer c.loop.written) c.in-Through.is c.in_ok-side.ensures in
    trace-through context c.loop.calls.items sites c.loop.counter c.loop.writer c.loop.written c.in-Through.site c.in-Through.register whole less c.loop.invariant through
    ∙ ap (λ calls. result_of_calls context calls (at_side (sites - (c.loop.counter + 1)) context c.in-Through.site c.in-Through.register))
    (sym c.in_ok-push-in-Through.ensures.items)
