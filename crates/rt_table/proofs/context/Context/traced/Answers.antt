use Rattle.std.proofs.Common.{◌≡◌, ◌∙◌, sym, true}
use Rattle.std.proofs.lemmas.Result.{IfOk-weaker}
use Rattle.rt_table.proofs.Tracing.{named-one, outcome-first, outcome-none}
use Rattle.rt_table.proofs.context.Context.traced.Goals as goal

pub traced_call-requires-clause-named : goal.traced_call-requires-clause-named
traced_call-requires-clause-named c =
    c.named_at.ensures ∙ named-one c.args.self.now c.args.site c.calls_at.result.now c.in-Some.call.now c.calls_at.ensures.calls (sym c.in-Some.ensures.value)

pub returns-in-Some : goal.returns-in-Some
returns-in-Some c =
    IfOk-weaker c.traced_call.result _ _
    (λ traced h. outcome-first c.args.self.now c.args.site c.args.register c.calls_at.result.now c.in-Some.call.now traced (sym c.if-not-is_call_site.ensures.is_call)
    c.calls_at.ensures.calls (sym c.in-Some.ensures.value) h)
    c.traced_call.ensures

pub returns-in-None : goal.returns-in-None
returns-in-None c =
    outcome-none c.args.self.now c.args.site c.args.register c.calls_at.result.now (sym c.if-not-is_call_site.ensures.is_call) c.calls_at.ensures.calls (sym c.in-None.ensures.value)
