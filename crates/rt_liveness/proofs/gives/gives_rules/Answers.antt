use Rattle.std.proofs.Common.{◌<◌, ℕ, List, length, get_or, arith}
use Rattle.std.proofs.lemmas.Option.{slice_get-get_or}
use Rattle.rt_flow.specs.declared.def.Def.{Def}
use Rattle.rt_proc.specs.declared.proc.Proc.{Proc}
use Rattle.rt_proc.specs.declared.site.Site.{Site}
use Rattle.rt_body.specs.declared.body.Body.{Body}
use Rattle.rt_body.specs.Told.{reading_of}
use Rattle.rt_liveness.specs.declared.rule.Rule.{Rule}
use Rattle.rt_liveness.specs.Inside.GivesRules.{AreGivesRules, AreAllRules, IsProcedure}
use Rattle.rt_liveness.proofs.Adding.{read_at, one_more, up_to, from_none}
use Rattle.rt_liveness.proofs.Rules.{for_procedure}
use Rattle.rt_liveness.proofs.gives.gives_rules.Goals as goal

pub loop-number-preserved : goal.loop-number-preserved
loop-number-preserved c =
    let procs = c.args.procs.now in
    let bodies = c.args.bodies.now in
    let q = c.loop-number.number in
    let old = c.loop-number.rules in
    let new = c.add_procedure.new.rules in
    let less : q < length procs = omega arith in
    let less' : q < length bodies = omega arith in
    let proc = get_or procs q c.index-procs-number.result in
    one_more c.new-rules.result old new (λ k rule. (proc : Proc) × (body : Body) × IsProcedure procs bodies k proc body × AreGivesRules c.args.named.now proc.sites (reading_of body).reaching k rule) q c.loop-number.invariant
    (for_procedure procs bodies (λ (body : Body). (reading_of body).reaching) (AreGivesRules c.args.named.now) q proc c.index-bodies-number.result c.items.result.now old new
    (record { is_proc = slice_get-get_or procs q c.index-procs-number.result less; is_body = read_at bodies q c.index-bodies-number.result less' c.index-bodies-number.is }) c.items.ensures c.in_ok-add_procedure.ensures)

pub returns : goal.returns
returns c =
    let procs = c.args.procs.now in
    let bodies = c.args.bodies.now in
    from_none c.new-rules.result c.loop-number.rules (AreAllRules c.args.named.now procs bodies) c.new-rules.ensures
    (up_to (λ k (rule : Rule). (proc : Proc) × (body : Body) × IsProcedure procs bodies k proc body × AreGivesRules c.args.named.now proc.sites (reading_of body).reaching k rule)
    c.new-rules.result c.loop-number.rules c.loop-number.number (length procs) (omega arith) c.loop-number.invariant)
