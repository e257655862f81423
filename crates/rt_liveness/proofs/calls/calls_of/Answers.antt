use Rattle.std.proofs.Common.{◌≡◌, ◌<◌, List, All, length, get_or, sym, ap, subst, arith}
use Rattle.std.proofs.lemmas.List.Elements.{All-contains}
use Rattle.std.proofs.lemmas.Result.{IfOk-weaker}
use Rattle.rt_rules.proofs.Lists.{Contains-map}
use Rattle.rt_control.specs.Laws.{IsGood}
use Rattle.rt_proc.specs.declared.proc.Proc.{Proc}
use Rattle.rt_proc.specs.declared.site.Site.{Site}
use Rattle.rt_proc.specs.Procs.{places_of}
use Rattle.rt_body.specs.Told.{sites_in}
use Rattle.rt_liveness.specs.Ends.{ends_of}
use Rattle.rt_liveness.specs.Inside.Found.{AreCallsFound}
use Rattle.rt_liveness.specs.Inside.Interfaces.{IsInterface}
use Rattle.rt_liveness.proofs.Adding.{found_at}
use Rattle.rt_liveness.proofs.Calling.{site_each_at, calls_are, calls_registers}
use Rattle.rt_liveness.proofs.calls.calls_of.Goals as goal

pub interface_of-requires-clause-each : goal.interface_of-requires-clause-each
interface_of-requires-clause-each c = λ q proc body less.
    let long : length c.items-procs.result.now ≡ length c.args.procs.now = ap length c.items-procs.ensures in
    let within : q < length c.args.procs.now = omega arith in
    subst (λ (procs : List Proc). length (get_or procs q proc).sites ≡ sites_in (get_or c.args.bodies.now q body)) (sym c.items-procs.ensures)
    (site_each_at c.args.object.now c.args.procs.now c.args.bodies.now c.args.sigs.now c.requires.program q proc body within)

pub all_calls-requires-clause-each : goal.all_calls-requires-clause-each
all_calls-requires-clause-each c = λ q proc body less.
    let long : length c.items-procs.result.now ≡ length c.args.procs.now = ap length c.items-procs.ensures in
    let within : q < length c.args.procs.now = omega arith in
    subst (λ (procs : List Proc). length (get_or procs q proc).sites ≡ sites_in (get_or c.args.bodies.now q body)) (sym c.items-procs.ensures)
    (site_each_at c.args.object.now c.args.procs.now c.args.bodies.now c.args.sigs.now c.requires.program q proc body within)

pub all_calls-requires-clause-good : goal.all_calls-requires-clause-good
all_calls-requires-clause-good c = λ q s proc site at here.
    let object = c.args.object.now in
    let all = c.places.ensures.sites object (ends_of object c.args.sigs.now) c.args.procs.now c.requires.procs in
    let there = subst (λ (procs : List Proc). All (λ (p : Proc). All (IsGood object) (places_of p.sites)) procs) (sym c.items-procs.ensures) all in
    let places = All-contains (λ (p : Proc). All (IsGood object) (places_of p.sites)) c.items-procs.result.now proc there (found_at c.items-procs.result.now q proc at) in
    All-contains (IsGood object) (places_of proc.sites) site.place places (Contains-map (λ (x : Site). x.place) proc.sites site (found_at proc.sites s site here))

pub returns-clause-calls : goal.returns-clause-calls
returns-clause-calls c =
    let object = c.args.object.now in
    let procs = c.args.procs.now in
    let bodies = c.args.bodies.now in
    let sigs = c.args.sigs.now in
    let interface = c.in_ok-interface.interface in
    let laws = c.callees.ensures object (ends_of object sigs) procs c.relocs-relocs.ensures.sound.linkable c.requires.procs in
    let is = subst (λ (ps : List Proc). IsInterface object ps bodies sigs interface) c.items-procs.ensures c.in_ok-interface.ensures in
    IfOk-weaker c.all_calls.result _ _
    (λ all found. calls_are object procs bodies sigs c.requires.program interface laws is all (subst (λ (ps : List Proc). AreCallsFound object interface ps bodies all) c.items-procs.ensures found))
    c.all_calls.ensures

pub returns-clause-registers : goal.returns-clause-registers
returns-clause-registers c =
    let object = c.args.object.now in
    let procs = c.args.procs.now in
    let bodies = c.args.bodies.now in
    let sigs = c.args.sigs.now in
    let interface = c.in_ok-interface.interface in
    let laws = c.callees.ensures object (ends_of object sigs) procs c.relocs-relocs.ensures.sound.linkable c.requires.procs in
    let is = subst (λ (ps : List Proc). IsInterface object ps bodies sigs interface) c.items-procs.ensures c.in_ok-interface.ensures in
    IfOk-weaker c.all_calls.result _ _
    (λ all found. calls_registers object procs bodies sigs c.requires.program interface laws is all (subst (λ (ps : List Proc). AreCallsFound object interface ps bodies all) c.items-procs.ensures found))
    c.all_calls.ensures
