use Rattle.std.proofs.Common.{◌≡◌, ◌<◌, ◌+◌, ◌∙◌, ap, arith, get_or, length, subst, sym}
use Rattle.rt_run.specs.Inside.Analyses.{procs_in}
use Rattle.rt_run.proofs.Reporting.{AreBegun, begun_next, begun_none, begun_whole}
use Rattle.rt_run.proofs.entries.entries_of.Goals as goal

pub loop-place-init : goal.loop-place-init
loop-place-init c =
    subst (λ entries. AreBegun c.args.told c.args.analysis.now 0 entries c.in_ok-lists.lists.items) (sym c.new-entries.ensures)
    (begun_none c.args.told c.args.analysis.now c.in_ok-lists.lists.items c.in_ok-lists.ensures.long c.in_ok-lists.ensures.lists c.in_ok-lists.ensures.full)

pub loop-place-preserved : goal.loop-place-preserved
loop-place-preserved c =
    let procs = procs_in c.args.analysis.now in
    let place = c.loop-place.place in
    let shown : c.items-proc-items.result.now ≡ procs = c.items-proc-items.ensures ∙ c.procs.ensures.procs in
    subst (λ entries. AreBegun c.args.told c.args.analysis.now (place + 1) entries c.take_at.new.lists.items) (sym c.in_ok-push.ensures.ok)
    (begun_next c.args.told c.args.analysis.now place c.proc-item.result c.in-Some.lines c.in_ok-entry_of.field-0 c.loop-place.entries c.loop-place.lists.items c.take_at.new.lists.items
    c.loop-place.invariant (subst (λ l. c.proc-item.result ≡ get_or l place c.proc-item.result) shown c.proc-item.is) (subst (λ l. place < length l) shown c.loop-place-test.true)
    c.in_ok-entry_of.ensures.entry c.in_ok-entry_of.ensures.lines
    c.in-Some.ensures.taken c.in-Some.ensures.left)

pub returns-clause-entries : goal.returns-clause-entries
returns-clause-entries c =
    let shown : c.items-proc-items.result.now ≡ procs_in c.args.analysis.now = c.items-proc-items.ensures ∙ c.procs.ensures.procs in
    let is : c.loop-place.place ≡ length (procs_in c.args.analysis.now) = omega (arith, c.loop-place.auto.place-end, c.loop-place-test.false, ap length shown) in
    begun_whole c.args.told c.args.analysis.now c.loop-place.place c.loop-place.entries c.loop-place.lists.items is c.loop-place.invariant

pub returns-clause-constants : goal.returns-clause-constants
returns-clause-constants c = c.loop-place.invariant.constants

pub returns-clause-globals : goal.returns-clause-globals
returns-clause-globals c = c.loop-place.invariant.globals
