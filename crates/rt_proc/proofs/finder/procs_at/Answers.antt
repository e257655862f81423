use Rattle.std.proofs.Common.{rules, get_or}
use Rattle.std.proofs.lemmas.List.Elements.{Contains-get_or}
use Rattle.rt_link.specs.declared.place.Place.{Place}
use Rattle.rt_proc.specs.declared.fault.CodeFault.{CodeFault}
use Rattle.rt_proc.specs.Faults.{IsFaultOf}
use Rattle.rt_proc.proofs.Collected.{first-more, first-body, are_procs, no-faults}
use Rattle.rt_proc.proofs.finder.procs_at.Goals as goal

abbrev nowhere : Place
nowhere = record { section = 0; offset = 0 }

pub proc_at-requires-clause-entry : goal.proc_at-requires-clause-entry
proc_at-requires-clause-entry c =
    (c.requires.entries.same (get_or c.args.entries.now c.loop-entry.entry-index nowhere)).0 (Contains-get_or c.args.entries.now c.loop-entry.entry-index nowhere c.loop-entry-test.true)

pub returns-in_err-proc_at-clause-bad : goal.returns-in_err-proc_at-clause-bad
returns-in_err-proc_at-clause-bad c =
    let fault : CodeFault = c.in_err-proc_at.field-0.0 in
    let first : IsFaultOf c.args.code.now.source.object.now c.args.code.now.source.ends.now fault =
    first-body c.args.code.now.source.object.now c.args.code.now.source.ends.now c.args.entries.now c.requires.entries c.loop-entry.entry-index _ fault c.requires.symbols c.loop-entry-test.true c.loop-entry.invariant.sound c.in_err-proc_at.ensures.bad in
    search rules

pub loop-entry-preserved : goal.loop-entry-preserved
loop-entry-preserved c =
    first-more c.args.code.now.source.object.now c.args.code.now.source.ends.now c.args.entries.now c.requires.entries c.loop-entry.entry-index _ c.loop-entry.procs c.push.new.self c.in_ok-proc_at.field-0
    c.loop-entry-test.true c.in_ok-push.ensures.ok c.in_ok-proc_at.ensures.entry c.in_ok-proc_at.ensures.found c.in_ok-proc_at.ensures.sound c.loop-entry.invariant

pub returns-clause-none : goal.returns-clause-none
returns-clause-none c =
    no-faults c.args.code.now.source.object.now c.args.code.now.source.ends.now c.args.entries.now c.requires.entries c.loop-entry.entry-index c.loop-entry.procs c.loop-entry-test.false c.loop-entry.invariant c.requires.symbols

pub returns-clause-found : goal.returns-clause-found
returns-clause-found c =
    are_procs c.args.code.now.source.object.now c.args.code.now.source.ends.now c.args.entries.now c.requires.entries c.loop-entry.entry-index c.loop-entry.procs c.loop-entry-test.false c.loop-entry.invariant
