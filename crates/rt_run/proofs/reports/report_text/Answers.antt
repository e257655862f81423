use Rattle.std.proofs.Common.{All, subst, sym}
use Rattle.rt_scheme.specs.declared.report.Entry.{Entry}
use Rattle.rt_table.specs.Lists.{HasGlobalsOf}
use Rattle.rt_run.specs.Globals.{AreGlobals}
use Rattle.rt_run.specs.Inside.Goods.{HasGoodParts}
use Rattle.rt_run.specs.Inside.Analyses.{object_in}
use Rattle.rt_run.proofs.Reporting.{right_text}
use Rattle.rt_run.proofs.reports.report_text.Goals as goal

pub globals_of-requires : goal.globals_of-requires
globals_of-requires c =
    subst (λ o. All (λ (entry : Entry). HasGlobalsOf o entry.lines) c.items.result.now) c.in_ok-analysis.ensures.object
    (subst (All (λ (entry : Entry). HasGlobalsOf (object_in c.in_ok-analysis.analysis) entry.lines)) (sym c.items.ensures) c.in_ok-entries.ensures.globals)

pub returns : goal.returns
returns c =
    right_text c.args.told c.args.program.now.object c.args.program.now.procs c.args.lattice.now c.args.sigs.now c.names.result.now c.in_ok-analysis.analysis
    (record { globals = c.in_ok-globals.globals; entries = c.in_ok-entries.entries }) (λ text. text.items) c.print_report.result
    c.requires.in_profile c.in_ok-analysis.ensures.is_analysis c.in_ok-analysis.ensures.object c.in_ok-analysis.ensures.procs c.in_ok-analysis.ensures.signatures c.in_ok-analysis.ensures.lattice
    c.in_ok-entries.ensures.entries (subst (λ entries. AreGlobals c.args.program.now.object entries c.in_ok-globals.globals) c.items.ensures c.in_ok-globals.ensures.globals)
    c.in_ok-globals.ensures.good c.in_ok-entries.ensures.constants (subst (All HasGoodParts) c.items.ensures c.in_ok-globals.ensures.parts)
    c.names.ensures.names c.print_report.ensures
