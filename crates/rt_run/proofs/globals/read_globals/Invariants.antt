use Rattle.std.proofs.Common.{All, take}
use Rattle.rt_reports.specs.GoodReports.{IsGlobal}
use Rattle.rt_run.proofs.globals.read_globals.Given as goal

abbrev pub invariant-loop-number : goal.invariant-loop-number
invariant-loop-number l = All IsGlobal (take l.number-index l.globals)
