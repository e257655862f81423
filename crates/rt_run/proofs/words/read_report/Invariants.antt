use Rattle.std.proofs.Common.{◌≡◌, map, length}
use Rattle.std.specs.String.{string_bytes}
use Rattle.rt_run.specs.Words.{no_options, report_of}
use Rattle.rt_run.specs.Inside.Meant.{options_of}
use Rattle.rt_run.proofs.words.read_report.Given as goal

abbrev pub invariant-loop-rest : goal.invariant-loop-rest
invariant-loop-rest l = report_of l.content no_options (map string_bytes l.words) ≡ report_of l.content (options_of l.options) (map string_bytes l.rest)

abbrev pub decreases-loop-rest : goal.decreases-loop-rest
decreases-loop-rest l = length l.rest
