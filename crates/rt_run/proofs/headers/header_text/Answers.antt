use Rattle.std.proofs.Common.{length}
use Rattle.rt_run.specs.Inside.Analyses.{procs_in}
use Rattle.rt_run.proofs.Declaring.{header_whole, sketches_rise}
use Rattle.rt_run.proofs.headers.header_text.Goals as goal

pub header-requires-clause-ascending : goal.header-requires-clause-ascending
header-requires-clause-ascending c =
    let analysis = c.in_ok-analysis.analysis in
    sketches_rise analysis.lattice.now analysis (length (procs_in analysis)) c.in_ok-sketches.sketches c.in_ok-sketches.ensures.sketches
