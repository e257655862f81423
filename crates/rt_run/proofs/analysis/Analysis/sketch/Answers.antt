use Rattle.rt_run.proofs.Declaring.{marks_are_names, sketch_is}
use Rattle.rt_run.proofs.analysis.Analysis.sketch.Goals as goal

pub returns-clause-sketch : goal.returns-clause-sketch
returns-clause-sketch c =
    sketch_is c.args.self.now c.args.number c.scheme.result.now c.in_ok-sketch.sketch c.tree.result.now c.scheme.ensures.found c.scheme.ensures.own
    c.in_ok-sketch.ensures c.size-size.ensures.tree c.tree.ensures.tree

pub returns-clause-marks : goal.returns-clause-marks
returns-clause-marks c =
    marks_are_names c.args.self.now.lattice.now c.scheme.result.now.base c.scheme.result.now.lines c.in_ok-sketch.sketch c.names-names.ensures.lattice
    c.in_ok-sketch.ensures
