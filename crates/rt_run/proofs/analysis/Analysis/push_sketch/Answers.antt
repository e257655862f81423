use Rattle.std.proofs.Common.{refl}
use Rattle.rt_run.proofs.Sketching.{adds, marks_named, marks_ordered}
use Rattle.rt_run.proofs.analysis.Analysis.push_sketch.Goals as goal

pub print-requires-clause-names : goal.print-requires-clause-names
print-requires-clause-names c =
    marks_named c.args.self.now.lattice.now c.scheme.result.now.base c.scheme.result.now.lines c.in_ok-sketch.sketch c.tree.result.now c.names.result.now
    c.names.ensures.lattice c.names.ensures.names c.tree.ensures.tree c.in_ok-sketch.ensures

pub print-requires-clause-order : goal.print-requires-clause-order
print-requires-clause-order c =
    marks_ordered c.args.self.now.lattice.now c.scheme.result.now.base c.scheme.result.now.lines c.in_ok-sketch.sketch c.tree.result.now c.order.result.now
    c.order.ensures.order c.tree.ensures.tree c.in_ok-sketch.ensures

pub returns : goal.returns
returns c =
    adds c.args.self.now c.args.number c.args.proc.now (record { section = c.args.proc.now.entry.section; offset = c.args.proc.now.entry.offset }) c.items.result.now
    c.scheme.result.now c.in_ok-sketch.sketch c.tree.result.now c.names.result.now c.order.result.now
    c.args.text.now.items c.print_heading.new.out.items c.print.new.out.items c.extend_from_slice.new.self.items c.extend_from_slice.result
    c.scheme.ensures.found c.scheme.ensures.own c.in_ok-sketch.ensures c.print.ensures.tree c.tree.ensures.tree c.names.ensures.names c.order.ensures.order refl c.items.ensures
    c.in_ok-print_heading.ensures.ok c.in_ok-print.ensures.printed c.extend_from_slice.ensures.items
