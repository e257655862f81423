use Rattle.std.proofs.Common.{ℕ, ◌+◌, take, sym, subst}
use Rattle.std.proofs.lemmas.List.{take_more}
use Rattle.rt_lines.specs.declared.label.Loc.TheVariants.{Arg}
use Rattle.rt_lines.specs.declared.label.Label.{Label}
use Rattle.rt_lines.specs.declared.label.Label.TheVariants.{In}
use Rattle.rt_header.specs.Inside.Ports.{AreArguments}
use Rattle.rt_header.proofs.ports.arguments.Goals as goal

pub loop-label-preserved : goal.loop-label-preserved
loop-label-preserved c =
    let edges = c.args.edges.now in
    let k = c.loop-label.label-index in
    let d : Label × ℕ = (In (Arg 0), 0) in
    subst (λ es. AreArguments es c.note_edge.new.nodes.items) (sym (take_more edges k d c.loop-label-test.true))
    (c.in_ok-note_edge.ensures (take k edges) c.loop-label.invariant)
