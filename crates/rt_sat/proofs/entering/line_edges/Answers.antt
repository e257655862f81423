use Rattle.std.proofs.Common.{◌≡◌, ◌+◌, [], ◌∷◌, ◌++◌, List, take, sym, ap, subst, ◌∙◌}
use Rattle.std.proofs.lemmas.List.{take_more}
use Rattle.rt_lines.specs.declared.line.Line.{Line}
use Rattle.rt_sat.specs.Closings.{AreLineEdges}
use Rattle.rt_sat.proofs.entering.line_edges.Goals as goal

pub loop-line-preserved : goal.loop-line-preserved
loop-line-preserved c =
    let i = c.loop-line.line-index in
    let lines = c.args.lines.now in
    let line = c.line-item.result in
    let more : take (i + 1) lines ≡ take i lines ++ line ∷ [] = take_more lines i line c.loop-line-test.true ∙ ap (λ l. take i lines ++ l ∷ []) (sym c.line-item.is) in
    subst (λ (ls : List Line). AreLineEdges ls c.args.named.now c.enter_line.new.edges.items) (sym more) (c.in_ok-enter_line.ensures (take i lines) c.loop-line.invariant)
