use Rattle.std.proofs.Common.{◌≡◌, ℕ, false, get_or, sym, ◌∙◌}
use Rattle.std.proofs.lemmas.List.{get_or_default}
use Rattle.rt_lines.specs.declared.label.Loc.TheVariants.{Arg}
use Rattle.rt_lines.specs.declared.label.Label.{Label}
use Rattle.rt_lines.specs.declared.label.Label.TheVariants.{In, Out}
use Rattle.rt_header.proofs.Porting.{looked_next, looked_up}
use Rattle.rt_header.proofs.ports.result_node.Goals as goal

pub returns-then-is_result : goal.returns-then-is_result
returns-then-is_result c =
    let edges = c.args.edges.now in
    let k = c.loop-label.label-index in
    let d : Label × ℕ = (In (Arg 0), 0) in
    let entry : Label × ℕ = get_or edges k d in
    sym (looked_up edges k entry.1 entry.0 (Out c.args.number) c.loop-label-test.true (get_or_default edges k entry d c.loop-label-test.true)
    (sym c.is_result.ensures ∙ c.if-is_result.true) c.loop-label.invariant)

pub loop-label-preserved : goal.loop-label-preserved
loop-label-preserved c =
    let edges = c.args.edges.now in
    let k = c.loop-label.label-index in
    let d : Label × ℕ = (In (Arg 0), 0) in
    let entry : Label × ℕ = get_or edges k d in
    looked_next edges k entry.1 entry.0 (Out c.args.number) c.loop-label-test.true (get_or_default edges k entry d c.loop-label-test.true)
    (sym c.is_result.ensures ∙ c.if-is_result.false) c.loop-label.invariant
