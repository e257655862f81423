use Rattle.std.proofs.Common.{Contains, List, sym, subst}
use Rattle.std.proofs.lemmas.List.Elements.{Contains-get_or}
use Rattle.rt_lines.specs.declared.line.Line.{Line}
use Rattle.rt_lines.specs.declared.variable.Dtv.{Dtv}
use Rattle.rt_sat.specs.Increments.{named_of, AreEdgesAmong}
use Rattle.rt_sat.proofs.Copying.{among_more}
use Rattle.rt_sat.proofs.increments.GrowingTable.edges_of.Goals.{then-has_sides+in_ok-enter_line, else-has_sides}
use Rattle.rt_sat.proofs.increments.GrowingTable.edges_of.Goals as goal

pub loop-line-preserved : goal.loop-line-preserved
loop-line-preserved c =
    let lines : List Line = c.args.lines.now in
    let known : List Dtv = named_of c.args.self.now in
    let line : Line = c.line-item.result in
    let listed : Contains lines line = subst (Contains lines) (sym c.line-item.is) (Contains-get_or lines c.loop-line.line-index line c.loop-line-test.true) in
    elim c.if-has_sides.branch [
      | then-has_sides+in_ok-enter_line w ↦ subst (λ v. AreEdgesAmong lines known v.items) (sym w.edges-is)
          (among_more lines known line c.loop-line.edges.items w.enter_line.new.edges.items listed (c.has_sides.ensures w.if-has_sides.true) w.in_ok-enter_line.ensures c.loop-line.invariant)
      | else-has_sides w ↦ subst (λ v. AreEdgesAmong lines known v.items) (sym w.edges-is) c.loop-line.invariant
    ]
