use Rattle.std.proofs.Common.{[], ◌∷◌, inr, List, length, refl, subst, sym}
use Rattle.rt_lines.specs.declared.line.Line.{Line}
use Rattle.rt_sat.specs.declared.increments.GrowingTable.{GrowingTable}
use Rattle.rt_sat.specs.declared.state.Edge.{Edge}
use Rattle.rt_sat.specs.Closings.{AreLineEdges}
use Rattle.rt_sat.specs.Increments.{named_of}
use Rattle.rt_sat.proofs.Adding.{sides_one, tells_lines}
use Rattle.rt_sat.proofs.ToldPushes.{all_ready_same}
use Rattle.rt_sat.proofs.increments.GrowingTable.add.Goals as goal

pub returns-clause-added : goal.returns-clause-added
returns-clause-added c = λ lines tells.
    let line : Line = c.args.line.now in
    let old : GrowingTable = c.args.self.now in
    let known = named_of old in
    let new : GrowingTable = record { frame = old.frame; family = c.enter.new.family; kin = old.kin } in
    let are : AreLineEdges (line ∷ []) known c.deref.result.now =
    subst (λ (edges : List Edge). AreLineEdges (line ∷ []) known edges) (sym c.deref.ensures.value)
    (subst (λ (lines : List Line). AreLineEdges lines known c.in_ok-edges.edges.items) c.from_ref.ensures.value c.in_ok-edges.ensures) in
    inr (tells_lines lines (line ∷ []) old new c.deref.result.now tells (sides_one known line (c.if-not-has_sides.ensures refl)) are
    refl (c.in_ok-enter.ensures.family (length known) tells.family) refl
    (all_ready_same known old.frame.flips.items (length known) old.family c.enter.new.family old.kin.links old.kin.ready.items c.in_ok-enter.ensures.same tells.family (c.in_ok-enter.ensures.family (length known) tells.family) tells.ready)
    (λ more within linked. c.in_ok-enter.ensures.told known old.frame.flips.items more within tells.ready linked))

pub enter-requires-clause-ready : goal.enter-requires-clause-ready
enter-requires-clause-ready c = (named_of c.args.self.now, c.args.self.now.frame.flips.items, c.requires.1.ready)
