use Rattle.std.proofs.Common.{◌-◌, ◌<◌, [], List, drop, length, take, refl, sym, subst, arith}
use Rattle.std.proofs.lemmas.Option.{slice_get_read}
use Rattle.rt_base.proofs.Lists.{Contains-read}
use Rattle.rt_sat.specs.declared.state.Edge.{Edge}
use Rattle.rt_sure.specs.Arcs.{AreArcs}
use Rattle.rt_sure.proofs.Entered.{behind_next}
use Rattle.rt_sure.proofs.ways.arcs_of.Goals as goal

pub loop-i-preserved : goal.loop-i-preserved
loop-i-preserved c =
    let less : c.loop-i.i < length c.args.lines.now = omega (arith, c.loop-i-test.true, c.len.ensures.count) in
    c.in_ok-enter_line.ensures c.args.lines.now []
    (slice_get_read c.args.lines.now (length c.args.lines.now) c.loop-i.i c.index-lines-i.result refl less c.index-lines-i.is)
    c.loop-i.invariant

pub enter_edge-requires : goal.enter_edge-requires
enter_edge-requires c =
    let edges = c.args.table.now.edges.items in
    let less : c.loop-j.j < length edges = omega (arith, c.loop-j-test.true, c.len-j-end.ensures) in
    let e = c.index.result.now in
    let within : e.from.variable < length c.args.table.now.named =
    (c.requires.within e (Contains-read edges c.loop-j.j e e less (sym c.index.ensures))).0 in
    omega (arith, within, c.loop-j.invariant.each)

pub loop-j-preserved : goal.loop-j-preserved
loop-j-preserved c =
    let edges = c.args.table.now.edges.items in
    let count = c.args.table.now.lines in
    let less : c.loop-j.j < length edges = omega (arith, c.loop-j-test.true, c.len-j-end.ensures) in
    subst (λ (xs : List Edge). AreArcs c.args.lines.now (length c.args.lines.now) c.args.table.now.named xs c.enter_edge.new.arcs.items)
    (sym (behind_next edges count c.loop-j.j c.index.result.now c.loop-j.auto.j less c.index.ensures))
    (c.in_ok-enter_edge.ensures c.args.lines.now (length c.args.lines.now) c.args.table.now.named
    (take (c.loop-j.j - count) (drop count edges)) c.loop-j.invariant)
