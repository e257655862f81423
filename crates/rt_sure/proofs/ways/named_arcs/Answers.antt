use Rattle.rt_outline.proofs.Inner.{sides}
use Rattle.rt_sat.proofs.Below.{table_within}
use Rattle.rt_sure.proofs.Around.{are_around}
use Rattle.rt_sure.proofs.Inside.{are_inside}
use Rattle.rt_sure.proofs.ways.named_arcs.Goals as goal

pub arcs_of-requires-clause-named : goal.arcs_of-requires-clause-named
arcs_of-requires-clause-named c = λ l x h k. sides c.args.lines.now c.args.extra.now c.in_ok-table.table.named c.in_ok-table.ensures.table.is_named l x h k

pub arcs_of-requires-clause-within : goal.arcs_of-requires-clause-within
arcs_of-requires-clause-within c =
    let t = c.in_ok-table.table in
    table_within c.args.lines.now c.args.extra.now t.named t.edges.items c.in_ok-table.ensures.table

pub returns-clause-named : goal.returns-clause-named
returns-clause-named c = c.in_ok-table.ensures.table.is_named

pub returns-clause-around : goal.returns-clause-around
returns-clause-around c =
    let t = c.in_ok-table.table in
    are_around c.args.lines.now c.args.extra.now t.named t.edges.items t.lines c.in_ok-table.ensures c.in_ok-arcs.arcs.items c.in_ok-arcs.ensures

pub returns-clause-inside : goal.returns-clause-inside
returns-clause-inside c =
    let t = c.in_ok-table.table in
    are_inside c.args.lines.now c.args.extra.now t.named t.edges.items t.lines c.in_ok-table.ensures c.in_ok-arcs.arcs.items c.in_ok-arcs.ensures
