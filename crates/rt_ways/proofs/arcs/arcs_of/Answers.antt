use Rattle.std.proofs.Common.{◌∙◌, sym, subst, Contains}
use Rattle.rt_ways.proofs.Hubs.{first_arcs, ready}
use Rattle.rt_ways.proofs.Knowing.{sides_named}
use Rattle.rt_ways.proofs.arcs.arcs_of.Goals as goal

pub enter_lines-requires-clause-distinct : goal.enter_lines-requires-clause-distinct
enter_lines-requires-clause-distinct c = c.requires.distinct

pub enter_lines-requires-clause-sides : goal.enter_lines-requires-clause-sides
enter_lines-requires-clause-sides c = λ l x h s. subst (λ ys. Contains ys x) (sym c.requires.named) (sides_named c.args.lines.now l x h s)

pub enter_lines-requires-clause-each : goal.enter_lines-requires-clause-each
enter_lines-requires-clause-each c = c.in_ok-arcs.ensures.length ∙ c.len.ensures.count

pub enter_pointers-requires-clause-ready : goal.enter_pointers-requires-clause-ready
enter_pointers-requires-clause-ready c = ready c.args.lines.now c.args.frame.now c.requires

pub enter_pointers-requires-clause-each : goal.enter_pointers-requires-clause-each
enter_pointers-requires-clause-each c = c.in_ok-enter_lines.ensures.each ∙ (c.in_ok-arcs.ensures.length ∙ c.len.ensures.count)

pub returns : goal.returns
returns c =
    first_arcs c.args.lines.now c.args.frame.now c.requires c.in_ok-arcs.arcs.items c.enter_lines.new.arcs.items c.enter_pointers.new.arcs.items (c.in_ok-arcs.ensures.length ∙ c.len.ensures.count) c.in_ok-arcs.ensures.empty
    c.in_ok-enter_lines.ensures c.in_ok-enter_pointers.ensures
