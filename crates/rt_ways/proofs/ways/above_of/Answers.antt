use Rattle.rt_ways.proofs.ways.above_of.Goals as goal

pub close-requires-clause-few : goal.close-requires-clause-few
close-requires-clause-few c = c.requires.few

pub close-requires-clause-distinct : goal.close-requires-clause-distinct
close-requires-clause-distinct c = c.requires.distinct

pub close-requires-clause-steps : goal.close-requires-clause-steps
close-requires-clause-steps c = c.requires.steps

pub close-requires-clause-each : goal.close-requires-clause-each
close-requires-clause-each c = c.in_ok-arcs.ensures.each

pub close-requires-clause-within : goal.close-requires-clause-within
close-requires-clause-within c = c.in_ok-arcs.ensures.within

pub returns : goal.returns
returns c = record { arcs = c.in_ok-arcs.arcs.items; first = c.in_ok-arcs.ensures; closed = c.in_ok-above.ensures }
