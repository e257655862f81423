use Rattle.std.proofs.Common.{◌≡◌, ◌++◌, take}
use Rattle.rt_body.specs.Readings.{definitions_from}
use Rattle.rt_body.proofs.flow.define.Given as goal

abbrev pub invariant-loop-site : goal.invariant-loop-site
invariant-loop-site l = l.graph ≡ record l.fn.graph { defs = l.fn.graph.defs ++ definitions_from 0 (take l.site l.actions) }
