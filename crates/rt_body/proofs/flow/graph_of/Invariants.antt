use Rattle.std.proofs.Common.{◌≡◌, [], take}
use Rattle.rt_body.proofs.flow.graph_of.Given as goal

abbrev pub invariant-loop-from : goal.invariant-loop-from
invariant-loop-from l = l.graph ≡ record { sites = l.sites; entry = l.entry; edges = take l.from-index l.edges; defs = [] }
