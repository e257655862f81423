use Rattle.std.proofs.Common.{◌≡◌, ◌++◌, pos, map, take}
use Rattle.rt_body.proofs.flow.define_each.Given as goal

abbrev pub invariant-loop-register : goal.invariant-loop-register
invariant-loop-register l = l.graph ≡ record l.fn.graph { defs = l.fn.graph.defs ++ map (λ register. (l.site, pos register)) (take l.register-index l.registers) }
