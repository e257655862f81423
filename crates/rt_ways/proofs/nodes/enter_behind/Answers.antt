use Rattle.std.proofs.Common.{arith}
use Rattle.rt_ways.proofs.Noding.{behind_bare, behind_made}
use Rattle.rt_ways.proofs.nodes.enter_behind.Goals as goal

pub returns-in-Bare : goal.returns-in-Bare
returns-in-Bare c = behind_bare c.args.named.now c.args.groups.now c.args.number _ c.args.behind.now.entries c.in-Bare.ensures.made c.requires.behind

pub returns-in_ok-insert-in-Longer : goal.returns-in_ok-insert-in-Longer
returns-in_ok-insert-in-Longer c =
    behind_made c.args.named.now c.args.groups.now c.args.number c.in-Longer.parent c.in-Longer.label c.args.behind.now.entries c.insert.new.self.entries c.requires.distinct
    (record { within = c.requires.number; parent = omega (arith, c.requires.number, c.in-Longer.ensures.below); is = c.in-Longer.ensures.made }) c.in_ok-insert-in-Longer.ensures.updates.0 c.requires.behind
