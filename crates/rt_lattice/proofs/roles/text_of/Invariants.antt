use Rattle.std.proofs.Common.{◌≡◌, drop}
use Rattle.rt_lattice.specs.Closures.{role_text}
use Rattle.rt_lattice.proofs.roles.text_of.Given as goal

abbrev pub invariant-loop-entry : goal.invariant-loop-entry
invariant-loop-entry l = role_text (drop l.entry-index l.entry-items) l.role ≡ role_text l.entry-items l.role
