use Rattle.std.proofs.Common.{◌≡◌}
use Rattle.toml.specs.View.{members_view}
use Rattle.rt_lattice.specs.Files.{role_names_in}
use Rattle.rt_lattice.proofs.Gathering.{with_rest}
use Rattle.rt_lattice.proofs.document.role_names_of.Given as goal

abbrev pub invariant-loop-key : goal.invariant-loop-key
invariant-loop-key l =
    (goal.iterator-loop-key).can_next l.key-iterator × (goal.iterator-loop-key).is_finite l.key-iterator
    × (with_rest l.roles (role_names_in (members_view l.key-iterator)) ≡ role_names_in (members_view l.table.entries))
