use Rattle.std.proofs.Common.{◌≡◌}
use Rattle.std.specs.Map.{keys_of}
use Rattle.std.specs.List.Sorted.{IsStrictlySortedBy}
use Rattle.std.specs.String.{string_cmp}
use Rattle.toml.specs.View.{members_view}
use Rattle.rt_lattice.specs.Files.{other_key}
use Rattle.rt_lattice.proofs.document.other_key.Given as goal

abbrev pub invariant-loop-key : goal.invariant-loop-key
invariant-loop-key l =
    (goal.iterator-loop-key).can_next l.key-iterator × (goal.iterator-loop-key).is_finite l.key-iterator
    × IsStrictlySortedBy string_cmp (keys_of l.key-iterator)
    × (other_key (members_view l.key-iterator) ≡ other_key (members_view l.table.entries))
