use Rattle.std.proofs.Common.{◌≡◌, flat_map, take}
use Rattle.rt_rows.specs.Terms.{names_of}
use Rattle.rt_rows.proofs.numbering.names_of.Given as goal

abbrev pub invariant-loop-rows : goal.invariant-loop-rows
invariant-loop-rows l = l.names.keys ≡ names_of (flat_map (λ rows. rows) (take l.rows-index l.lists))
