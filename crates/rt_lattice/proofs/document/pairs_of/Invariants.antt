use Rattle.std.proofs.Common.{◌≡◌}
use Rattle.std.specs.Option.{option_and_then}
use Rattle.toml.specs.Data.{as_array}
use Rattle.toml.specs.View.{items_view}
use Rattle.rt_lattice.specs.Files.{pair_in, pairs_in}
use Rattle.rt_lattice.proofs.Gathering.{with_rest, rest_of}
use Rattle.rt_lattice.proofs.document.pairs_of.Given as goal

abbrev pub invariant-loop-value : goal.invariant-loop-value
invariant-loop-value l =
    with_rest l.pairs (rest_of (λ d. option_and_then pair_in (as_array d)) l.values l.value-index) ≡ pairs_in (items_view l.values)
