use Rattle.std.proofs.Common.{◌≡◌}
use Rattle.toml.specs.Data.{as_str}
use Rattle.toml.specs.View.{items_view}
use Rattle.rt_lattice.specs.Files.{strings_in}
use Rattle.rt_lattice.proofs.Gathering.{with_rest, rest_of}
use Rattle.rt_lattice.proofs.document.strings_of.Given as goal

abbrev pub invariant-loop-value : goal.invariant-loop-value
invariant-loop-value l = with_rest l.strings (rest_of as_str l.values l.value-index) ≡ strings_in (items_view l.values)
