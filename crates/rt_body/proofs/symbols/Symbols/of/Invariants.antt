use Rattle.std.proofs.Common.{◌≡◌, ℕ, ◌<◌, length, take}
use Rattle.std.specs.Prelude.{position, slice_index}
use Rattle.std.specs.BTreeMap.{get}
use Rattle.rt_link.specs.declared.place.Place.{Place}
use Rattle.rt_link.specs.Effects.{is_place}
use Rattle.rt_link.specs.Links.{place_cmp}
use Rattle.rt_proc.specs.Entries.{place_of}
use Rattle.rt_body.specs.Symbols.{lowest}
use Rattle.rt_body.proofs.symbols.Symbols.of.Given as goal

abbrev pub invariant-loop-index : goal.invariant-loop-index
invariant-loop-index l = record {
  items : l.symbol-items ≡ l.object.symbols;
  each : length l.lowest.items ≡ l.index;
  firsts : (place : Place) → get place_cmp l.firsts place ≡ position (λ symbol. is_place (place_of symbol) place) (take l.index l.object.symbols);
  told : (k : ℕ) → k < l.index → slice_index l.lowest.items k ≡ lowest l.object k;
}
