-- What is told of the symbols that stand at one place.
use Rattle.std.specs.Prelude.{◌≡◌, ℕ, get_or}
use Rattle.rt_elf.specs.Parts.{Parts as Object}
use Rattle.rt_body.specs.declared.symbols.Symbols.{Symbols}
use Rattle.rt_body.specs.Symbols.{lowest}

-- the lowest symbol that is told for a symbol
unfoldable pub lowest_in : Symbols → ℕ → ℕ
lowest_in symbols index = get_or symbols.lowest.items index index

-- they are those of an object
pub record AreSymbolsOf (object : Object) (symbols : Symbols) : Type 0 where
  pub same : (index : ℕ) → lowest_in symbols index ≡ lowest object index
