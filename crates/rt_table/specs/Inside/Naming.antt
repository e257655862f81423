-- Which constants and globals rows name.
use Rattle.std.specs.Prelude.{ℕ, ◌<◌, All, List, length}
use Rattle.rt_elf.specs.Parts.{Parts as Object}
use Rattle.rt_rows.specs.declared.row.Root.TheVariants.{Global}
use Rattle.rt_rows.specs.declared.row.Row.{Row}
use Rattle.rt_rows.specs.Terms.{HasConstantBelow, NamesRoot}

-- constants are below a count, and globals are symbols
pub record AreRowsGiven (object : Object) (count : ℕ) (rows : List Row) : Type 0 where
  pub constants : All (HasConstantBelow count) rows
  pub globals : (g : ℕ) → NamesRoot rows (Global g) → g < length object.symbols
