-- What the rows of a procedure name.
use Rattle.std.specs.Prelude.{◌≡◌, ℕ, ◌<◌, All, List}
use Rattle.rt_rows.specs.declared.name.Name.{Name}
use Rattle.rt_rows.specs.declared.name.Name.TheVariants as name
use Rattle.rt_rows.specs.declared.row.Row.{Row}
use Rattle.rt_table.specs.declared.item.Item.{Item}
use Rattle.rt_table.specs.declared.item.Item.TheVariants as item
use Rattle.rt_rows.specs.Terms.{row_names}

-- a merge is one of a register at one of so many sites
abbrev pub IsNameWithin : ℕ → Name → Type 0
IsNameWithin sites (name.Merge procedure site register) = (site < sites) × (register < 32)
IsNameWithin sites other = Unit {0}

-- so are those that a row names
abbrev pub IsRowWithin : ℕ → Row → Type 0
IsRowWithin sites row = All (IsNameWithin sites) (row_names row)

-- so are those that an item's row names
abbrev pub IsItemWithin : ℕ → Item → Type 0
IsItemWithin sites (item.Told x) = IsRowWithin sites x
IsItemWithin sites (item.Instance site call) = Unit {0}
