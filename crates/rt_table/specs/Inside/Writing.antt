-- How items are written, one after the other.
use Rattle.std.specs.Prelude.{Option, None, List}
use Rattle.rt_rows.specs.declared.name.Name.{Name}
use Rattle.rt_rows.specs.Terms.{row_names}
use Rattle.rt_table.specs.declared.item.Item.{Item}
use Rattle.rt_table.specs.declared.item.Item.TheVariants as item
use Rattle.rt_table.specs.Table.{first_closed}

-- the first merge that isn't open among those that an item's row names
abbrev pub closed_in : List Name → Item → Option Name
closed_in open_names (item.Told x) = first_closed open_names (row_names x)
closed_in open_names (item.Instance site call) = None
