-- Load and store exchanged.
use Rattle.rt_lines.specs.declared.label.Label.{Label}
use Rattle.rt_lines.specs.declared.label.Label.TheVariants.{In, Out, Load, Store, Field}

-- the load for a store, the store for a load; other labels stay
abbrev pub other : Label → Label
other Load = Store
other Store = Load
other (In a) = In a
other (Out n) = Out n
other (Field w k) = Field w k
