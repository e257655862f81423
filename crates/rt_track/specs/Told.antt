-- What `Values` tells.
use Rattle.std.specs.Prelude.{ℕ, [], pos, slice_index_or, unwrap_or}
use Rattle.std.specs.HashMap.{get}
use Rattle.rt_track.specs.declared.value.Value.{Value}
use Rattle.rt_track.specs.declared.value.Value.TheVariants.{At, Multi}
use Rattle.rt_track.specs.declared.values.Values.{Values}
use Rattle.rt_track.specs.Changes.{change_at}
use Rattle.rt_track.specs.Placed.{place_eq}

-- of how many sites it tells
unfoldable pub sites_of : Values → ℕ
sites_of values = values.sites

-- the value of a use of a register at a site
unfoldable pub value_at : Values → ℕ → ℕ → Value
value_at values s r = change_at (slice_index_or values.uses.items r []) s Multi

-- the value of the definition of a register at a site
unfoldable pub value_of : Values → ℕ → ℕ → Value
value_of values s r = unwrap_or (get place_eq values.definitions (s, r)) (At s r (pos 0))
