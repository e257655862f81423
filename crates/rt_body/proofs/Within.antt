-- Definitions of so many sites.
use Rattle.std.proofs.Common.{◌≡◌, ◌<◌, ℕ, List}
use Rattle.std.specs.Prelude.{All, Contains, slice_index_or}
use Rattle.std.proofs.lemmas.List.{get_or_default}
use Rattle.rt_flow.specs.declared.def.Def.{Def}
use Rattle.rt_flow.specs.declared.def.Def.TheVariants.{Entry, At}
use Rattle.rt_body.specs.Told.{IsDefWithin}

pub within_each : (sites : ℕ) (defs : List Def) → ((d : ℕ) → Contains defs (At d) → d < sites) → All (IsDefWithin sites) defs
within_each sites defs each k x less = by x (slice_index_or defs k x) (λ y. get_or_default defs k y x less)
  where
    by : (x y : Def) → ((z : Def) → slice_index_or defs k z ≡ y) → IsDefWithin sites y
    by x Entry same = tt
    by x (At d) same = each d (k, less, same (At d))
