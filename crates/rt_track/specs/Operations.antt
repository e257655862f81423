-- What operations definitions have.
use Rattle.std.specs.Prelude.{ℕ, List, Option, unwrap_or}
use Rattle.indexmap.specs.IndexMap.{get, index_of}
use Rattle.rt_track.specs.declared.op.Op.{Op}
use Rattle.rt_track.specs.declared.op.Op.TheVariants.{Own}
use Rattle.rt_track.specs.declared.ops.Ops.{Ops}
use Rattle.rt_track.specs.Placed.{place_eq}

-- for how many sites there are operations
unfoldable pub ops_sites : Ops → ℕ
ops_sites ops = ops.sites

-- the operation of the definition of a register at a site
unfoldable pub op_in : Ops → ℕ → ℕ → Op
op_in ops s r = unwrap_or (get place_eq ops.given (s, r)) Own

-- the definitions that were given one, each a site and a register, in the order of their numbers
unfoldable pub entries_of : Ops → List ((ℕ × ℕ) × Op)
entries_of ops = ops.given.entries

-- the number of a definition
unfoldable pub number_in : Ops → ℕ → ℕ → Option ℕ
number_in ops s r = index_of place_eq ops.given (s, r)
