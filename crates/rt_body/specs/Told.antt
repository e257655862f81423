-- What a body tells.
use Rattle.std.specs.Prelude.{ℕ, pos, ◌<◌, ◌&&◌, nat_lt, Bool, List, [], if◌then◌else◌, length}
use Rattle.rt_flow.specs.declared.def.Def.{Def}
use Rattle.rt_flow.specs.declared.def.Def.TheVariants.{Entry, At}
use Rattle.rt_flow.specs.Sources.{defs_in}
use Rattle.rt_track.specs.declared.value.Value.{Value}
use Rattle.rt_track.specs.declared.value.Value.TheVariants as value
use Rattle.rt_track.specs.Told.{value_at, value_of}
use Rattle.rt_body.specs.declared.body.Body.{Body}
use Rattle.rt_body.specs.Readings.{Reading, flow_body}

-- a site of a body, and a register x0 to x31
abbrev pub is_use : Body → ℕ → ℕ → Bool
is_use body site register = nat_lt site (length body.actions) && nat_lt register 32

-- what a register holds where a site uses it; several values where there is no such site or register
unfoldable pub use_value : Body → ℕ → ℕ → Value
use_value body site register = if is_use body site register then value_at body.values site register else value.Multi

-- what the definition of a register by a site gives; a value of its own where there is no such site or register
unfoldable pub definition_value : Body → ℕ → ℕ → Value
definition_value body site register = if is_use body site register then value_of body.values site register else value.At site register
    (pos 0)

-- the definitions of a register that reach a site; none where there is no such site
unfoldable pub reaching_use : Body → ℕ → ℕ → List Def
reaching_use body site register = if nat_lt site (length body.actions) then defs_in body.reach site (pos register) else []

-- what is known by a body
abbrev pub reading_of : Body → Reading
reading_of body = record {
  actions = body.actions;
  body = flow_body body.actions body.entry body.edges;
  value_at = λ site register. use_value body site register;
  value_of = λ site register. definition_value body site register;
  reaching = λ site register. reaching_use body site register;
}

-- how many sites it has
abbrev pub sites_in : Body → ℕ
sites_in body = length body.actions

-- a definition is that of Entry, or of one of so many sites
abbrev pub IsDefWithin : ℕ → Def → Type 0
IsDefWithin sites Entry = Unit {0}
IsDefWithin sites (At site) = site < sites
