-- What is known of the registers at each site of a procedure.
use Rattle.std.specs.Prelude.{ℕ, ℤ, pos, ◌+◌, List, [], ◌∷◌, ◌++◌, map, length, get_or}
use Rattle.std.specs.List.{position_or_len}
use Rattle.rt_link.specs.declared.place.Place.{Place}
use Rattle.rt_link.specs.Effects.{is_place}
use Rattle.rt_proc.specs.declared.proc.Proc.{Proc}
use Rattle.rt_proc.specs.declared.site.Site.{Site}
use Rattle.rt_proc.specs.Procs.{places_of}
use Rattle.rt_flow.specs.declared.def.Def.{Def}
use Rattle.rt_flow.specs.Bodies.{Body}
use Rattle.rt_track.specs.declared.op.Op.{Op}
use Rattle.rt_track.specs.declared.value.Value.{Value}
use Rattle.rt_body.specs.declared.action.Action.{Action}
use Rattle.rt_body.specs.declared.action.Action.TheVariants as action
use Rattle.rt_body.specs.Actions.{defined_by, op_of}

-- the number of a site's place among places
abbrev pub number_at : List Place → Place → ℕ
number_at places place = position_or_len (is_place place) places

-- the edges from sites, the first of which has number i, to those that they step to
abbrev pub edges_from : List Place → ℕ → List Site → List (ℕ × ℕ)
edges_from places i [] = []
edges_from places i (site ∷ sites) = map (λ to. (i, number_at places to)) site.next ++ edges_from places (i + 1) sites

-- the registers that sites define, the first of which has number i
abbrev pub definitions_from : ℕ → List Action → List (ℕ × ℤ)
definitions_from i [] = []
definitions_from i (act ∷ actions) = map (λ register. (i, pos register)) (defined_by act) ++ definitions_from (i + 1) actions

-- the sites of a procedure and their edges, without definitions
abbrev pub body_of : Proc → Body
body_of proc = record {
  sites = length proc.sites;
  entry = number_at (places_of proc.sites) proc.entry;
  edges = edges_from (places_of proc.sites) 0 proc.sites;
  defs = [];
}

-- sites, of which one is the entry, with their edges and the registers that they define
abbrev pub flow_body : List Action → ℕ → List (ℕ × ℕ) → Body
flow_body actions entry edges = record { sites = length actions; entry = entry; edges = edges; defs = definitions_from 0 actions }

-- with the registers that its sites define
abbrev pub register_body : Proc → List Action → Body
register_body proc actions = record (body_of proc) { defs = definitions_from 0 actions }

-- the action of the site of a number
abbrev pub action_at : List Action → ℕ → Action
action_at actions site = get_or actions site action.Pass

-- how the definition of a register by a site comes about: a call computes none of its registers
abbrev pub op_at : List Action → ℕ → ℕ → Op
op_at actions site register = op_of (action_at actions site)

-- what is known of a procedure's registers: what its sites do, its sites and edges, the value of each use and of each definition,
-- and the definitions of a register that reach a site
pub record Reading : Type 0 where
  pub actions : List Action
  pub body : Body
  pub value_at : ℕ → ℕ → Value
  pub value_of : ℕ → ℕ → Value
  pub reaching : ℕ → ℕ → List Def
