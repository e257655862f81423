-- What the values of registers are.
use Rattle.std.specs.Prelude.{◌≡◌, ◌<◌, ℕ, pos}
use Rattle.rt_flow.specs.declared.def.Def.TheVariants as def
use Rattle.rt_flow.specs.declared.reach.Reach.{Reach}
use Rattle.rt_flow.specs.Bodies.{Body, Defines}
use Rattle.rt_flow.specs.Reaching.{IsReachOf}
use Rattle.rt_flow.specs.Reaching as reaching
use Rattle.rt_track.specs.declared.ops.Ops.{Ops}
use Rattle.rt_track.specs.declared.value.Value.{Value}
use Rattle.rt_track.specs.declared.value.Value.TheVariants as value
use Rattle.rt_track.specs.declared.values.Values.{Values}
use Rattle.rt_track.specs.Candidates.{Use, Definition, IsCandidate, IsValue}
use Rattle.rt_track.specs.Operations.{op_in}
use Rattle.rt_track.specs.Told.{sites_of, value_at, value_of}

-- a value names a definition of the body, or a register
abbrev pub IsNamed : Body → Value → Type 0
IsNamed body (value.At s r a) = (s < body.sites) × (r < 32) × Defines body s (pos r)
IsNamed body (value.Entry r a) = r < 32
IsNamed body v = Unit {0}

-- the values of the uses and definitions of registers, by their candidates in each body of which the definitions were told
pub record AreValuesOf (reach : Reach) (ops : Ops) (values : Values) : Type 0 where
  pub sites : sites_of values ≡ reaching.sites_of reach
  pub uses : (body : Body) → IsReachOf body reach → (s r : ℕ) → s < body.sites → r < 32 →
      IsValue (IsCandidate body (op_in ops) (Use s r)) (value_at values s r)
  pub definitions : (body : Body) → IsReachOf body reach → (s r : ℕ) → s < body.sites → r < 32 →
      IsValue (IsCandidate body (op_in ops) (Definition (def.At s) r)) (value_of values s r)
  pub uses_named : (body : Body) → IsReachOf body reach → (s r : ℕ) → s < body.sites → r < 32 →
      IsNamed body (value_at values s r)
  pub definitions_named : (body : Body) → IsReachOf body reach → (s r : ℕ) → r < 32 → Defines body s (pos r) →
      IsNamed body (value_of values s r)
