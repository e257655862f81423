-- When what is known of a procedure's registers is true.
use Rattle.std.specs.Prelude.{◌≡◌, ℕ, pos, ◌<◌, ◌≤◌, Contains, [], length}
use Rattle.rt_elf.specs.Parts.{Parts as Object}
use Rattle.rt_proc.specs.declared.proc.Proc.{Proc}
use Rattle.rt_flow.specs.declared.def.Def.TheVariants.{At}
use Rattle.rt_flow.specs.Bodies.{IsBody, AreReaching}
use Rattle.rt_track.specs.declared.value.Value.TheVariants as value
use Rattle.rt_track.specs.Candidates.{Use, Definition, IsCandidate, IsValue}
use Rattle.rt_body.specs.Actions.{actions_of, defined_by}
use Rattle.rt_body.specs.Readings.{Reading, register_body, action_at, op_at}

-- It is what is true of a procedure of an object. What isn't asked of it is fixed, so that there is one such reading: a use of no site or
-- of no register may hold several values, where a site doesn't define a register its definition has a value of its own, and no definition
-- reaches what is no site.
pub record IsReading (object : Object) (proc : Proc) (reading : Reading) : Type 0 where
  pub actions : reading.actions ≡ actions_of object proc
  pub body : reading.body ≡ register_body proc reading.actions
  pub is_body : IsBody reading.body
  pub value_at : (site register : ℕ) → site < length reading.actions → register < 32
      → IsValue (IsCandidate reading.body (op_at reading.actions) (Use site register)) (reading.value_at site register)
  pub value_of : (site register : ℕ) → Contains (defined_by (action_at reading.actions site)) register
      → IsValue (IsCandidate reading.body (op_at reading.actions) (Definition (At site) register)) (reading.value_of site register)
  pub reaching : (site register : ℕ) → site < length reading.actions →
      AreReaching reading.body (pos register) site (reading.reaching site register)
  pub value_at_else : (site register : ℕ) → (site < length reading.actions → register < 32 → ⊥) →
      reading.value_at site register ≡ value.Multi
  pub value_of_else : (site register : ℕ) → (Contains (defined_by (action_at reading.actions site)) register → ⊥)
      → reading.value_of site register ≡ value.At site register (pos 0)
  pub reaching_else : (site register : ℕ) → length reading.actions ≤ site → reading.reaching site register ≡ []
