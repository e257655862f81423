-- What registers may hold, over all ways through a body.
use Rattle.std.specs.Prelude.{◌≡◌, ◌⊎◌, ◌==◌, ℕ, ℤ, pos, if◌then◌else◌}
use Rattle.rt_flow.specs.declared.def.Def.{Def}
use Rattle.rt_flow.specs.declared.def.Def.TheVariants as def
use Rattle.rt_flow.specs.Bodies.{Body, Reaches}
use Rattle.rt_track.specs.declared.op.Op.{Op}
use Rattle.rt_track.specs.declared.op.Op.TheVariants as op
use Rattle.rt_track.specs.declared.value.Value.{Value}
use Rattle.rt_track.specs.declared.value.Value.TheVariants as value
use Rattle.rt_track.specs.Values.{plus, sum}

-- a use of a register at a site, or a definition of a register
pub data Node : Type 0 where
  Use : ℕ → ℕ → Node
  Definition : Def → ℕ → Node

-- what a register holds at the entry: x2 is the stack pointer, from which the frame is counted
abbrev pub entry_value : ℕ → Value
entry_value r = if r == 2 then value.Frame (pos 0) else value.Entry r (pos 0)

-- the candidates of uses and definitions, by the operations of definitions: x0 holds 0, a use of another register holds what a
-- definition that reaches it gave, a definition gives what its operation makes of the uses at its site; and where two
-- candidates differ, it may be several
pub data IsCandidate (body : Body) (ops : ℕ → ℕ → Op) : Node → Value → Type 0 where
  of_zero : {s : ℕ} → IsCandidate body ops (Use s 0) (value.Const 0)
  of_reaching : {s r : ℕ} {d : Def} {v : Value} → (r ≡ 0 → ⊥) → Reaches body (pos r) d s →
      IsCandidate body ops (Definition d r) v →
      IsCandidate body ops (Use s r) v
  of_entry : {r : ℕ} → IsCandidate body ops (Definition def.Entry r) (entry_value r)
  of_own : {s r : ℕ} → ops s r ≡ op.Own → IsCandidate body ops (Definition (def.At s) r) (value.At s r (pos 0))
  of_const : {s r c : ℕ} → ops s r ≡ op.Const c → IsCandidate body ops (Definition (def.At s) r) (value.Const c)
  of_sym : {s r g : ℕ} {a : ℤ} → ops s r ≡ op.Sym g a → IsCandidate body ops (Definition (def.At s) r) (value.Sym g a)
  of_add_i : {s r q : ℕ} {k : ℤ} {v : Value} → ops s r ≡ op.AddI q k → IsCandidate body ops (Use s q) v →
      IsCandidate body ops (Definition (def.At s) r) (plus v k)
  of_add : {s r q p : ℕ} {v w : Value} → ops s r ≡ op.Add q p → IsCandidate body ops (Use s q) v →
      IsCandidate body ops (Use s p) w →
      IsCandidate body ops (Definition (def.At s) r) (sum s r v w)
  of_several : {n : Node} {v w : Value} → IsCandidate body ops n v → IsCandidate body ops n w → (v ≡ w → ⊥) →
      IsCandidate body ops n value.Multi

-- the one candidate
pub record IsSole (is_candidate : Value → Type 0) (v : Value) : Type 0 where
  pub candidate : is_candidate v
  pub only : (w : Value) → is_candidate w → w ≡ v

-- the one candidate if there is one, else several
pub record IsValue (is_candidate : Value → Type 0) (v : Value) : Type 0 where
  pub of_sole : (w : Value) → IsSole is_candidate w → v ≡ w
  pub else_multi : IsSole is_candidate v ⊎ (v ≡ value.Multi)
