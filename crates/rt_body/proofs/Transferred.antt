-- Candidates by operations that agree where registers are defined.
use Rattle.std.proofs.Common.{◌≡◌, ℕ, pos, inl, inr, Bool, true, false, refl, sym, ap, ◌∙◌}
use Rattle.std.proofs.lemmas.Bool.{false≢true}
use Rattle.rt_flow.specs.declared.def.Def.{Def}
use Rattle.rt_flow.specs.declared.def.Def.TheVariants as def
use Rattle.rt_flow.specs.Bodies.{Body, Defines, Reaches}
use Rattle.rt_track.specs.declared.op.Op.{Op}
use Rattle.rt_track.specs.declared.op.Op.TheVariants as op
use Rattle.rt_track.specs.declared.value.Value.{Value}
use Rattle.rt_track.specs.declared.value.Value.TheVariants as value
use Rattle.rt_track.specs.Candidates.{Node, Use, Definition, IsCandidate, IsValue}
use Rattle.rt_track.specs.Candidates.IsCandidate.{of_zero, of_reaching, of_entry, of_own, of_const, of_sym, of_add_i, of_add, of_several}

-- the operation of a definition is one and the same by both
abbrev Agrees : (ℕ → ℕ → Op) → (ℕ → ℕ → Op) → Node → Type 0
Agrees ops others (Use s r) = Unit {0}
Agrees ops others (Definition def.Entry r) = Unit {0}
Agrees ops others (Definition (def.At s) r) = ops s r ≡ others s r

module _ (body : Body) (ops others : ℕ → ℕ → Op) (same : (s r : ℕ) → Defines body s (pos r) → ops s r ≡ others s r) where
  defined : (d : Def) (r t : ℕ) → Reaches body (pos r) d t → Agrees ops others (Definition d r)
  defined def.Entry r t reaches = tt
  defined (def.At s) r t reaches = same s r reaches.0

  pub transferred : (n : Node) (v : Value) → Agrees ops others n → IsCandidate body ops n v → IsCandidate body others n v
  transferred n v agrees of_zero = of_zero
  transferred n v agrees (of_reaching {s = s} {r = r} {d = d} other reaches c) = of_reaching other reaches (transferred (Definition d r) v (defined d r s reaches) c)
  transferred n v agrees of_entry = of_entry
  transferred n v agrees (of_own e) = of_own (sym agrees ∙ e)
  transferred n v agrees (of_const e) = of_const (sym agrees ∙ e)
  transferred n v agrees (of_sym e) = of_sym (sym agrees ∙ e)
  transferred n v agrees (of_add_i {s = s} {q = q} {v = w} e c) = of_add_i (sym agrees ∙ e) (transferred (Use s q) w tt c)
  transferred n v agrees (of_add {s = s} {q = q} {p = p} {v = w} {w = u} e c b) = of_add (sym agrees ∙ e) (transferred (Use s q) w tt c) (transferred (Use s p) u tt b)
  transferred n v agrees (of_several {v = w} {w = u} c b apart) = of_several (transferred n w agrees c) (transferred n u agrees b) apart

value_by : (P Q : Value → Type 0) → ((v : Value) → P v → Q v) → ((v : Value) → Q v → P v) → (v : Value) → IsValue P v → IsValue Q v
value_by P Q to from v is = record { of_sole = λ w sole. is.of_sole w (record { candidate = from w sole.candidate; only = λ u c. sole.only u (to u c) }); else_multi = elim is.else_multi [ inl sole ↦ inl (record { candidate = to v sole.candidate; only = λ u c. sole.only u (from u c) }) | inr e ↦ inr e ] }

reversed : (ops others : ℕ → ℕ → Op) (n : Node) → Agrees ops others n → Agrees others ops n
reversed ops others (Use s r) agrees = tt
reversed ops others (Definition def.Entry r) agrees = tt
reversed ops others (Definition (def.At s) r) agrees = sym agrees

-- and so the values are the same
pub value_transferred : (body : Body) (ops others : ℕ → ℕ → Op) → ((s r : ℕ) → Defines body s (pos r) → ops s r ≡ others s r) → (n : Node) → Agrees ops others n
    → (v : Value) → IsValue (IsCandidate body ops n) v → IsValue (IsCandidate body others n) v
value_transferred body ops others same n agrees v is =
    value_by (IsCandidate body ops n) (IsCandidate body others n) (λ w c. transferred body ops others same n w agrees c)
    (λ w c. transferred body others ops (λ s r defines. sym (same s r defines)) n w (reversed ops others n agrees) c) v is

abbrev is_own : Op → Bool
is_own op.Own = true
is_own other = false

-- a definition without an operation has a value of its own
module _ (body : Body) (ops : ℕ → ℕ → Op) (s r : ℕ) (own : ops s r ≡ op.Own) where
  own_only : {v : Value} → IsCandidate body ops (Definition (def.At s) r) v → v ≡ value.At s r (pos 0)
  own_only (of_own e) = refl
  own_only (of_const e) = absurd (false≢true (ap is_own (sym e ∙ own)))
  own_only (of_sym e) = absurd (false≢true (ap is_own (sym e ∙ own)))
  own_only (of_add_i e c) = absurd (false≢true (ap is_own (sym e ∙ own)))
  own_only (of_add e c b) = absurd (false≢true (ap is_own (sym e ∙ own)))
  own_only (of_several {v = v} {w = w} c b apart) = absurd (apart (own_only c ∙ sym (own_only b)))

  pub own_value : (v : Value) → IsValue (IsCandidate body ops (Definition (def.At s) r)) v → v ≡ value.At s r (pos 0)
  own_value v is = is.of_sole (value.At s r (pos 0)) (record { candidate = of_own own; only = λ w c. own_only c })
