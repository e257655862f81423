-- Which definitions and registers values name.
use Rattle.std.proofs.Common.{◌≡◌, ◌<◌, ◌⊎◌, inl, inr, ℕ, ℤ, pos, Bool, true, false, if◌then◌else◌, Option, Some, None, refl, sym, subst, ◌∙◌}
use Rattle.std.specs.Prelude.{◌==◌}
use Rattle.std.proofs.lemmas.List.Elements.{All-contains}
use Rattle.rt_flow.specs.declared.def.Def.{Def}
use Rattle.rt_flow.specs.declared.def.Def.TheVariants as def
use Rattle.rt_flow.specs.Bodies.{Body, IsBody, Defines, Reaches}
use Rattle.rt_track.specs.declared.op.Op.{Op}
use Rattle.rt_track.specs.declared.op.Op.TheVariants as op
use Rattle.rt_track.specs.declared.ops.Ops.{Ops}
use Rattle.rt_track.specs.declared.value.Value.{Value}
use Rattle.rt_track.specs.declared.value.Value.TheVariants as value
use Rattle.rt_track.specs.Candidates.{Node, Use, Definition, IsCandidate, IsSole, IsValue, entry_value}
use Rattle.rt_track.specs.Candidates.IsCandidate.{of_zero, of_reaching, of_entry, of_own, of_const, of_sym, of_add_i, of_add, of_several}
use Rattle.rt_track.specs.Operations.{number_in, op_in}
use Rattle.rt_track.specs.Placed.{NamesRegisters}
use Rattle.rt_track.specs.Tracked.{IsNamed}
use Rattle.rt_track.specs.Values.{onto, plus, sum}
use Rattle.rt_track.proofs.Entering.{entry_within, no_entry}

module _ (body : Body) (is_body : IsBody body) (ops : Ops) where
  -- a site that defines a register is one of the body's
  site_in : (s r : ℕ) → Defines body s (pos r) → s < body.sites
  site_in s r defines = All-contains (λ d. d.0 < body.sites) body.defs (s, pos r) is_body.defs_in defines

  -- which uses and definitions there are
  pub IsThere : Node → Type 0
  IsThere (Use s r) = r < 32
  IsThere (Definition def.Entry r) = r < 32
  IsThere (Definition (def.At s) r) = (r < 32) × Defines body s (pos r)

  plus_named : (v : Value) (k : ℤ) → IsNamed body v → IsNamed body (plus v k)
  plus_named (value.Const c) k named = tt
  plus_named (value.Sym g a) k named = tt
  plus_named (value.Frame a) k named = tt
  plus_named (value.Entry r a) k named = named
  plus_named (value.At s r a) k named = named
  plus_named value.Multi k named = tt

  onto_named : (s r : ℕ) (v w : Value) → (s < body.sites) × (r < 32) × Defines body s (pos r) → IsNamed body v → IsNamed body (onto s r v w)
  onto_named s r v (value.Const c) here first = plus_named v _ first
  onto_named s r v value.Multi here first = tt
  onto_named s r v (value.Sym g a) here first = here
  onto_named s r v (value.Frame a) here first = here
  onto_named s r v (value.Entry q a) here first = here
  onto_named s r v (value.At t q a) here first = here

  sum_named : (s r : ℕ) (v w : Value) → (s < body.sites) × (r < 32) × Defines body s (pos r) → IsNamed body v → IsNamed body w → IsNamed body (sum s r v w)
  sum_named s r (value.Const c) w here first second = plus_named w _ second
  sum_named s r value.Multi w here first second = tt
  sum_named s r (value.Sym g a) w here first second = onto_named s r (value.Sym g a) w here first
  sum_named s r (value.Frame a) w here first second = onto_named s r (value.Frame a) w here first
  sum_named s r (value.Entry q a) w here first second = onto_named s r (value.Entry q a) w here first
  sum_named s r (value.At t q a) w here first second = onto_named s r (value.At t q a) w here first

  -- the registers that an operation names
  registers : (s r : ℕ) → (op_in ops s r ≡ op.Own) ⊎ NamesRegisters (op_in ops s r)
  registers s r = by (number_in ops s r) (λ n e. (entry_within ops s r n e).2) (λ e. no_entry ops s r e)
    where
      by : (o : Option ℕ) → ((n : ℕ) → o ≡ Some n → NamesRegisters (op_in ops s r)) → (o ≡ None → op_in ops s r ≡ op.Own) → (op_in ops s r ≡ op.Own) ⊎ NamesRegisters (op_in ops s r)
      by None some none = inl (none refl)
      by (Some n) some none = inr (some n refl)

  entry_named : (r : ℕ) → r < 32 → IsNamed body (entry_value r)
  entry_named r less = by (r == 2)
    where
      by : (b : Bool) → IsNamed body (if b then value.Frame (pos 0) else value.Entry r (pos 0))
      by true = tt
      by false = less

  reaching_there : (s r : ℕ) (d : Def) → r < 32 → Reaches body (pos r) d s → IsThere (Definition d r)
  unfolding IsThere
  reaching_there s r def.Entry less reaches = less
  reaching_there s r (def.At t) less reaches = (less, reaches.0)

  own_named : (s r : ℕ) → IsThere (Definition (def.At s) r) → (s < body.sites) × (r < 32) × Defines body s (pos r)
  unfolding IsThere
  own_named s r there = (site_in s r there.1, there.0, there.1)

  use_there : (s r : ℕ) → r < 32 → IsThere (Use s r)
  unfolding IsThere
  use_there s r less = less

  use_less : (s r : ℕ) → IsThere (Use s r) → r < 32
  unfolding IsThere
  use_less s r less = less

  entry_less : (r : ℕ) → IsThere (Definition def.Entry r) → r < 32
  unfolding IsThere
  entry_less r less = less

  named_by : (s r q : ℕ) (o : Op) → op_in ops s r ≡ o → (op.Own ≡ o → ⊥) → (NamesRegisters o → q < 32) → q < 32
  named_by s r q o e other named = by (registers s r)
    where
      by : (op_in ops s r ≡ op.Own) ⊎ NamesRegisters (op_in ops s r) → q < 32
      by (inl f) = absurd (other (sym f ∙ e))
      by (inr h) = named (subst NamesRegisters e h)

  -- candidates of those name definitions of the body, and registers
  pub named : {n : Node} {v : Value} → IsCandidate body (op_in ops) n v → IsThere n → IsNamed body v
  named of_zero there = tt
  named (of_reaching {s = s} {r = r} {d = d} some reaches c) there = named c (reaching_there s r d (use_less s r there) reaches)
  named (of_entry {r = r}) there = entry_named r (entry_less r there)
  named (of_own {s = s} {r = r} e) there = own_named s r there
  named (of_const e) there = tt
  named (of_sym e) there = tt
  named (of_add_i {s = s} {r = r} {q = q} {k = k} {v = v} e c) there = plus_named v k (named c (use_there s q (named_by s r q (op.AddI q k) e (λ f. cc) (λ h. h q refl))))
  named (of_add {s = s} {r = r} {q = q} {p = p} {v = v} {w = w} e c d) there =
      sum_named s r v w (own_named s r there) (named c (use_there s q (named_by s r q (op.Add q p) e (λ f. cc) (λ h. h q (inl refl))))) (named d (use_there s p (named_by s r p (op.Add q p) e (λ f. cc) (λ h. h p (inr refl)))))
  named (of_several c d other) there = tt

  value_named : (n : Node) (v : Value) → IsThere n → IsValue (IsCandidate body (op_in ops) n) v → IsNamed body v
  value_named n v there is = by is.else_multi
    where
      by : IsSole (IsCandidate body (op_in ops) n) v ⊎ (v ≡ value.Multi) → IsNamed body v
      by (inl sole) = named sole.candidate there
      by (inr e) = subst (IsNamed body) (sym e) tt

  pub use_named : (s r : ℕ) (v : Value) → r < 32 → IsValue (IsCandidate body (op_in ops) (Use s r)) v → IsNamed body v
  unfolding IsThere
  use_named s r v less is = value_named (Use s r) v less is

  pub definition_named : (s r : ℕ) (v : Value) → r < 32 → Defines body s (pos r) → IsValue (IsCandidate body (op_in ops) (Definition (def.At s) r)) v → IsNamed body v
  unfolding IsThere
  definition_named s r v less defines is = value_named (Definition (def.At s) r) v (less, defines) is
