-- Saved registers.
use Rattle.std.proofs.Common.{◌≡◌, ◌<◌, ◌↔◌, ℕ, ℤ, pos, Bool, true, false, cond, ◌&&◌, Some, None, refl, sym, ap, subst, ◌∙◌, length}
use Rattle.std.specs.Prelude.{nat_eq}
use Rattle.std.specs.Ordering.{int_eq}
use Rattle.std.proofs.Common.{eq-eqb, get_or}
use Rattle.std.proofs.lemmas.Bool.Decides.{Decides-eqb, Decides-int_eq}
use Rattle.std.proofs.lemmas.List.{get_or_default}
use Rattle.std.proofs.lemmas.List.Folds.{Any-from_list_any, list_any_at}
use Rattle.rt_track.specs.declared.value.Value.{Value}
use Rattle.rt_track.specs.declared.value.Value.TheVariants as value
use Rattle.rt_body.specs.declared.action.Action.{Action}
use Rattle.rt_body.specs.declared.action.Action.TheVariants as action
use Rattle.rt_body.specs.declared.action.Width.TheVariants as width
use Rattle.rt_body.specs.Readings.{Reading, action_at}
use Rattle.rt_frame.specs.Frames.{IsKept, IsSaved, kept_registers}
use Rattle.rt_frame.specs.Questions.{address_value}
use Rattle.rt_frame.specs.Inside.Gathering.{Upto, keeps, saved_by, saved_offset}

kept : (register : ℕ) → keeps register ≡ true → IsKept register
kept register e =
    let found = Any-from_list_any (λ r. nat_eq r register) kept_registers e in
    let same : found.1 ≡ register = (Decides-eqb found.1 register).0 found.4 in
    (found.0, found.2, get_or_default kept_registers found.0 register found.1 found.2 ∙ (found.3 ∙ same))

keeps_kept : (register : ℕ) → IsKept register → keeps register ≡ true
keeps_kept register (k, less, at) = list_any_at (λ r. nat_eq r register) kept_registers k register less (eq-eqb (get_or kept_registers k register) register at)

-- a word of one value at an address of another saves a register
record Saves (v w : Value) (k : ℤ) : Type 0 where
  register : ℕ
  is_kept : IsKept register
  saves : v ≡ value.Entry register (pos 0)
  there : w ≡ value.Frame k

saves_entry : (register : ℕ) (offset a k : ℤ) (b c : Bool) → keeps register ≡ b → int_eq offset (pos 0) ≡ c → cond (b && c) (Some a) None ≡ Some k → Saves (value.Entry register offset) (value.Frame a) k
saves_entry register offset a k true true is_kept zero e =
    let at_entry : offset ≡ pos 0 = (Decides-int_eq offset (pos 0)).0 zero in
    record { register = register; is_kept = kept register is_kept; saves = ap (value.Entry register) at_entry; there = cc }
saves_entry register offset a k true false is_kept zero e = absurd (cc)
saves_entry register offset a k false c is_kept zero e = absurd (cc)

saves_by : (v w : Value) (k : ℤ) → saved_offset v w ≡ Some k → Saves v w k
saves_by (value.Entry register offset) (value.Frame a) k e = saves_entry register offset a k (keeps register) (int_eq offset (pos 0)) refl refl e
saves_by v w k e = absurd (cc)

by_saves : (v w : Value) (k : ℤ) → Saves v w k → saved_offset v w ≡ Some k
by_saves v w k s =
    let is_kept : keeps s.register ≡ true = keeps_kept s.register s.is_kept in
    let all : saved_offset (value.Entry s.register (pos 0)) (value.Frame k) ≡ Some k = ap (λ b. cond (b && true) (Some k) None) is_kept in
    subst (λ x. saved_offset x w ≡ Some k) (sym s.saves) (subst (λ x. saved_offset (value.Entry s.register (pos 0)) x ≡ Some k) (sym s.there) all)

module _ (reading : Reading) (k : ℤ) where
  saved_to : (site : ℕ) → site < length reading.actions → (act : Action) → action_at reading.actions site ≡ act → saved_by reading site act ≡ Some k → IsSaved reading k
  saved_to site within (action.Store width.Word stored a) is e =
      let s = saves_by (reading.value_at site stored) (address_value reading site a) k e in
      record { site = site; within = within; stored = stored; address = a; stores = is; register = s.register; is_kept = s.is_kept; saves = s.saves; there = s.there }
  saved_to site within act is e = absurd (cc)

  saved_from : (s : IsSaved reading k) → saved_by reading s.site (action_at reading.actions s.site) ≡ Some k
  saved_from s =
      subst (λ act. saved_by reading s.site act ≡ Some k) (sym s.stores)
      (by_saves (reading.value_at s.site s.stored) (address_value reading s.site s.address) k (record { register = s.register; is_kept = s.is_kept; saves = s.saves; there = s.there }))

  pub is_saved : Upto (λ site k. saved_by reading site (action_at reading.actions site) ≡ Some k) (length reading.actions) k ↔ IsSaved reading k
  is_saved = (λ (site, within, e). saved_to site within (action_at reading.actions site) refl e, λ s. (s.site, s.within, saved_from s))
