-- The bases of variables of one number, noted one by one.
use Rattle.std.proofs.Common.{◌≡◌, ℕ, ◌+◌, ◌<◌, ◌≤◌, ◌⊎◌, inl, inr, List, length, get_or, set, sym, ap, subst, ◌∙◌, arith}
use Rattle.std.proofs.Common.{get_or-set_same, get_or-set_other}
use Rattle.std.proofs.lemmas.Bool.{cases_eq}
use Rattle.std.proofs.lemmas.List.{get_or_past}
use Rattle.rt_lines.specs.declared.variable.Base.{Base}
use Rattle.rt_lines.specs.declared.variable.Dtv.{Dtv}
use Rattle.rt_reduce.specs.declared.bases.Bases.{Bases}
use Rattle.rt_reduce.specs.declared.bases.Bases.TheVariants.{Several}
use Rattle.rt_reduce.specs.Inside.Alike.{no_side}
use Rattle.rt_reduce.specs.Inside.Bases.{IsNoted, Notes}

pub noted_set : (number : ℕ) (base : Base) (old : List Bases) (value : Bases) → number < length old → Notes value base →
    ((b : Base) → Notes (get_or old number Several) b → Notes value b) → IsNoted number base old (set old number value)
noted_set number base old value h noted kept = record {
  noted = subst (λ s. Notes s base) (sym (get_or-set_same old number value Several h)) noted;
  kept = λ k b c. at k b c (cases_eq k number);
}
  where
    at : (k : ℕ) (b : Base) → Notes (get_or old k Several) b → (k ≡ number) ⊎ (k ≡ number → ⊥) →
        Notes (get_or (set old number value) k Several) b
    at k b c (inl e) =
        subst (λ s. Notes s b) (sym (ap (λ j. get_or (set old number value) j Several) e ∙ get_or-set_same old number value Several h))
        (kept b (subst (λ j. Notes (get_or old j Several) b) e c))
    at k b c (inr n) = subst (λ s. Notes s b) (sym (get_or-set_other old number k value Several n)) c

-- a number past the end may have any base
pub noted_past : (number : ℕ) (base : Base) (old : List Bases) → length old ≤ number → IsNoted number base old old
noted_past number base old h = record {
  noted = subst (λ s. Notes s base) (sym (get_or_past old number Several h)) tt;
  kept = λ k b c. c;
}

-- the first sides are noted
abbrev pub AreFirstNoted : ℕ → List Dtv → List ℕ → List Bases → Type 0
AreFirstNoted i sides numbers bases = (j : ℕ) → j < i → Notes (get_or bases (get_or numbers j 0) Several) (get_or sides j no_side).base

pub noted_next : (i : ℕ) (sides : List Dtv) (numbers : List ℕ) (number : ℕ) (base : Base) (old new : List Bases) →
    number ≡ get_or numbers i 0 → base ≡ (get_or sides i no_side).base → AreFirstNoted i sides numbers old → IsNoted number base old new →
    AreFirstNoted (i + 1) sides numbers new
noted_next i sides numbers number base old new e f are noted j h = at (cases_eq j i)
  where
    at : (j ≡ i) ⊎ (j ≡ i → ⊥) → Notes (get_or new (get_or numbers j 0) Several) (get_or sides j no_side).base
    at (inl g) =
        subst (λ k. Notes (get_or new (get_or numbers k 0) Several) (get_or sides k no_side).base) (sym g)
        (subst (λ b. Notes (get_or new (get_or numbers i 0) Several) b) f (subst (λ m. Notes (get_or new m Several) base) e noted.noted))
    at (inr n) = noted.kept (get_or numbers j 0) (get_or sides j no_side).base (are j (omega (arith, h, n)))
