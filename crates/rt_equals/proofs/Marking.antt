-- Numbers that are marked at those of existentials.
use Rattle.std.proofs.Common.{◌≡◌, ℕ, ◌+◌, ◌<◌, ◌⊎◌, inl, inr, List, Option, Some, None, length, get_or, set, sym, ap, subst, ◌∙◌, get_or-set_same, get_or-set_other}
use Rattle.std.specs.Prelude.{IsSome}
use Rattle.std.proofs.lemmas.Bool.{cases_eq}
use Rattle.rt_lines.specs.declared.variable.Dtv.{Dtv}
use Rattle.rt_equals.specs.Comparing.{Agree, AreAsMarked, AreMarked, IsExistential}
use Rattle.rt_base.proofs.Numbers.{before_or}
use Rattle.rt_base.proofs.Options.{is_some_of, some_of}

pub marked_set : (named : List Dtv) (outer : List ℕ) (i x : ℕ) (old new : List (Option ℕ)) → new ≡ set old (get_or outer i 0) (Some x) →
    get_or outer i 0 < length old → AreMarked named outer i old → AreMarked named outer (i + 1) new
marked_set named outer i x old new e room are k h existential = by (cases_eq (get_or outer k 0) (get_or outer i 0)) (before_or i k h)
  where
    read : (n : ℕ) → get_or new n None ≡ get_or (set old (get_or outer i 0) (Some x)) n None
    read n = ap (λ xs. get_or xs n None) e

    here : (n : ℕ) → n ≡ get_or outer i 0 → get_or new n None ≡ Some x
    here n f = read n ∙ ap (λ m. get_or (set old (get_or outer i 0) (Some x)) m None) f ∙ get_or-set_same old (get_or outer i 0) (Some x) None room

    by : (get_or outer k 0 ≡ get_or outer i 0) ⊎ (get_or outer k 0 ≡ get_or outer i 0 → ⊥) → (k < i) ⊎ (k ≡ i) →
        IsSome (get_or new (get_or outer k 0) None)
    by (inl f) r = is_some_of (get_or new (get_or outer k 0) None) x (here (get_or outer k 0) f)
    by (inr n) (inr f) = absurd (n (ap (λ j. get_or outer j 0) f))
    by (inr n) (inl l) =
        subst IsSome (sym (read (get_or outer k 0) ∙ get_or-set_other old (get_or outer i 0) (get_or outer k 0) (Some x) None n))
        (are k l existential)

pub marked_same : (named : List Dtv) (outer : List ℕ) (i : ℕ) (marks : List (Option ℕ)) → (IsExistential named i → ⊥) →
    AreMarked named outer i marks → AreMarked named outer (i + 1) marks
marked_same named outer i marks none are k h existential = by (before_or i k h)
  where
    by : (k < i) ⊎ (k ≡ i) → IsSome (get_or marks (get_or outer k 0) None)
    by (inr e) = absurd (none (subst (IsExistential named) e existential))
    by (inl l) = are k l existential

-- one more that is as marked
pub as_next : (outer inner : List ℕ) (j : ℕ) (marks : List (Option ℕ)) →
    ((m : ℕ) → get_or marks (get_or outer j 0) None ≡ Some m → get_or inner j 0 ≡ m) → AreAsMarked outer inner j marks →
    AreAsMarked outer inner (j + 1) marks
as_next outer inner j marks own are k m h e = by (before_or j k h)
  where
    by : (k < j) ⊎ (k ≡ j) → get_or inner k 0 ≡ m
    by (inr f) = ap (λ i. get_or inner i 0) f ∙ own m (sym (ap (λ i. get_or marks (get_or outer i 0) None) f) ∙ e)
    by (inl l) = are k m l e

-- where all are as marked the numbers agree
pub agreed : (named : List Dtv) (outer inner : List ℕ) (marks : List (Option ℕ)) → length outer ≡ length named →
    AreMarked named outer (length named) marks → AreAsMarked outer inner (length outer) marks → Agree named outer inner
agreed named outer inner marks size marked same i j h k existential e =
    let r : (m : ℕ) × (get_or marks (get_or outer i 0) None ≡ Some m) = some_of (get_or marks (get_or outer i 0) None) (marked i h existential) in
    same i r.0 (subst (λ n. i < n) (sym size) h) r.1
    ∙ sym (same j r.0 (subst (λ n. j < n) (sym size) k) (ap (λ n. get_or marks n None) (sym e) ∙ r.1))
