-- Numbers with flags.
use Rattle.std.proofs.Common.{◌≡◌, ℕ, ◌+◌, ◌<◌, ◌≤◌, ◌⊎◌, inl, inr, Bool, true, false, List, [], ◌∷◌, ◌++◌, Contains, length, get_or, set, sym, ap, subst, ◌∙◌, arith, get_or-set_same, get_or-set_other}
use Rattle.std.proofs.Math.ListN.{length-set}
use Rattle.std.proofs.lemmas.Bool.{cases_eq}
use Rattle.std.proofs.lemmas.List.{get_or_default, get_or_past}
use Rattle.std.proofs.lemmas.List.Elements.{Contains-append_left, Contains-push, Contains-push_cases}
use Rattle.rt_base.proofs.Lists.{Contains-none}
use Rattle.rt_outline.specs.Inside.Found.{AreFlagged}

-- a number more with its flag
pub flagged_more : (flags wide : List Bool) (numbers more : List ℕ) (n : ℕ) → AreFlagged flags numbers → ((k : ℕ) → get_or wide k false ≡ get_or flags k false) → n < length wide → more ≡ numbers ++ n ∷ [] → AreFlagged (set wide n true) more
flagged_more flags wide numbers more n are same room e k = by (cases_eq k n)
  where
    at : k ≡ n → get_or (set wide n true) k false ≡ true
    at f = ap (λ u. get_or (set wide n true) u false) f ∙ get_or-set_same wide n true false room

    other : (k ≡ n → ⊥) → get_or (set wide n true) k false ≡ get_or flags k false
    other d = get_or-set_other wide n k true false d ∙ same k

    by : (k ≡ n) ⊎ (k ≡ n → ⊥) → (get_or (set wide n true) k false ≡ true → Contains more k) × (Contains more k → get_or (set wide n true) k false ≡ true)
    by (inl f) = (λ t. subst (Contains more) (sym f) (subst (λ xs. Contains xs n) (sym e) (Contains-push numbers n)), λ c. at f)
    by (inr d) = (
      λ t. subst (λ xs. Contains xs k) (sym e) (Contains-append_left numbers (n ∷ []) k ((are k).0 (sym (other d) ∙ t))),
      λ c. (elim (Contains-push_cases numbers n k (subst (λ xs. Contains xs k) e c)) [
        | inl h ↦ other d ∙ (are k).1 h
        | inr g ↦ absurd (d (sym g))
      ]),
    )

pub flagged_within : (flags : List Bool) (numbers : List ℕ) → AreFlagged flags numbers → (n : ℕ) → Contains numbers n → n < length flags
flagged_within flags numbers are n c = elim (below n) [
  | inl h ↦ h
  | inr past ↦ absurd (let e : get_or flags n false ≡ false = get_or_past flags n false past in let t : true ≡ false = sym ((are n).1 c) ∙ e in cc)
]
  where
    below : (n : ℕ) → (n < length flags) ⊎ (length flags ≤ n)
    below n = grind arith

-- flags taken away one by one
pub record AreClearing (numbers : List ℕ) (flags : List Bool) (i : ℕ) : Type 0 where
  pub within : (n : ℕ) → Contains numbers n → n < length flags
  pub less : (n : ℕ) → get_or flags n false ≡ true → Contains numbers n
  pub cleared : (k : ℕ) → k < i → get_or flags (get_or numbers k 0) false ≡ false

pub clearing_first : (numbers : List ℕ) (flags : List Bool) → AreFlagged flags numbers → AreClearing numbers flags 0
clearing_first numbers flags are = record { within = flagged_within flags numbers are; less = λ n e. (are n).0 e; cleared = λ k h. absurd (omega (arith, h)) }

pub clearing_next : (numbers : List ℕ) (flags : List Bool) (i : ℕ) → i < length numbers → AreClearing numbers flags i → AreClearing numbers (set flags (get_or numbers i 0) false) (i + 1)
clearing_next numbers flags i h are = record {
  within = λ n c. (let k : n < length flags = are.within n c in omega (arith, k, length-set flags (get_or numbers i 0) false));
  less = λ n e. less n e (cases_eq n (get_or numbers i 0));
  cleared = λ k small. cleared k small (cases_eq (get_or numbers k 0) (get_or numbers i 0));
}
  where
    here : Contains numbers (get_or numbers i 0)
    here = (i, h, get_or_default numbers i (get_or numbers i 0) 0 h)

    at : get_or (set flags (get_or numbers i 0) false) (get_or numbers i 0) false ≡ false
    at = get_or-set_same flags (get_or numbers i 0) false false (are.within (get_or numbers i 0) here)

    less : (n : ℕ) → get_or (set flags (get_or numbers i 0) false) n false ≡ true → (n ≡ get_or numbers i 0) ⊎ (n ≡ get_or numbers i 0 → ⊥) → Contains numbers n
    less n e (inl f) = subst (Contains numbers) (sym f) here
    less n e (inr d) = are.less n (sym (get_or-set_other flags (get_or numbers i 0) n false false d) ∙ e)

    cleared : (k : ℕ) → k < i + 1 → (get_or numbers k 0 ≡ get_or numbers i 0) ⊎ (get_or numbers k 0 ≡ get_or numbers i 0 → ⊥) → get_or (set flags (get_or numbers i 0) false) (get_or numbers k 0) false ≡ false
    cleared k small (inl f) = ap (λ u. get_or (set flags (get_or numbers i 0) false) u false) f ∙ at
    cleared k small (inr d) = get_or-set_other flags (get_or numbers i 0) (get_or numbers k 0) false false d ∙ before (cases_eq k i)
      where
        before : (k ≡ i) ⊎ (k ≡ i → ⊥) → get_or flags (get_or numbers k 0) false ≡ false
        before (inl e) = absurd (d (ap (λ j. get_or numbers j 0) e))
        before (inr n) = are.cleared k (omega (arith, small, n))

pub clearing_whole : (numbers : List ℕ) (flags : List Bool) (i : ℕ) (none : List ℕ) → length numbers ≤ i → none ≡ [] → AreClearing numbers flags i → AreFlagged flags none
clearing_whole numbers flags i none h e are n = (
  λ t. absurd (let c : Contains numbers n = are.less n t in
      let f : get_or flags n false ≡ false = ap (λ u. get_or flags u false) (sym (get_or_default numbers c.0 0 n c.1 ∙ c.2)) ∙ are.cleared c.0 (omega (arith, h, c.1)) in
      let g : true ≡ false = sym t ∙ f in cc),
  λ c. absurd (Contains-none n (subst (λ xs. Contains xs n) e c)),
)
