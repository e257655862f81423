-- What a number stands for, found in a list.
use Rattle.std.proofs.Common.{◌≡◌, ℕ, ◌⊎◌, inl, inr, Bool, true, false, cond, nat_eq, Option, Some, None, List, [], ◌∷◌, Contains, refl}
use Rattle.std.proofs.Common.{ap, subst, ◌∙◌, eq-eqb}
use Rattle.std.proofs.lemmas.Bool.{eqb-true}
use Rattle.rt_base.proofs.Lists.{Contains-none, Contains-here, Contains-there, Contains-cons_cases}

module _ {X : Type 0} (number : X → ℕ) where
  -- the first element of the number
  abbrev pub find : List X → ℕ → Option X
  find [] n = None
  find (x ∷ xs) n = cond (nat_eq (number x) n) (Some x) (find xs n)

  -- what is found is in the list, and of the number
  pub find-found : (xs : List X) (n : ℕ) (x : X) → find xs n ≡ Some x → Contains xs x × (number x ≡ n)
  find-found [] n x e = cc
  find-found (y ∷ xs) n x e = by (nat_eq (number y) n) refl e (find-found xs n x)
    where
      by : (t : Bool) → nat_eq (number y) n ≡ t → cond t (Some y) (find xs n) ≡ Some x
          → (find xs n ≡ Some x → Contains xs x × (number x ≡ n)) → Contains (y ∷ xs) x × (number x ≡ n)
      by true f g rest = let same : y ≡ x =
          cc in (subst (Contains (y ∷ xs)) same (Contains-here y xs), subst (λ z. number z ≡ n) same (eqb-true (number y) n f))
      by false f g rest = let r = rest g in (Contains-there y xs x r.0, r.1)

  -- something is found for what is in the list
  find-some : (xs : List X) (x : X) → Contains xs x → (y : X) × (find xs (number x) ≡ Some y)
  find-some [] x c = absurd (Contains-none x c)
  find-some (y ∷ xs) x c = by (nat_eq (number y) (number x)) refl (Contains-cons_cases y xs x c) (find-some xs x)
    where
      by : (t : Bool) → nat_eq (number y) (number x) ≡ t → (y ≡ x) ⊎ Contains xs x
          → (Contains xs x → (d : X) × (find xs (number x) ≡ Some d)) → (d : X) × (cond t (Some y) (find xs (number x)) ≡ Some d)
      by true f h rest = (y, refl)
      by false f (inl e) rest = let t : nat_eq (number y) (number x) ≡ true = eq-eqb (number y) (number x) (ap number e) in cc
      by false f (inr d) rest = rest d

  -- itself, where no two have one number
  pub find-itself : (xs : List X) (x : X) → ((y : X) → Contains xs y → number y ≡ number x → y ≡ x) → Contains xs x
      → find xs (number x) ≡ Some x
  find-itself xs x one c =
      let s = find-some xs x c in
      let f = find-found xs (number x) s.0 s.1 in
      s.1 ∙ ap Some (one s.0 f.0 f.1)

  none_of : (found : Option X) → ((x : X) → found ≡ Some x → ⊥) → found ≡ None
  none_of None h = refl
  none_of (Some x) h = absurd (h x refl)

  -- nothing, where none has the number
  pub find-nothing : (xs : List X) (n : ℕ) → ((x : X) → Contains xs x → number x ≡ n → ⊥) → find xs n ≡ None
  find-nothing xs n h = none_of (find xs n) (λ x e. let f = find-found xs n x e in h x f.0 f.1)
