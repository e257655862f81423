-- Sets of offsets that grow.
use Rattle.std.proofs.Common.{◌≡◌, ◌+◌, ◌<◌, ◌≤◌, ◌↔◌, ◌⊎◌, inl, inr, ℕ, ℤ, Option, Some, None, List, [], ◌∷◌, ◌++◌, length, take, get_or, sym, ap, subst, ◌∙◌, arith}
use Rattle.std.specs.Prelude.{Contains}
use Rattle.std.proofs.lemmas.Bool.{cases_lt}
use Rattle.std.proofs.lemmas.List.{take_more, take_all, get_or_default}
use Rattle.std.proofs.lemmas.List.Elements.{Contains-push, Contains-push_cases, Contains-append_left}
use Rattle.rt_track.specs.declared.value.Value.{Value}
use Rattle.rt_track.specs.declared.value.Value.TheVariants as value
use Rattle.rt_frame.specs.Inside.Gathering.{Among, Gains, Upto}

pub gains_as : {old new : List ℤ} {P : ℤ → Type 0} (Q : ℤ → Type 0) → Gains old new P → ((k : ℤ) → P k ↔ Q k) → Gains old new Q
gains_as {old} {new} {P} Q gains same = record { each = λ k. (λ c. to k ((gains.each k).0 c), λ c. (gains.each k).1 (from k c)) }
  where
    to : (k : ℤ) → Contains old k ⊎ P k → Contains old k ⊎ Q k
    to k (inl c) = inl c
    to k (inr p) = inr ((same k).0 p)

    from : (k : ℤ) → Contains old k ⊎ Q k → Contains old k ⊎ P k
    from k (inl c) = inl c
    from k (inr q) = inr ((same k).1 q)

pub gains_nothing : (old : List ℤ) (P : ℤ → Type 0) → ((k : ℤ) → P k → ⊥) → Gains old old P
gains_nothing old P none = record { each = λ k. (λ c. inl c, back k) }
  where
    back : (k : ℤ) → Contains old k ⊎ P k → Contains old k
    back k (inl c) = c
    back k (inr p) = absurd (none k p)

pub gains_both : {old mid new : List ℤ} {P Q : ℤ → Type 0} → Gains old mid P → Gains mid new Q → Gains old new (λ k. P k ⊎ Q k)
gains_both {old} {mid} {new} {P} {Q} first second = record { each = λ k. (λ c. to k ((second.each k).0 c), λ c. (second.each k).1 (from k c)) }
  where
    from_mid : (k : ℤ) → Contains old k ⊎ P k → Contains old k ⊎ (P k ⊎ Q k)
    from_mid k (inl c) = inl c
    from_mid k (inr p) = inr (inl p)

    to : (k : ℤ) → Contains mid k ⊎ Q k → Contains old k ⊎ (P k ⊎ Q k)
    to k (inl c) = from_mid k ((first.each k).0 c)
    to k (inr q) = inr (inr q)

    from : (k : ℤ) → Contains old k ⊎ (P k ⊎ Q k) → Contains mid k ⊎ Q k
    from k (inl c) = inl ((first.each k).1 (inl c))
    from k (inr (inl p)) = inl ((first.each k).1 (inr p))
    from k (inr (inr q)) = inr q

module _ {X : Type 0} (P : X → ℤ → Type 0) where
  pub among_none : (old : List ℤ) → Gains old old (Among [] P)
  among_none old = gains_nothing old (Among [] P) (λ k (x, c, p). absurd (omega arith))

  module _ (xs : List X) (i : ℕ) (x : X) (less : i < length xs) (at : (d : X) → get_or xs i d ≡ x) where
    more : take (i + 1) xs ≡ take i xs ++ x ∷ []
    more = take_more xs i x less ∙ ap (λ y. take i xs ++ y ∷ []) (at x)

    to : (k : ℤ) → Among (take i xs) P k ⊎ P x k → Among (take (i + 1) xs) P k
    to k (inl (y, c, p)) = (y, subst (λ ys. Contains ys y) (sym more) (Contains-append_left (take i xs) (x ∷ []) y c), p)
    to k (inr p) = (x, subst (λ ys. Contains ys x) (sym more) (Contains-push (take i xs) x), p)

    split : (k : ℤ) (y : X) → P y k → Contains (take i xs) y ⊎ (x ≡ y) → Among (take i xs) P k ⊎ P x k
    split k y p (inl c) = inl (y, c, p)
    split k y p (inr e) = inr (subst (λ z. P z k) (sym e) p)

    from : (k : ℤ) → Among (take (i + 1) xs) P k → Among (take i xs) P k ⊎ P x k
    from k (y, c, p) = split k y p (Contains-push_cases (take i xs) x y (subst (λ ys. Contains ys y) more c))

    pub among_more : {old mid new : List ℤ} → Gains old mid (Among (take i xs) P) → Gains mid new (P x) → Gains old new (Among (take (i + 1) xs) P)
    among_more before here = gains_as (Among (take (i + 1) xs) P) (gains_both before here) (λ k. (to k, from k))

  pub among_step : {old mid new : List ℤ} {Q : ℤ → Type 0} (xs : List X) (i : ℕ) (d : X) → i < length xs
      → Gains old mid (Among (take i xs) P) → Gains mid new Q → ((k : ℤ) → Q k ↔ P (get_or xs i d) k) → Gains old new (Among (take (i + 1) xs) P)
  among_step xs i d less before here same =
      let x = get_or xs i d in
      among_more xs i x less (λ e. get_or_default xs i e d less) before (gains_as (P x) here same)

  pub among_done : {old new : List ℤ} (xs : List X) (i : ℕ) → length xs ≤ i → Gains old new (Among (take i xs) P) → Gains old new (Among xs P)
  among_done {old} {new} xs i past gains = subst (λ ys. Gains old new (Among ys P)) (take_all i xs past) gains

-- two equal values are the frame at the same offset
pub same_offset : (v w : Value) → v ≡ w → (k : ℤ) → (v ≡ value.Frame k) ↔ (w ≡ value.Frame k)
same_offset v w e k = (λ f. sym e ∙ f, λ f. e ∙ f)

-- the frame at an offset is the frame at that offset alone
pub frame_offset : (v : Value) (a : ℤ) → v ≡ value.Frame a → (k : ℤ) → (k ≡ a) ↔ (v ≡ value.Frame k)
frame_offset v a e k = (λ f. e ∙ ap value.Frame (sym f), λ f. cc)

module _ (P : ℕ → ℤ → Type 0) where
  pub upto_none : (old : List ℤ) → Gains old old (Upto P 0)
  upto_none old = gains_nothing old (Upto P 0) (λ k (site, less, p). absurd (omega arith))

  upto_more : (i : ℕ) (k : ℤ) → Upto P i k ⊎ P i k → Upto P (i + 1) k
  upto_more i k (inl (site, less, p)) = (site, omega arith, p)
  upto_more i k (inr p) = (i, omega arith, p)

  upto_split : (i site : ℕ) (k : ℤ) → site < i + 1 → P site k → (site < i) ⊎ (i ≤ site) → Upto P i k ⊎ P i k
  upto_split i site k less p (inl under) = inl (site, under, p)
  upto_split i site k less p (inr over) = let e : site ≡ i = omega arith in inr (subst (λ s. P s k) e p)

  upto_less : (i : ℕ) (k : ℤ) → Upto P (i + 1) k → Upto P i k ⊎ P i k
  upto_less i k (site, less, p) = upto_split i site k less p (cases_lt site i)

  pub upto_step : {old mid new : List ℤ} {Q : ℤ → Type 0} (i : ℕ) → Gains old mid (Upto P i) → Gains mid new Q → ((k : ℤ) → Q k ↔ P i k) → Gains old new (Upto P (i + 1))
  upto_step i before here same = gains_as (Upto P (i + 1)) (gains_both before (gains_as (P i) here same)) (λ k. (upto_more i k, upto_less i k))

  pub upto_all : {gained : List ℤ} (n : ℕ) (Q : ℤ → Type 0) → Gains [] gained (Upto P n) → ((k : ℤ) → Upto P n k ↔ Q k) → (k : ℤ) → Contains gained k ↔ Q k
  upto_all {gained} n Q gains same k = (λ c. to ((gains.each k).0 c), λ q. (gains.each k).1 (inr ((same k).1 q)))
    where
      to : Contains [] k ⊎ Upto P n k → Q k
      to (inl (i, less, e)) = absurd (omega arith)
      to (inr p) = (same k).0 p

-- the one offset that there may be
pub gains_one : {old new : List ℤ} (o : Option ℤ) (a : ℤ) → o ≡ Some a → Gains old new (λ k. k ≡ a) → Gains old new (λ k. o ≡ Some k)
gains_one o a e gains = gains_as (λ k. o ≡ Some k) gains (λ k. (λ f. e ∙ ap Some (sym f), λ f. cc))

pub gains_none : (old : List ℤ) (o : Option ℤ) → o ≡ None → Gains old old (λ k. o ≡ Some k)
gains_none old o e = gains_nothing old (λ k. o ≡ Some k) (λ k f. cc)
