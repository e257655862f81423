use Rattle.std.proofs.Common.{◌≡◌, ℕ, zero, suc, ◌+◌, ◌-◌, ◌<◌, ◌≤◌, Option, Some, None, List, [], ◌∷◌, ◌++◌, refl, subst, arith, append_assoc, append-nil, add-zero}
use Rattle.rt_base.specs.First.{first_each, then_of, entries}

-- no entry before index k of n has a fault: what is left to check decides, and what is left to read completes the list
pub record IsGoing {F X : Type 0} (fault : ℕ → Option F) (at : ℕ → X) (n k : ℕ) (list : List X) (first : Option F) (all : List X) : Type 0 where
  pub faults : first ≡ first_each fault k (n - k)
  pub values : list ++ entries at k (n - k) ≡ all

pub begins : {F X : Type 0} (fault : ℕ → Option F) (at : ℕ → X) (n : ℕ) → IsGoing fault at n 0 [] (first_each fault 0 n) (entries at 0 n)
begins fault at n = let e : n - 0 ≡ n = omega arith in record { faults = rw e refl; values = rw e refl }

pub stops : {F X : Type 0} (fault : ℕ → Option F) (at : ℕ → X) (n k : ℕ) (list : List X) (first : Option F) (all : List X) (f : F) → IsGoing fault at n k list first all → k < n → fault k ≡ Some f → first ≡ Some f
stops fault at n k list first all f going h p = let e : n - k ≡ suc (n - (k + 1)) = omega arith in rw (going.faults, e, p) refl

pub goes_on : {F X : Type 0} (fault : ℕ → Option F) (at : ℕ → X) (n k : ℕ) (list : List X) (first : Option F) (all : List X) → IsGoing fault at n k list first all → k < n → fault k ≡ None → IsGoing fault at n (k + 1) (list ++ at k ∷ []) first all
goes_on fault at n k list first all going h p =
    let e : n - k ≡ suc (n - (k + 1)) = omega arith in
    record {
      faults = rw (going.faults, e, p) refl;
      values = rw (← going.values, e, append_assoc) refl;
    }

pub ends : {F X : Type 0} (fault : ℕ → Option F) (at : ℕ → X) (n k : ℕ) (list : List X) (first : Option F) (all : List X) → IsGoing fault at n k list first all → n ≤ k → (first ≡ None) × (list ≡ all)
ends fault at n k list first all going h =
    let e : n - k ≡ 0 = omega arith in
    (rw (going.faults, e) refl, rw (← going.values, e, append-nil) refl)

pub then_of-none : {F : Type 0} (a b : Option F) → then_of a b ≡ None → (a ≡ None) × (b ≡ None)
then_of-none None b e = (refl, e)
then_of-none (Some f) b e = cc

-- where no entry has a fault, none of them has
pub first_each-none : {F : Type 0} (part : ℕ → Option F) (i n k : ℕ) → first_each part i n ≡ None → k < n → part (i + k) ≡ None
first_each-none part i zero k e h = absurd (omega arith)
first_each-none part i (suc n) zero e h = rw add-zero (then_of-none _ _ e).0
first_each-none part i (suc n) (suc k) e h =
    let less : k < n = omega arith in
    let deeper : part ((i + 1) + k) ≡ None = first_each-none part (i + 1) n k (then_of-none (part i) (first_each part (i + 1) n) e).1 less in
    let same : (i + 1) + k ≡ i + suc k = omega arith in
    subst (λ j. part j ≡ None) same deeper
