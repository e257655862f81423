-- Numbers and how they compare.
use Rattle.std.proofs.Common.{◌≡◌, ℕ, ◌<◌, ◌⊎◌, inl, inr, true, refl, arith, ◌+◌, ◌≤◌, sym, suc, Bool, false, ◌==◌}
use Rattle.std.specs.declared.cmp.Ordering.{Ordering}
use Rattle.std.specs.declared.cmp.Ordering.TheVariants.{Less, Equal, Greater}
use Rattle.std.specs.Ordering.{nat_cmp, ordering_then, is_lt, is_eq}
use Rattle.std.proofs.lemmas.Bool.Decides.{nat_tests}
use Rattle.std.proofs.lemmas.Bool.{cases_eq, eqb-true}
use Rattle.std.proofs.lemmas.Map.Lookups.{exact_unsigned}
use Rattle.std.specs.Prelude.{nat_eq}

pub nat_cmp-less : (a b : ℕ) → nat_cmp a b ≡ Less → a < b
nat_cmp-less a b e = grind (arith, nat_tests)

pub nat_cmp-equal : (a b : ℕ) → nat_cmp a b ≡ Equal → a ≡ b
nat_cmp-equal a b e = grind (arith, nat_tests)

pub then-equal : (a b : Ordering) → ordering_then a b ≡ Equal → (a ≡ Equal) × (b ≡ Equal)
then-equal Less b e = cc
then-equal Equal b e = (refl, e)
then-equal Greater b e = cc

pub less_lt : (o : Ordering) → is_lt o ≡ true → o ≡ Less
less_lt Less e = refl
less_lt Equal e = cc
less_lt Greater e = cc

pub last_or_before : (x y : ℕ) → y < x + 1 → (y < x) ⊎ (x ≡ y)
last_or_before x y less = cases y x (omega arith)
  where
    cases : (i j : ℕ) → i ≤ j → (i < j) ⊎ (j ≡ i)
    cases i j le = search (arith)

pub after_one : (n : ℕ) → suc n ≡ n + 1
after_one n = omega arith

pub nat_same : (n m : ℕ) → nat_eq n m ≡ true → n ≡ m
nat_same n m e = grind arith

pub nat_itself : (n : ℕ) → nat_eq n n ≡ true
nat_itself n = grind arith

pub equal_number : (v q : ℕ) → is_eq (nat_cmp v q) ≡ true → v ≡ q
equal_number v q e = by (nat_cmp v q) refl e
  where
    by : (o : Ordering) → nat_cmp v q ≡ o → is_eq o ≡ true → v ≡ q
    by Less f g = cc
    by Equal f g = exact_unsigned v q f
    by Greater f g = cc

pub before_or : (n k : ℕ) → k < n + 1 → (k < n) ⊎ (k ≡ n)
before_or n k less = by (cases_eq k n)
  where
    by : (k ≡ n) ⊎ (k ≡ n → ⊥) → (k < n) ⊎ (k ≡ n)
    by (inl e) = inr e
    by (inr other) = inl (omega arith)

pub apart : (a b : ℕ) → (a ≡ b → ⊥) → (a == b) ≡ false
apart a b never = by (a == b) refl
  where
    by : (t : Bool) → t ≡ (a == b) → t ≡ false
    by true e = absurd (never (eqb-true a b (sym e)))
    by false e = refl
