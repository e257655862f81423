-- Counts: how often numbers stand in lists, and what a write changes.
use Rattle.std.proofs.Common.{◌≡◌, ◌≢◌, ℕ, ◌+◌, ◌<◌, ◌≤◌, ◌==◌, ◌&&◌, ◌⊎◌, inl, inr, not, Bool, true, false, cond, List, [], ◌∷◌, ◌++◌, Contains, count_by, length, get_or, set, take, refl, sym, ap, ◌∙◌, arith}
use Rattle.std.specs.List.{list_all}
use Rattle.std.proofs.lemmas.List.Sums.{sum_by-cons, sum_by_push, sum_by_more, sum_by-set, get_or-le-sum_by}
use Rattle.std.proofs.lemmas.Bool.{cases_eq}
use Rattle.rt_base.proofs.Numbers.{apart, nat_itself}
use Rattle.rt_plan.specs.Inside.Boards.{times}

-- what one counts for
abbrev pub one : Bool → ℕ
one b = cond b 1 0

pub itself : (n : ℕ) → (n == n) ≡ true
itself n = nat_itself n

-- all pass exactly where none that fails is counted
pub all-count : {X : Type 0} (p : X → Bool) (xs : List X) → list_all p xs ≡ (count_by (λ x. not (p x)) xs == 0)
all-count p [] = refl
all-count p (x ∷ xs) = by (p x) refl (all-count p xs)
  where
    count : (b : Bool) → p x ≡ b → count_by (λ y. not (p y)) (x ∷ xs) ≡ one (not b) + count_by (λ y. not (p y)) xs
    count b e = sum_by-cons (λ y. one (not (p y))) x xs ∙ ap (λ t. one (not t) + count_by (λ y. not (p y)) xs) e

    by : (b : Bool) → p x ≡ b → list_all p xs ≡ (count_by (λ y. not (p y)) xs == 0) → (p x && list_all p xs) ≡ (count_by (λ y. not (p y)) (x ∷ xs) == 0)
    by true e rest =
        let same : 0 + count_by (λ y. not (p y)) xs ≡ count_by (λ y. not (p y)) xs = omega arith in
        ap (λ b. b && list_all p xs) e ∙ (rest ∙ ap (λ n. n == 0) (sym (count true e ∙ same)))
    by false e rest = ap (λ b. b && list_all p xs) e ∙ sym (apart (count_by (λ y. not (p y)) (x ∷ xs)) 0 (λ z. let c = count false e in omega arith))

pub times-push : (g : ℕ) (xs : List ℕ) (x : ℕ) → times g (xs ++ x ∷ []) ≡ times g xs + one (x == g)
times-push g xs x = sum_by_push (λ c. one (c == g)) xs x

pub times-more : (g : ℕ) (xs : List ℕ) (i : ℕ) (d : ℕ) → i < length xs → times g (take (i + 1) xs) ≡ times g (take i xs) + one (get_or xs i d == g)
times-more g xs i d h = sum_by_more (λ c. one (c == g)) xs i d h

-- what stands in a list is counted
pub times-contains : (g : ℕ) (xs : List ℕ) → Contains xs g → 1 ≤ times g xs
times-contains g xs has =
    let le : one (get_or xs has.0 g == g) ≤ times g xs = get_or-le-sum_by (λ c. one (c == g)) xs has.0 g has.1 in
    let here : one (get_or xs has.0 g == g) ≡ 1 = ap (λ x. one (x == g)) has.2 ∙ ap one (itself g) in
    omega arith

-- One number more passes: the count of those that fail loses it as often as it stands.
pub count-split : (p q : ℕ → Bool) (g : ℕ) → p g ≡ false → q g ≡ true → ((c : ℕ) → c ≢ g → q c ≡ p c) → (xs : List ℕ) → count_by (λ c. not (p c)) xs ≡ count_by (λ c. not (q c)) xs + times g xs
count-split p q g off on same [] = refl
count-split p q g off on same (x ∷ xs) =
    let a = sum_by-cons (λ c. one (not (p c))) x xs in
    let b = sum_by-cons (λ c. one (not (q c))) x xs in
    let c = sum_by-cons (λ c. one (c == g)) x xs in
    let rest = count-split p q g off on same xs in
    let first = first (cases_eq x g) in
    omega arith
  where
    first : (x ≡ g) ⊎ (x ≢ g) → one (not (p x)) ≡ one (not (q x)) + one (x == g)
    first (inl e) =
        let l : one (not (p x)) ≡ 1 = ap (λ y. one (not (p y))) e ∙ ap (λ b. one (not b)) off in
        let m : one (not (q x)) ≡ 0 = ap (λ y. one (not (q y))) e ∙ ap (λ b. one (not b)) on in
        let r : one (x == g) ≡ 1 = ap (λ y. one (y == g)) e ∙ ap one (itself g) in
        omega arith
    first (inr other) =
        let l : one (not (q x)) ≡ one (not (p x)) = ap (λ b. one (not b)) (same x other) in
        let r : one (x == g) ≡ 0 = ap one (apart x g other) in
        omega arith

-- where the tests agree the counts do
pub count-same : {X : Type 0} (p q : X → Bool) → ((x : X) → p x ≡ q x) → (xs : List X) → count_by p xs ≡ count_by q xs
count-same p q same xs = ap (λ f. count_by f xs) (λ i x. same x i)

pub all-same : {X : Type 0} (p q : X → Bool) → ((x : X) → p x ≡ q x) → (xs : List X) → list_all p xs ≡ list_all q xs
all-same p q same xs = ap (λ f. list_all f xs) (λ i x. same x i)

-- a count after a write
pub count-set : {X : Type 0} (p : X → Bool) (xs : List X) (i : ℕ) (y d : X) → i < length xs → count_by p (set xs i y) + one (p (get_or xs i d)) ≡ count_by p xs + one (p y)
count-set p xs i y d h = sum_by-set (λ x. one (p x)) xs i y d h

-- where none passes the count of those that fail is the length
pub count-all : {X : Type 0} (p : X → Bool) → ((x : X) → p x ≡ false) → (xs : List X) → count_by (λ x. not (p x)) xs ≡ length xs
count-all p fails [] = refl
count-all p fails (x ∷ xs) =
    let rest = count-all p fails xs in
    let a = sum_by-cons (λ y. one (not (p y))) x xs in
    let b : one (not (p x)) ≡ 1 = ap (λ t. one (not t)) (fails x) in
    omega arith
