-- Lists of numbers that rise, and the places of what they contain.
use Rattle.std.specs.Prelude.{slice_get}
use Rattle.std.proofs.Common.{◌≡◌, ℕ, ◌+◌, ◌-◌, ◌<◌, ◌≤◌, ◌⊎◌, inl, inr, Some, List, [], ◌∷◌, ◌++◌, length, take, get_or, slice_index, Contains, refl, sym, ap, subst, ◌∙◌, arith}
use Rattle.std.proofs.lemmas.Bool.{cases_lt}
use Rattle.std.proofs.lemmas.Option.{slice_get_within, slice_get-get_or, get_or_from_slice_get}
use Rattle.std.proofs.lemmas.List.{take_all, take_more, get_or_default, get_or_append_left, get_or_push, length_push}
use Rattle.std.proofs.lemmas.List.Elements.{Contains-get_or, Contains-append_left, Contains-append_right, Contains-append_cases, Contains-push, Contains-push_cases}
use Rattle.rt_components.specs.Inside.Walks.{Rises, IsLast}
use Rattle.rt_base.proofs.Numbers.{before_or}
use Rattle.rt_base.proofs.Lists.{Contains-none}

-- the place of what a list contains
pub place_in : (xs : List ℕ) (x : ℕ) → Contains xs x → (i : ℕ) × (i < length xs) × (slice_index xs i ≡ x)
place_in xs x (i, less, e) = (i, less, get_or_default xs i 0 x less ∙ e)

pub contains_at : (xs : List ℕ) (i : ℕ) → i < length xs → Contains xs (slice_index xs i)
contains_at xs i less = Contains-get_or xs i 0 less

-- what a list with one more in front contains
pub cons_here : (x : ℕ) (xs : List ℕ) → Contains (x ∷ xs) x
cons_here x xs = Contains-append_left (x ∷ []) xs x (Contains-push [] x)

pub cons_there : (x : ℕ) (xs : List ℕ) (y : ℕ) → Contains xs y → Contains (x ∷ xs) y
cons_there x xs y c = Contains-append_right (x ∷ []) xs y c

pub cons_cases : (x : ℕ) (xs : List ℕ) (y : ℕ) → Contains (x ∷ xs) y → (x ≡ y) ⊎ Contains xs y
cons_cases x xs y c = by (Contains-append_cases (x ∷ []) xs y c)
  where
    one : Contains [] y ⊎ (x ≡ y) → (x ≡ y) ⊎ Contains xs y
    one (inl d) = absurd (Contains-none y d)
    one (inr e) = inl e

    by : Contains (x ∷ []) y ⊎ Contains xs y → (x ≡ y) ⊎ Contains xs y
    by (inl d) = one (Contains-push_cases [] x y d)
    by (inr d) = inr d

pub push_old : (xs : List ℕ) (y i : ℕ) → i < length xs → slice_index (xs ++ y ∷ []) i ≡ slice_index xs i
push_old xs y i less = get_or_append_left xs (y ∷ []) 0 i less

pub push_last : (xs : List ℕ) (y : ℕ) → slice_index (xs ++ y ∷ []) (length xs) ≡ y
push_last xs y = get_or_push xs y 0 (length xs) refl

pub Rises-push : (xs : List ℕ) (y : ℕ) → Rises xs → ((x : ℕ) → Contains xs x → x < y) → Rises (xs ++ y ∷ [])
Rises-push xs y rises below i j less within = by (before_or (length xs) j (subst (λ n. j < n) (length_push xs y) within))
  where
    by : (j < length xs) ⊎ (j ≡ length xs) → slice_index (xs ++ y ∷ []) i < slice_index (xs ++ y ∷ []) j
    by (inl h) =
        let old : slice_index xs i < slice_index xs j = rises i j less h in
        let e : slice_index (xs ++ y ∷ []) i ≡ slice_index xs i = push_old xs y i (omega arith) in
        let f : slice_index (xs ++ y ∷ []) j ≡ slice_index xs j = push_old xs y j h in
        omega arith
    by (inr h) =
        let within_old : i < length xs = omega arith in
        let old : slice_index xs i < y = below (slice_index xs i) (contains_at xs i within_old) in
        let e : slice_index (xs ++ y ∷ []) i ≡ slice_index xs i = push_old xs y i within_old in
        let f : slice_index (xs ++ y ∷ []) j ≡ y = ap (slice_index (xs ++ y ∷ [])) h ∙ push_last xs y in
        omega arith

-- what ends a list, and the list without it
pub split_last : (xs ys : List ℕ) (x n : ℕ) → IsLast xs x → n ≡ length xs → ys ≡ take (n - 1) xs → xs ≡ ys ++ x ∷ []
split_last xs ys x n last same e =
    let less : length xs - 1 < length xs = slice_get_within xs (length xs - 1) x last in
    let more : take ((length xs - 1) + 1) xs ≡ take (length xs - 1) xs ++ get_or xs (length xs - 1) x ∷ [] = take_more xs (length xs - 1) x less in
    let whole : take ((length xs - 1) + 1) xs ≡ xs = take_all ((length xs - 1) + 1) xs (omega arith) in
    let is : get_or xs (length xs - 1) x ≡ x = get_or_from_slice_get xs (length xs - 1) x x last in
    let front : ys ≡ take (length xs - 1) xs = e ∙ ap (λ k. take (k - 1) xs) same in
    sym whole ∙ more ∙ ap (λ zs. zs ++ get_or xs (length xs - 1) x ∷ []) (sym front) ∙ ap (λ z. ys ++ z ∷ []) is

-- the front of a list that rises
pub Rises-front : (xs : List ℕ) (y : ℕ) → Rises (xs ++ y ∷ []) → Rises xs
Rises-front xs y rises i j less within =
    let whole : length (xs ++ y ∷ []) ≡ length xs + 1 = length_push xs y in
    let old : slice_index (xs ++ y ∷ []) i < slice_index (xs ++ y ∷ []) j = rises i j less (omega arith) in
    let e : slice_index (xs ++ y ∷ []) i ≡ slice_index xs i = push_old xs y i (omega arith) in
    let f : slice_index (xs ++ y ∷ []) j ≡ slice_index xs j = push_old xs y j within in
    omega arith

-- the last of a list that rises is above the others
pub front_below : (xs : List ℕ) (y x : ℕ) → Rises (xs ++ y ∷ []) → Contains xs x → x < y
front_below xs y x rises c =
    let place = place_in xs x c in
    let whole : length (xs ++ y ∷ []) ≡ length xs + 1 = length_push xs y in
    let less : place.0 < length xs = place.1 in
    let is : slice_index xs place.0 ≡ x = place.2 in
    let old : slice_index (xs ++ y ∷ []) place.0 < slice_index (xs ++ y ∷ []) (length xs) = rises place.0 (length xs) less (omega arith) in
    let e : slice_index (xs ++ y ∷ []) place.0 ≡ slice_index xs place.0 = push_old xs y place.0 less in
    let f : slice_index (xs ++ y ∷ []) (length xs) ≡ y = push_last xs y in
    omega arith

pub rises_front : (xs ys : List ℕ) (y : ℕ) → xs ≡ ys ++ y ∷ [] → Rises xs → Rises ys
rises_front xs ys y e rises = Rises-front ys y (subst Rises e rises)

pub in_front : (xs ys : List ℕ) (y x : ℕ) → xs ≡ ys ++ y ∷ [] → Contains ys x → Contains xs x
in_front xs ys y x e c = subst (λ zs. Contains zs x) (sym e) (Contains-append_left ys (y ∷ []) x c)

pub front_or_last : (xs ys : List ℕ) (y x : ℕ) → xs ≡ ys ++ y ∷ [] → Contains xs x → Contains ys x ⊎ (y ≡ x)
front_or_last xs ys y x e c = Contains-push_cases ys y x (subst (λ zs. Contains zs x) e c)

-- the greatest of numbers that rise is the last
pub greatest_last : (xs : List ℕ) (x : ℕ) → Rises xs → Contains xs x → ((y : ℕ) → Contains xs y → y ≤ x) → IsLast xs x
greatest_last xs x rises c greatest =
    let place = place_in xs x c in
    let k = place.0 in
    let less : k < length xs = place.1 in
    let is : slice_index xs k ≡ x = place.2 in
    by k less is (cases_lt k (length xs - 1))
  where
    by : (k : ℕ) → k < length xs → slice_index xs k ≡ x → (k < length xs - 1) ⊎ (length xs - 1 ≤ k) → IsLast xs x
    by k less is (inl h) =
        let rise : slice_index xs k < slice_index xs (length xs - 1) = rises k (length xs - 1) h (omega arith) in
        let low : slice_index xs (length xs - 1) ≤ x = greatest (slice_index xs (length xs - 1)) (contains_at xs (length xs - 1) (omega arith)) in
        absurd (omega arith)
    by k less is (inr h) =
        let last : k ≡ length xs - 1 = omega arith in
        subst (λ j. slice_get xs j ≡ Some x) last (slice_get-get_or xs k 0 less ∙ ap Some is)

pub last_in : (xs : List ℕ) (x : ℕ) → IsLast xs x → Contains xs x
last_in xs x last = (length xs - 1, slice_get_within xs (length xs - 1) x last, get_or_from_slice_get xs (length xs - 1) x x last)

-- the last of numbers that rise is the greatest
pub last_greatest : (xs : List ℕ) (x y : ℕ) → Rises xs → IsLast xs x → Contains xs y → y ≤ x
last_greatest xs x y rises last c =
    let within = slice_get_within xs (length xs - 1) x last in
    let is : slice_index xs (length xs - 1) ≡ x = get_or_from_slice_get xs (length xs - 1) x 0 last in
    let place = place_in xs y c in
    let less : place.0 < length xs = place.1 in
    let at : slice_index xs place.0 ≡ y = place.2 in
    by place.0 at is (before_or (length xs - 1) place.0 (omega arith))
  where
    by : (k : ℕ) → slice_index xs k ≡ y → slice_index xs (length xs - 1) ≡ x → (k < length xs - 1) ⊎ (k ≡ length xs - 1) → y ≤ x
    by k at is (inl h) = let rise : slice_index xs k < slice_index xs (length xs - 1) = rises k (length xs - 1) h (omega arith) in omega arith
    by k at is (inr h) = let same : slice_index xs k ≡ slice_index xs (length xs - 1) = ap (slice_index xs) h in omega arith
