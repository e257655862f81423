-- Elements of lists, and places in them.
use Rattle.std.proofs.Common.{◌≡◌, ℕ, ◌<◌, ◌≤◌, Bool, true, false, cond, nat_lt, zero, suc, ◌⊎◌, inl, inr, Some, None, List, [], ◌∷◌, ◌++◌, map, flat_map, length, not, unwrap_or, position, get_or, ◌+◌, All, Contains, refl, sym, ap, subst, ◌∙◌, true≢false, arith, filter, Option, length-append, take}
use Rattle.std.proofs.lemmas.List.{get_or_default, get_or_append_left, get_or_push, take_more}
use Rattle.std.specs.List.{list_all, list_any, position_or_len, prefix_len, slice_get}
use Rattle.std.proofs.lemmas.List.Elements.{All-nil, All-cons, All-head, All-tail, Contains-get_or, Contains-append_left, Contains-append_right, Contains-append_cases}
use Rattle.std.proofs.lemmas.List.Sums.{prefix_len-le-length}
use Rattle.std.proofs.lemmas.Bool.{and_from, and_parts, or_cases, or_left, or_right, false≢true, cases_Bool}
use Rattle.std.proofs.lemmas.Bool.Decides.{nat_tests}
use Rattle.std.proofs.lemmas.Option.{slice_get-get_or, slice_get_within, get_or_from_slice_get}
use Rattle.std.specs.Prelude.{nat_eq}
use Rattle.rt_base.proofs.Numbers.{nat_same, nat_itself}

pub Contains-none : {X : Type 0} (x : X) → Contains [] x → ⊥
Contains-none x h = let lt = h.1 in omega arith

pub Contains-here : {X : Type 0} (x : X) (xs : List X) → Contains (x ∷ xs) x
Contains-here x xs = (0, omega arith, refl)

pub Contains-there : {X : Type 0} (y : X) (xs : List X) (x : X) → Contains xs x → Contains (y ∷ xs) x
Contains-there y xs x h = let lt = h.1 in (suc h.0, omega arith, h.2)

-- what is read at an index is there
pub Contains-read : {X : Type 0} (xs : List X) (i : ℕ) (d x : X) → i < length xs → get_or xs i d ≡ x → Contains xs x
Contains-read xs i d x h e = (i, h, get_or_default xs i x d h ∙ e)

pub Contains-cons_cases : {X : Type 0} (y : X) (xs : List X) (x : X) → Contains (y ∷ xs) x → (y ≡ x) ⊎ Contains xs x
Contains-cons_cases y xs x (zero, h, e) = inl e
Contains-cons_cases y xs x (suc k, h, e) = inr (k, omega arith, e)

pub Contains-map : {X Y : Type 0} (f : X → Y) (xs : List X) (x : X) → Contains xs x → Contains (map f xs) (f x)
Contains-map f [] x h = absurd (Contains-none x h)
Contains-map f (y ∷ xs) x (zero, h, e) = subst (λ z. Contains (f y ∷ map f xs) (f z)) e (Contains-here (f y) (map f xs))
Contains-map f (y ∷ xs) x (suc k, h, e) = Contains-there (f y) (map f xs) (f x) (Contains-map f xs x (k, omega arith, e))

-- each element of a mapped list is the image of one of the list
pub Contains-map_source : {X Y : Type 0} (f : X → Y) (xs : List X) (y : Y) → Contains (map f xs) y → (x : X) × Contains xs x × (f x ≡ y)
Contains-map_source f [] y h = absurd (Contains-none y h)
Contains-map_source f (x ∷ xs) y (zero, h, e) = (x, Contains-here x xs, e)
Contains-map_source f (x ∷ xs) y (suc k, h, e) = let s = Contains-map_source f xs y (k, omega arith, e) in (s.0, Contains-there x xs s.0 s.1, s.2)

pub All-from_contains : {X : Type 0} (P : X → Type 0) (xs : List X) → ((x : X) → Contains xs x → P x) → All P xs
All-from_contains P xs f k d lt = f _ (Contains-get_or xs k d lt)

-- what holds of both of two lists in a row holds of each
pub All-front : {X : Type 0} (P : X → Type 0) (xs ys : List X) → All P (xs ++ ys) → All P xs
All-front P [] ys h = All-nil P
All-front P (x ∷ xs) ys h = All-cons P x xs (All-head P x (xs ++ ys) h) (All-front P xs ys (All-tail P x (xs ++ ys) h))

pub All-back : {X : Type 0} (P : X → Type 0) (xs ys : List X) → All P (xs ++ ys) → All P ys
All-back P [] ys h = h
All-back P (x ∷ xs) ys h = All-back P xs ys (All-tail P x (xs ++ ys) h)

-- what an element gives is among what the list gives
pub Contains-flat_map : {X Y : Type 0} (f : X → List Y) (xs : List X) (x : X) (y : Y) → Contains xs x → Contains (f x) y → Contains (flat_map f xs) y
Contains-flat_map f [] x y c h = absurd (Contains-none x c)
Contains-flat_map f (z ∷ xs) x y c h = by (Contains-cons_cases z xs x c) (λ d. Contains-flat_map f xs x y d h)
  where
    by : (z ≡ x) ⊎ Contains xs x → (Contains xs x → Contains (flat_map f xs) y) → Contains (f z ++ flat_map f xs) y
    by (inl e) rest = Contains-append_left (f z) (flat_map f xs) y (subst (λ v. Contains (f v) y) (sym e) h)
    by (inr d) rest = Contains-append_right (f z) (flat_map f xs) y (rest d)

-- what is among what the list gives, some element gives
pub Contains-flat_map_source : {X Y : Type 0} (f : X → List Y) (xs : List X) (y : Y) → Contains (flat_map f xs) y → (x : X) × Contains xs x × Contains (f x) y
Contains-flat_map_source f [] y h = absurd (Contains-none y h)
Contains-flat_map_source f (x ∷ xs) y h = by (Contains-append_cases (f x) (flat_map f xs) y h) (Contains-flat_map_source f xs y)
  where
    by : Contains (f x) y ⊎ Contains (flat_map f xs) y → (Contains (flat_map f xs) y → (z : _) × Contains xs z × Contains (f z) y) → (z : _) × Contains (x ∷ xs) z × Contains (f z) y
    by (inl c) rest = (x, Contains-here x xs, c)
    by (inr c) rest = let s = rest c in (s.0, Contains-there x xs s.0 s.1, s.2)

-- the first place that passes, or the length
pub place-or-length : {X : Type 0} (p : X → Bool) (xs : List X) → unwrap_or (position p xs) (length xs) ≡ position_or_len p xs
place-or-length p xs = by (nat_lt (position_or_len p xs) (length xs)) refl
  where
    by : (b : Bool) → nat_lt (position_or_len p xs) (length xs) ≡ b → unwrap_or (cond b (Some (position_or_len p xs)) None) (length xs) ≡ position_or_len p xs
    by true e = refl
    by false e = let h : prefix_len (λ x. not (p x)) xs ≤ length xs = prefix_len-le-length (λ x. not (p x)) xs in grind (arith, nat_tests)

-- a first place is no greater than the length
pub place-within : {X : Type 0} (p : X → Bool) (xs : List X) → position_or_len p xs ≤ length xs
place-within p xs = prefix_len-le-length (λ x. not (p x)) xs

-- what passes of all passes of each
pub list_all-at : {X : Type 0} (p : X → Bool) (xs : List X) (x : X) → list_all p xs ≡ true → Contains xs x → p x ≡ true
list_all-at p [] x h c = absurd (Contains-none x c)
list_all-at p (y ∷ xs) x h c =
    let both = and_parts (p y) (list_all p xs) h in
    by both.0 (Contains-cons_cases y xs x c) (list_all-at p xs x both.1)
  where
    by : p y ≡ true → (y ≡ x) ⊎ Contains xs x → (Contains xs x → p x ≡ true) → p x ≡ true
    by t (inl e) rest = subst (λ z. p z ≡ true) e t
    by t (inr d) rest = rest d

pub list_all-from : {X : Type 0} (p : X → Bool) (xs : List X) → ((x : X) → Contains xs x → p x ≡ true) → list_all p xs ≡ true
list_all-from p [] h = refl
list_all-from p (y ∷ xs) h = and_from (p y) (list_all p xs) (h y (Contains-here y xs)) (list_all-from p xs (λ x c. h x (Contains-there y xs x c)))

-- where one passes, one of the list does
pub list_any-at : {X : Type 0} (p : X → Bool) (xs : List X) → list_any p xs ≡ true → (x : X) × Contains xs x × (p x ≡ true)
list_any-at p [] h = absurd (false≢true h)
list_any-at p (y ∷ xs) h = by (or_cases (p y) (list_any p xs) h) (list_any-at p xs)
  where
    by : (p y ≡ true) ⊎ (list_any p xs ≡ true) → (list_any p xs ≡ true → (z : _) × Contains xs z × (p z ≡ true)) → (z : _) × Contains (y ∷ xs) z × (p z ≡ true)
    by (inl e) rest = (y, Contains-here y xs, e)
    by (inr e) rest = let s = rest e in (s.0, Contains-there y xs s.0 s.1, s.2)

pub list_any-from : {X : Type 0} (p : X → Bool) (xs : List X) (x : X) → Contains xs x → p x ≡ true → list_any p xs ≡ true
list_any-from p [] x c h = absurd (Contains-none x c)
list_any-from p (y ∷ xs) x c h = by (Contains-cons_cases y xs x c) (λ d. list_any-from p xs x d h)
  where
    by : (y ≡ x) ⊎ Contains xs x → (Contains xs x → list_any p xs ≡ true) → list_any p (y ∷ xs) ≡ true
    by (inl e) rest = or_left (p y) (list_any p xs) (subst (λ z. p z ≡ true) (sym e) h)
    by (inr d) rest = or_right (p y) (list_any p xs) (rest d)

-- Places of elements by a test that finds only equal ones, and finds each equal to itself.
module _ {X : Type 0} (eq : X → X → Bool) (same : (x y : X) → eq x y ≡ true → x ≡ y) (self : (x : X) → eq x x ≡ true) where
  pub get_or-position_or_len : (xs : List X) (x d : X) → Contains xs x → get_or xs (position_or_len (eq x) xs) d ≡ x
  get_or-position_or_len [] x d c = absurd (Contains-none x c)
  get_or-position_or_len (y ∷ xs) x d c = by (eq x y) refl (get_or-position_or_len xs x d)
    where
      rest : (y ≡ x) ⊎ Contains xs x → eq x y ≡ false → Contains xs x
      rest (inl f) e = absurd (true≢false (sym (self x) ∙ (ap (eq x) (sym f) ∙ e)))
      rest (inr h) e = h

      by : (b : Bool) → eq x y ≡ b → (Contains xs x → get_or xs (position_or_len (eq x) xs) d ≡ x) → get_or (y ∷ xs) (cond (not b) (1 + position_or_len (eq x) xs) 0) d ≡ x
      by true e deeper = sym (same x y e)
      by false e deeper =
          let next : 1 + position_or_len (eq x) xs ≡ suc (position_or_len (eq x) xs) = omega arith in
          subst (λ i. get_or (y ∷ xs) i d ≡ x) (sym next) (deeper (rest (Contains-cons_cases y xs x c) e))

  -- two elements with one place are one
  pub position_or_len-one_to_one : (xs : List X) (x y : X) → Contains xs x → Contains xs y → position_or_len (eq x) xs ≡ position_or_len (eq y) xs → x ≡ y
  position_or_len-one_to_one xs x y c d e = sym (get_or-position_or_len xs x x c) ∙ ap (λ i. get_or xs i x) e ∙ get_or-position_or_len xs y x d

pub filter-has : {X : Type 0} (test : X → Bool) (xs : List X) (x : X) → Contains xs x → test x ≡ true → Contains (filter test xs) x
filter-has test [] x h e = absurd (Contains-none x h)
filter-has test (y ∷ ys) x h e = elim (Contains-cons_cases y ys x h) [
  | inl same ↦ let pass : test y ≡ true = ap test same ∙ e in rw pass (subst (Contains (y ∷ filter test ys)) same (Contains-here y (filter test ys)))
  | inr later ↦ elim (cases_Bool (test y)) [
    | inl pass ↦ rw pass (Contains-there y (filter test ys) x (filter-has test ys x later e))
    | inr fail ↦ rw fail (filter-has test ys x later e)
  ]
]

pub filter-source : {X : Type 0} (test : X → Bool) (xs : List X) (x : X) → Contains (filter test xs) x → Contains xs x × (test x ≡ true)
filter-source test [] x h = absurd (Contains-none x h)
filter-source test (y ∷ ys) x h = elim (cases_Bool (test y)) [
  | inl pass ↦ elim (Contains-cons_cases y (filter test ys) x (rw pass at h)) [
    | inl same ↦ (subst (Contains (y ∷ ys)) same (Contains-here y ys), ap test (sym same) ∙ pass)
    | inr later ↦ let rest = filter-source test ys x later in (Contains-there y ys x rest.0, rest.1)
  ]
  | inr fail ↦ let rest = filter-source test ys x (rw fail at h) in (Contains-there y ys x rest.0, rest.1)
]

pub map-push : {X Y : Type 0} (f : X → Y) (xs : List X) (x : X) → map f (xs ++ x ∷ []) ≡ map f xs ++ f x ∷ []
map-push f [] x = refl
map-push f (y ∷ xs) x = ap (λ ys. f y ∷ ys) (map-push f xs x)

pub All-at : {X : Type 0} (P : X → Type 0) (xs : List X) (k : ℕ) (x : X) → All P xs → slice_get xs k ≡ Some x → P x
All-at P [] k x h e = cc
All-at {X} P (y ∷ xs) zero x h e = subst P (the e) (All-head P y xs h)
  where
    the : ◌≡◌ {A = Option X} (Some y) (Some x) → y ≡ x
    the e = cc
All-at P (y ∷ xs) (suc k) x h e = All-at P xs k x (All-tail P y xs h) e

pub Contains-at : (row : List ℕ) (i : ℕ) → i < length row → Contains row (get_or row i 0)
Contains-at row i h = (i, h, get_or_default row i (get_or row i 0) 0 h)

pub found_from : (keys : List ℕ) (n : ℕ) → list_any (nat_eq n) keys ≡ true → Contains keys n
found_from keys n e = let there : (x : ℕ) × Contains keys x × (nat_eq n x ≡ true) = list_any-at (nat_eq n) keys e in subst (Contains keys) (sym (nat_same n there.0 there.2)) there.1

pub found_to : (keys : List ℕ) (n : ℕ) → Contains keys n → list_any (nat_eq n) keys ≡ true
found_to keys n c = list_any-from (nat_eq n) keys n c (nat_itself n)

pub past_end : (xs : List ℕ) (i : ℕ) → slice_get xs i ≡ None → length xs ≤ i
past_end xs i e = elim (below i (length xs)) [ inl h ↦ absurd (let f : Some (get_or xs i 0) ≡ None = sym (slice_get-get_or xs i 0 h) ∙ e in cc) | inr h ↦ h ]
  where
    below : (i n : ℕ) → (i < n) ⊎ (n ≤ i)
    below i n = grind arith

pub slice_get-front : {X : Type 0} (xs ys : List X) (j : ℕ) (p : X) → slice_get xs j ≡ Some p → slice_get (xs ++ ys) j ≡ Some p
slice_get-front xs ys j p e =
    let less = slice_get_within xs j p e in
    let long : j < length (xs ++ ys) = omega (arith, less, length-append xs ys) in
    slice_get-get_or (xs ++ ys) j p long ∙ ap Some (get_or_append_left xs ys p j less ∙ get_or_from_slice_get xs j p p e)

pub slice_get-last : {X : Type 0} (xs : List X) (p : X) → slice_get (xs ++ p ∷ []) (length xs) ≡ Some p
slice_get-last xs p =
    let long : length xs < length (xs ++ p ∷ []) = omega (arith, length-append xs (p ∷ [])) in
    slice_get-get_or (xs ++ p ∷ []) (length xs) p long ∙ ap Some (get_or_push xs p p (length xs) refl)

pub take-next : {X : Type 0} (xs : List X) (i : ℕ) (x : X) → i < length xs → x ≡ get_or xs i x → take (i + 1) xs ≡ take i xs ++ x ∷ []
take-next xs i x h e = take_more xs i x h ∙ ap (λ y. take i xs ++ y ∷ []) (sym e)

pub Contains-middle : {X : Type 0} (before : List X) (x : X) (after : List X) → Contains (before ++ x ∷ after) x
Contains-middle before x after = Contains-append_right before (x ∷ after) x (Contains-here x after)

pub Contains-wider : {X : Type 0} (before : List X) (x : X) (after : List X) (y : X) → Contains (before ++ after) y → Contains (before ++ x ∷ after) y
Contains-wider before x after y c = by (Contains-append_cases before after y c)
  where
    by : Contains before y ⊎ Contains after y → Contains (before ++ x ∷ after) y
    by (inl d) = Contains-append_left before (x ∷ after) y d
    by (inr d) = Contains-append_right before (x ∷ after) y (Contains-there x after y d)

pub Contains-middle_cases : {X : Type 0} (before : List X) (x : X) (after : List X) (y : X) → Contains (before ++ x ∷ after) y → (x ≡ y) ⊎ Contains (before ++ after) y
Contains-middle_cases before x after y c = by (Contains-append_cases before (x ∷ after) y c)
  where
    last : (x ≡ y) ⊎ Contains after y → (x ≡ y) ⊎ Contains (before ++ after) y
    last (inl e) = inl e
    last (inr d) = inr (Contains-append_right before after y d)

    by : Contains before y ⊎ Contains (x ∷ after) y → (x ≡ y) ⊎ Contains (before ++ after) y
    by (inl d) = inr (Contains-append_left before after y d)
    by (inr d) = last (Contains-cons_cases x after y d)

pub map-map : {A B C : Type 0} (f : A → B) (g : B → C) (xs : List A) → map g (map f xs) ≡ map (λ x. g (f x)) xs
map-map f g [] = refl
map-map f g (x ∷ xs) = ap (λ ys. g (f x) ∷ ys) (map-map f g xs)

pub Contains-push_cases : {X : Type 0} (xs : List X) (x y : X) → Contains (xs ++ x ∷ []) y → Contains xs y ⊎ (x ≡ y)
Contains-push_cases xs x y c = by (Contains-append_cases xs (x ∷ []) y c)
  where
    last : (x ≡ y) ⊎ Contains [] y → x ≡ y
    last (inl e) = e
    last (inr d) = absurd (Contains-none y d)

    by : Contains xs y ⊎ Contains (x ∷ []) y → Contains xs y ⊎ (x ≡ y)
    by (inl d) = inl d
    by (inr d) = inr (last (Contains-cons_cases x [] y d))
