-- A class of a queue comes.
use Rattle.std.proofs.Common.{◌≡◌, ◌≢◌, ℕ, ◌+◌, ◌<◌, ◌≤◌, ◌⊎◌, inl, inr, Bool, true, false, if◌then◌else◌, List, [], ◌∷◌, ◌++◌, length, slice_index, get_or, set, Contains, refl, sym, ap, subst, ◌∙◌, arith}
use Rattle.std.proofs.lemmas.Bool.{cases_eq, true≢false}
use Rattle.std.proofs.lemmas.List.{get_or-set_same, get_or-set_other, length-set, length_push}
use Rattle.std.proofs.lemmas.List.Elements.{Contains-append_left, Contains-push, Contains-push_cases}
use Rattle.std.proofs.lemmas.List.Sums.{sum_by-set}
use Rattle.rt_components.specs.Groups.{group_at}
use Rattle.rt_components.specs.Inside.Orders.{least_of, IsBefore, IsFree, AreInOrder, HasCome, IsToCome, HaveCome, IsWaiting, IsQueueOf, left_to_come}
use Rattle.rt_components.proofs.Numbers.{place_in, contains_at, cons_here, cons_cases, push_old, push_last}
use Rattle.rt_components.proofs.Members.{set_cases}
use Rattle.rt_base.proofs.Numbers.{before_or}
use Rattle.rt_base.proofs.Lists.{Contains-none}

-- whether a class has come
pub cases_come : (come : List Bool) (k : ℕ) → HasCome come k ⊎ IsToCome come k
cases_come come k = by (get_or come k false) refl
  where
    by : (b : Bool) → get_or come k false ≡ b → HasCome come k ⊎ IsToCome come k
    by true e = inl e
    by false e = inr e

pub not_both : (come : List Bool) (k : ℕ) → HasCome come k → IsToCome come k → ⊥
not_both come k e f = true≢false (sym e ∙ f)

-- one class less is to come
pub left_falls : (come : List Bool) (k : ℕ) → k < length come → IsToCome come k → left_to_come (set come k true) < left_to_come come
left_falls come k less to_come =
    let changed : left_to_come (set come k true) + (if get_or come k false then 0 else 1) ≡ left_to_come come + 0 = sum_by-set (λ b. if b then 0 else 1) come k true false less in
    let now : left_to_come (set come k true) + 1 ≡ left_to_come come + 0 = subst (λ b. left_to_come (set come k true) + (if b then 0 else 1) ≡ left_to_come come + 0) to_come changed in
    omega arith

module _ (others members : List (List ℕ)) (come : List Bool) (order passed : List ℕ) (waiting : List (List ℕ)) (ready : List ℕ) (k : ℕ) (was : IsQueueOf others members come order passed waiting ready (k ∷ []))
    (free : HaveCome others come k) (first : (a : ℕ) → Contains ready a → least_of members k < a) where
  todo : (k < length others) × IsToCome come k
  todo = was.todo_only k (cons_here k [])

  pub within_come : k < length come
  within_come = let low : k < length others = todo.0 in let each = was.come_each in omega arith

  pub is_to_come : IsToCome come k
  is_to_come = todo.1

  in_come : (j : ℕ) → HasCome come j → HasCome (set come k true) j
  in_come j e = by (cases_eq j k)
    where
      by : (j ≡ k) ⊎ (j ≡ k → ⊥) → HasCome (set come k true) j
      by (inl f) = ap (λ i. get_or (set come k true) i false) f ∙ get_or-set_same come k true false within_come
      by (inr ne) = get_or-set_other come k j true false ne ∙ e

  in_come_now : HasCome (set come k true) k
  in_come_now = get_or-set_same come k true false within_come

  came : (j : ℕ) → HasCome (set come k true) j → (j ≡ k) ⊎ HasCome come j
  came j e = by (cases_eq j k)
    where
      by : (j ≡ k) ⊎ (j ≡ k → ⊥) → (j ≡ k) ⊎ HasCome come j
      by (inl f) = inl f
      by (inr ne) = inr (sym (get_or-set_other come k j true false ne) ∙ e)

  still : (j : ℕ) → (j ≡ k → ⊥) → IsToCome come j → IsToCome (set come k true) j
  still j ne e = get_or-set_other come k j true false ne ∙ e

  was_to_come : (j : ℕ) → IsToCome (set come k true) j → (j ≡ k → ⊥) × IsToCome come j
  was_to_come j e = (other, sym (get_or-set_other come k j true false other) ∙ e)
    where
      other : j ≡ k → ⊥
      other f = not_both (set come k true) k in_come_now (subst (IsToCome (set come k true)) f e)

  -- places before the last are the same in the longer order
  longer : (i h : ℕ) → i ≤ length order → IsBefore order i h → IsBefore (order ++ k ∷ []) i h
  longer i h le (j, less, e) = (j, less, push_old order k j (omega arith) ∙ e)

  shorter : (i h : ℕ) → i ≤ length order → IsBefore (order ++ k ∷ []) i h → IsBefore order i h
  shorter i h le (j, less, e) = (j, less, sym (push_old order k j (omega arith)) ∙ e)

  in_order_at : (h : ℕ) → HasCome come h → IsBefore order (length order) h
  in_order_at h e = place_in order h (was.come_on h e)

  come_before : (i h : ℕ) → i ≤ length order → IsBefore order i h → HasCome come h
  come_before i h le (j, less, e) = was.come_back h (subst (Contains order) e (contains_at order j (omega arith)))

  last_place : (i : ℕ) → i < length (order ++ k ∷ []) → (i < length order) ⊎ (i ≡ length order)
  last_place i less = before_or (length order) i (subst (λ n. i < n) (length_push order k) less)

  at_last : (i : ℕ) → i ≡ length order → slice_index (order ++ k ∷ []) i ≡ k
  at_last i e = ap (slice_index (order ++ k ∷ [])) e ∙ push_last order k

  in_order : AreInOrder others members (order ++ k ∷ [])
  in_order = record {
    within = λ i less. within i (last_place i less);
    once = λ i j less below. once i j less (last_place j below);
    free = λ i less. free_at i (last_place i less);
    least = λ i j less low not_before is_free. least i j (last_place i less) low not_before is_free;
  }
    where
      within : (i : ℕ) → (i < length order) ⊎ (i ≡ length order) → slice_index (order ++ k ∷ []) i < length others
      within i (inl less) = subst (λ x. x < length others) (sym (push_old order k i less)) (was.in_order.within i less)
      within i (inr e) = subst (λ x. x < length others) (sym (at_last i e)) todo.0

      once : (i j : ℕ) → i < j → (j < length order) ⊎ (j ≡ length order) → slice_index (order ++ k ∷ []) i ≢ slice_index (order ++ k ∷ []) j
      once i j less (inl low) = λ e. was.in_order.once i j less low (sym (push_old order k i (omega arith)) ∙ e ∙ push_old order k j low)
      once i j less (inr f) = λ e.
          let within : i < length order = omega arith in
          let same : slice_index order i ≡ k = sym (push_old order k i within) ∙ e ∙ at_last j f in
          not_both come k (was.come_back k (subst (Contains order) same (contains_at order i within))) todo.1

      free_at : (i : ℕ) → (i < length order) ⊎ (i ≡ length order) → IsFree others (order ++ k ∷ []) i (slice_index (order ++ k ∷ []) i)
      free_at i (inl less) = λ h c. longer i h (omega arith) (was.in_order.free i less h (subst (λ x. Contains (group_at others x) h) (push_old order k i less) c))
      free_at i (inr e) = λ h c. subst (λ n. IsBefore (order ++ k ∷ []) n h) (sym e) (longer (length order) h (omega arith) (in_order_at h (free h (subst (λ x. Contains (group_at others x) h) (at_last i e) c))))

      next_least : (j : ℕ) → j < length others → (IsBefore order (length order) j → ⊥) → IsFree others order (length order) j → least_of members k ≤ least_of members j
      next_least j low not_before is_free = by (cases_come come j)
        where
          at : Contains ready (least_of members j) ⊎ (IsWaiting others come waiting j ⊎ Contains (k ∷ []) j) → least_of members k ≤ least_of members j
          at (inl c) = let less = first (least_of members j) c in omega arith
          at (inr (inl (h, c, d, e))) = absurd (not_both come h (come_before (length order) h (omega arith) (is_free h d)) e)
          at (inr (inr c)) = one (cons_cases k [] j c)
            where
              one : (k ≡ j) ⊎ Contains [] j → least_of members k ≤ least_of members j
              one (inl e) = let same : least_of members k ≡ least_of members j = ap (least_of members) e in omega arith
              one (inr d) = absurd (Contains-none j d)

          by : HasCome come j ⊎ IsToCome come j → least_of members k ≤ least_of members j
          by (inl e) = absurd (not_before (in_order_at j e))
          by (inr e) = at (was.somewhere j low e)

      least : (i j : ℕ) → (i < length order) ⊎ (i ≡ length order) → j < length others → (IsBefore (order ++ k ∷ []) i j → ⊥) → IsFree others (order ++ k ∷ []) i j → least_of members (slice_index (order ++ k ∷ []) i) ≤ least_of members j
      least i j (inl less) low not_before is_free =
          subst (λ x. least_of members x ≤ least_of members j) (sym (push_old order k i less))
          (was.in_order.least i j less low (λ b. not_before (longer i j (omega arith) b)) (λ h c. shorter i h (omega arith) (is_free h c)))
      least i j (inr e) low not_before is_free =
          subst (λ x. least_of members x ≤ least_of members j) (sym (at_last i e))
          (next_least j low (λ b. not_before (subst (λ n. IsBefore (order ++ k ∷ []) n j) (sym e) (longer (length order) j (omega arith) b)))
          (λ h c. shorter (length order) h (omega arith) (subst (λ n. IsBefore (order ++ k ∷ []) n h) e (is_free h c))))

  -- what waits for the class, and nothing else, is to be looked at
  pub taken : (none : List ℕ) → none ≡ [] → IsQueueOf others members (set come k true) (order ++ k ∷ []) passed (set waiting k none) ready (group_at waiting k)
  taken none empty = record {
    in_order = in_order;
    come_each = length-set come k true ∙ was.come_each;
    passed_each = was.passed_each;
    waiting_each = length-set waiting k none ∙ was.waiting_each;
    come_on = λ j e. come_on j (came j e);
    come_back = λ j c. come_back j (Contains-push_cases order k j c);
    passed_come = λ j e less low. in_come (slice_index (group_at others j) e) (was.passed_come j e less low);
    somewhere = λ j low e. let to = was_to_come j e in somewhere j to.0 (was.somewhere j low to.1);
    ready_only = λ a c. ready_only a c (was.ready_only a c);
    waiting_only = λ h j c. waiting_only h j c (at h);
    todo_only = λ j c. let w = was.waiting_only k j c in (w.0, to_come j w.1 (cases_come (set come k true) j));
  }
    where
      at : (h : ℕ) → ((h ≡ k) × (group_at (set waiting k none) h ≡ none)) ⊎ ((h ≡ k → ⊥) × (group_at (set waiting k none) h ≡ group_at waiting h))
      at h = set_cases waiting k none (let low : k < length others = todo.0 in let each = was.waiting_each in omega arith) h

      come_on : (j : ℕ) → (j ≡ k) ⊎ HasCome come j → Contains (order ++ k ∷ []) j
      come_on j (inl e) = subst (Contains (order ++ k ∷ [])) (sym e) (Contains-push order k)
      come_on j (inr e) = Contains-append_left order (k ∷ []) j (was.come_on j e)

      come_back : (j : ℕ) → Contains order j ⊎ (k ≡ j) → HasCome (set come k true) j
      come_back j (inl c) = in_come j (was.come_back j c)
      come_back j (inr e) = subst (HasCome (set come k true)) e in_come_now

      somewhere : (j : ℕ) → (j ≡ k → ⊥) → Contains ready (least_of members j) ⊎ (IsWaiting others come waiting j ⊎ Contains (k ∷ []) j) → Contains ready (least_of members j) ⊎ (IsWaiting others (set come k true) (set waiting k none) j ⊎ Contains (group_at waiting k) j)
      somewhere j ne (inl c) = inl c
      somewhere j ne (inr (inr c)) = absurd (one (cons_cases k [] j c))
        where
          one : (k ≡ j) ⊎ Contains [] j → ⊥
          one (inl e) = ne (sym e)
          one (inr d) = Contains-none j d
      somewhere j ne (inr (inl (h, c, d, e))) = by (at h)
        where
          by : ((h ≡ k) × (group_at (set waiting k none) h ≡ none)) ⊎ ((h ≡ k → ⊥) × (group_at (set waiting k none) h ≡ group_at waiting h)) →
              Contains ready (least_of members j) ⊎ (IsWaiting others (set come k true) (set waiting k none) j ⊎ Contains (group_at waiting k) j)
          by (inl (same, f)) = inr (inr (subst (λ i. Contains (group_at waiting i) j) same c))
          by (inr (other, f)) = inr (inl (h, subst (λ xs. Contains xs j) (sym f) c, d, still h other e))

      ready_only : (a : ℕ) → Contains ready a → (j : ℕ) × (j < length others) × (least_of members j ≡ a) × IsToCome come j × HaveCome others come j → (j : ℕ) × (j < length others) × (least_of members j ≡ a) × IsToCome (set come k true) j × HaveCome others (set come k true) j
      ready_only a c (j, low, is, to, all) = (j, low, is, still j other to, λ h d. in_come h (all h d))
        where
          other : j ≡ k → ⊥
          other e = let less = first a c in let same : least_of members k ≡ a = ap (least_of members) (sym e) ∙ is in omega arith

      waiting_only : (h j : ℕ) → Contains (group_at (set waiting k none) h) j → ((h ≡ k) × (group_at (set waiting k none) h ≡ none)) ⊎ ((h ≡ k → ⊥) × (group_at (set waiting k none) h ≡ group_at waiting h)) → (j < length others) × Contains (group_at others j) h
      waiting_only h j c (inl (same, f)) = absurd (Contains-none j (subst (λ xs. Contains xs j) (f ∙ empty) c))
      waiting_only h j c (inr (other, f)) = was.waiting_only h j (subst (λ xs. Contains xs j) f c)

      to_come : (j : ℕ) → Contains (group_at others j) k → HasCome (set come k true) j ⊎ IsToCome (set come k true) j → IsToCome (set come k true) j
      to_come j leads (inr e) = e
      to_come j leads (inl e) = absurd (by (came j e))
        where
          by : (j ≡ k) ⊎ HasCome come j → ⊥
          by (inl f) = not_both come k (free k (subst (λ i. Contains (group_at others i) k) f leads)) todo.1
          by (inr g) =
              let place = place_in order j (was.come_on j g) in
              let before = was.in_order.free place.0 place.1 k (subst (λ i. Contains (group_at others i) k) (sym place.2) leads) in
              not_both come k (come_before place.0 k (let less : place.0 < length order = place.1 in omega arith) before) todo.1
