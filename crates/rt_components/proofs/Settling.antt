-- A class of a queue looked at: it waits, or may come next.
use Rattle.std.proofs.Common.{◌≡◌, ℕ, ◌<◌, ◌≤◌, ◌⊎◌, inl, inr, Bool, List, [], ◌∷◌, ◌++◌, length, slice_index, set, Contains, refl, sym, ap, subst, ◌∙◌, arith}
use Rattle.std.proofs.lemmas.Bool.{cases_eq, cases_lt}
use Rattle.std.proofs.lemmas.List.{get_or-set_same, get_or-set_other, length-set}
use Rattle.std.proofs.lemmas.List.Elements.{Contains-append_left, Contains-push, Contains-push_cases}
use Rattle.rt_components.specs.Groups.{group_at}
use Rattle.rt_components.specs.Inside.Orders.{least_of, HasCome, IsToCome, HaveCome, IsWaiting, IsQueueOf}
use Rattle.rt_components.proofs.Numbers.{place_in, contains_at, cons_here, cons_there, cons_cases}
use Rattle.rt_components.proofs.Members.{set_cases}

module _ (others members : List (List ℕ)) (come : List Bool) (order passed : List ℕ) (waiting : List (List ℕ)) (ready rest : List ℕ) (k : ℕ) (was : IsQueueOf others members come order passed waiting ready (k ∷ rest))
    (next : ℕ) (on : (e : ℕ) → slice_index passed k ≤ e → e < next → e < length (group_at others k) → HasCome come (slice_index (group_at others k) e)) where
  todo : (k < length others) × IsToCome come k
  todo = was.todo_only k (cons_here k rest)

  -- what is known to have come
  passed_come : (j e : ℕ) → e < slice_index (set passed k next) j → e < length (group_at others j) → HasCome come (slice_index (group_at others j) e)
  passed_come j e less within = by (cases_eq j k)
    where
      here : slice_index (set passed k next) k ≡ next
      here = let less : k < length passed = (let each = was.passed_each in let low : k < length others = todo.0 in omega arith) in get_or-set_same passed k next 0 less

      at : e < next → e < length (group_at others k) → (e < slice_index passed k) ⊎ (slice_index passed k ≤ e) → HasCome come (slice_index (group_at others k) e)
      at h in' (inl low) = was.passed_come k e low in'
      at h in' (inr le) = on e le h in'

      by : (j ≡ k) ⊎ (j ≡ k → ⊥) → HasCome come (slice_index (group_at others j) e)
      by (inl f) =
          subst (λ i. HasCome come (slice_index (group_at others i) e)) (sym f)
          (at (subst (λ n. e < n) (ap (slice_index (set passed k next)) f ∙ here) less) (subst (λ i. e < length (group_at others i)) f within) (cases_lt e (slice_index passed k)))
      by (inr ne) = was.passed_come j e (subst (λ n. e < n) (get_or-set_other passed k j next 0 ne) less) within

  -- it waits for one that has not come
  pub waits : next < length (group_at others k) → (h : ℕ) → slice_index (group_at others k) next ≡ h → IsToCome come h → (ys : List ℕ) → h < length waiting → ys ≡ group_at waiting h ++ k ∷ [] → IsQueueOf others members come order (set passed k next) (set waiting h ys) ready rest
  waits less h is to_come ys within pushed = record {
    in_order = was.in_order;
    come_each = was.come_each;
    passed_each = length-set passed k next ∙ was.passed_each;
    waiting_each = length-set waiting h ys ∙ was.waiting_each;
    come_on = was.come_on;
    come_back = was.come_back;
    passed_come = passed_come;
    somewhere = λ j low left. somewhere j (was.somewhere j low left);
    ready_only = was.ready_only;
    waiting_only = λ g j c. only g j c (at g);
    todo_only = λ j c. was.todo_only j (cons_there k rest j c);
  }
    where
      at : (g : ℕ) → ((g ≡ h) × (group_at (set waiting h ys) g ≡ ys)) ⊎ ((g ≡ h → ⊥) × (group_at (set waiting h ys) g ≡ group_at waiting g))
      at g = set_cases waiting h ys within g

      leads : Contains (group_at others k) h
      leads = subst (Contains (group_at others k)) is (contains_at (group_at others k) next less)

      kept : (g j : ℕ) → Contains (group_at waiting g) j → Contains (group_at (set waiting h ys) g) j
      kept g j c = by (at g)
        where
          by : ((g ≡ h) × (group_at (set waiting h ys) g ≡ ys)) ⊎ ((g ≡ h → ⊥) × (group_at (set waiting h ys) g ≡ group_at waiting g)) → Contains (group_at (set waiting h ys) g) j
          by (inl (e, f)) = subst (λ xs. Contains xs j) (sym (f ∙ pushed)) (Contains-append_left (group_at waiting h) (k ∷ []) j (subst (λ i. Contains (group_at waiting i) j) e c))
          by (inr (ne, f)) = subst (λ xs. Contains xs j) (sym f) c

      here : Contains (group_at (set waiting h ys) h) k
      here = by (at h)
        where
          by : ((h ≡ h) × (group_at (set waiting h ys) h ≡ ys)) ⊎ ((h ≡ h → ⊥) × (group_at (set waiting h ys) h ≡ group_at waiting h)) → Contains (group_at (set waiting h ys) h) k
          by (inl (e, f)) = subst (λ xs. Contains xs k) (sym (f ∙ pushed)) (Contains-push (group_at waiting h) k)
          by (inr (ne, f)) = absurd (ne refl)

      somewhere : (j : ℕ) → Contains ready (least_of members j) ⊎ (IsWaiting others come waiting j ⊎ Contains (k ∷ rest) j) → Contains ready (least_of members j) ⊎ (IsWaiting others come (set waiting h ys) j ⊎ Contains rest j)
      somewhere j (inl c) = inl c
      somewhere j (inr (inl (g, c, d, e))) = inr (inl (g, kept g j c, d, e))
      somewhere j (inr (inr c)) = by (cons_cases k rest j c)
        where
          by : (k ≡ j) ⊎ Contains rest j → Contains ready (least_of members j) ⊎ (IsWaiting others come (set waiting h ys) j ⊎ Contains rest j)
          by (inl e) = subst (λ i. Contains ready (least_of members i) ⊎ (IsWaiting others come (set waiting h ys) i ⊎ Contains rest i)) e (inr (inl (h, here, leads, to_come)))
          by (inr d) = inr (inr d)

      only : (g j : ℕ) → Contains (group_at (set waiting h ys) g) j → ((g ≡ h) × (group_at (set waiting h ys) g ≡ ys)) ⊎ ((g ≡ h → ⊥) × (group_at (set waiting h ys) g ≡ group_at waiting g)) → (j < length others) × Contains (group_at others j) g
      only g j c (inr (ne, f)) = was.waiting_only g j (subst (λ xs. Contains xs j) f c)
      only g j c (inl (e, f)) = by (Contains-push_cases (group_at waiting h) k j (subst (λ xs. Contains xs j) (f ∙ pushed) c))
        where
          by : Contains (group_at waiting h) j ⊎ (k ≡ j) → (j < length others) × Contains (group_at others j) g
          by (inl d) = was.waiting_only g j (subst (λ i. Contains (group_at waiting i) j) (sym e) d)
          by (inr i) = subst (λ x. (x < length others) × Contains (group_at others x) g) i (todo.0, subst (Contains (group_at others k)) (sym e) leads)

  -- it may come next
  pub readies : length (group_at others k) ≤ next → (keys : List ℕ) → ((a : ℕ) → Contains keys a → Contains ready a ⊎ (least_of members k ≡ a)) → ((a : ℕ) → Contains ready a → Contains keys a) → Contains keys (least_of members k) →
      IsQueueOf others members come order (set passed k next) waiting keys rest
  readies all keys cases kept here = record {
    in_order = was.in_order;
    come_each = was.come_each;
    passed_each = length-set passed k next ∙ was.passed_each;
    waiting_each = was.waiting_each;
    come_on = was.come_on;
    come_back = was.come_back;
    passed_come = passed_come;
    somewhere = λ j low left. somewhere j (was.somewhere j low left);
    ready_only = λ a c. only a (cases a c);
    waiting_only = was.waiting_only;
    todo_only = λ j c. was.todo_only j (cons_there k rest j c);
  }
    where
      somewhere : (j : ℕ) → Contains ready (least_of members j) ⊎ (IsWaiting others come waiting j ⊎ Contains (k ∷ rest) j) → Contains keys (least_of members j) ⊎ (IsWaiting others come waiting j ⊎ Contains rest j)
      somewhere j (inl c) = inl (kept (least_of members j) c)
      somewhere j (inr (inl w)) = inr (inl w)
      somewhere j (inr (inr c)) = by (cons_cases k rest j c)
        where
          by : (k ≡ j) ⊎ Contains rest j → Contains keys (least_of members j) ⊎ (IsWaiting others come waiting j ⊎ Contains rest j)
          by (inl e) = inl (subst (λ i. Contains keys (least_of members i)) e here)
          by (inr d) = inr (inr d)

      come_all : HaveCome others come k
      come_all h c =
          let place = place_in (group_at others k) h c in
          let e = place.0 in
          let less : e < length (group_at others k) = place.1 in
          subst (HasCome come) place.2 (passed_come k e (let here : slice_index (set passed k next) k ≡ next = get_or-set_same passed k next 0 (let each = was.passed_each in let low : k < length others = todo.0 in omega arith) in omega arith) less)

      only : (a : ℕ) → Contains ready a ⊎ (least_of members k ≡ a) → (j : ℕ) × (j < length others) × (least_of members j ≡ a) × IsToCome come j × HaveCome others come j
      only a (inl c) = was.ready_only a c
      only a (inr e) = (k, todo.0, e, todo.1, come_all)
