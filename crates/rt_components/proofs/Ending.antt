-- The first of the classes that may come next, and the end of a queue.
use Rattle.std.proofs.Common.{◌≡◌, ℕ, zero, suc, ◌<◌, ◌⊎◌, inl, inr, Bool, List, [], ◌∷◌, length, slice_index, Contains, sym, ap, subst, ◌∙◌, arith}
use Rattle.rt_components.specs.Inside.Orders.{least_of, AreAllInOrder, AreLinked, HasCome, IsToCome, HaveCome, IsWaiting, IsQueueOf}
use Rattle.rt_components.proofs.Numbers.{cons_here, cons_there, cons_cases}
use Rattle.rt_components.proofs.Taking.{cases_come, not_both}
use Rattle.rt_base.proofs.Numbers.{before_or}
use Rattle.rt_base.proofs.Lists.{Contains-none}

module _ (class : List ℕ) (members others : List (List ℕ)) (linked : AreLinked class members others) (come : List Bool) (order passed : List ℕ) (waiting : List (List ℕ)) where
  module _ (ready keys : List ℕ) (a : ℕ) (was : IsQueueOf others members come order passed waiting ready []) (popped : ready ≡ a ∷ keys) where
    found : (k : ℕ) × (k < length others) × (least_of members k ≡ a) × IsToCome come k × HaveCome others come k
    found = was.ready_only a (subst (λ xs. Contains xs a) (sym popped) (cons_here a keys))

    pub is_member : a < length class
    is_member = subst (λ x. x < length class) found.2 (linked.known found.0 found.1).0

    is_class : slice_index class a ≡ found.0
    is_class = ap (slice_index class) (sym found.2) ∙ (linked.known found.0 found.1).1

    pub is_free : HaveCome others come (slice_index class a)
    is_free = subst (HaveCome others come) (sym is_class) found.4

    pub is_least : least_of members (slice_index class a) ≡ a
    is_least = ap (least_of members) is_class ∙ found.2

    pub opened : IsQueueOf others members come order passed waiting keys (slice_index class a ∷ [])
    opened = record {
      in_order = was.in_order;
      come_each = was.come_each;
      passed_each = was.passed_each;
      waiting_each = was.waiting_each;
      come_on = was.come_on;
      come_back = was.come_back;
      passed_come = was.passed_come;
      somewhere = λ j low to. somewhere j low (was.somewhere j low to);
      ready_only = λ b c. was.ready_only b (subst (λ xs. Contains xs b) (sym popped) (cons_there a keys b c));
      waiting_only = was.waiting_only;
      todo_only = λ j c. todo_only j (cons_cases (slice_index class a) [] j c);
    }
      where
        somewhere : (j : ℕ) → j < length others → Contains ready (least_of members j) ⊎ (IsWaiting others come waiting j ⊎ Contains [] j) → Contains keys (least_of members j) ⊎ (IsWaiting others come waiting j ⊎ Contains (slice_index class a ∷ []) j)
        somewhere j low (inr (inl w)) = inr (inl w)
        somewhere j low (inr (inr c)) = absurd (Contains-none j c)
        somewhere j low (inl c) = by (cons_cases a keys (least_of members j) (subst (λ xs. Contains xs (least_of members j)) popped c))
          where
            by : (a ≡ least_of members j) ⊎ Contains keys (least_of members j) → Contains keys (least_of members j) ⊎ (IsWaiting others come waiting j ⊎ Contains (slice_index class a ∷ []) j)
            by (inl e) = inr (inr (subst (Contains (slice_index class a ∷ [])) (ap (slice_index class) e ∙ (linked.known j low).1) (cons_here (slice_index class a) [])))
            by (inr d) = inl d

        todo_only : (j : ℕ) → (slice_index class a ≡ j) ⊎ Contains [] j → (j < length others) × IsToCome come j
        todo_only j (inl e) = subst (λ x. (x < length others) × IsToCome come x) (sym is_class ∙ e) (found.1, found.3)
        todo_only j (inr d) = absurd (Contains-none j d)

  -- where none may come next, all have come
  module _ (was : IsQueueOf others members come order passed waiting [] []) where
    come_at : (n : ℕ) → ((j : ℕ) → j < n → j < length others → HasCome come j) → n < length others → HasCome come n
    come_at n below low = by (cases_come come n)
      where
        at : Contains [] (least_of members n) ⊎ (IsWaiting others come waiting n ⊎ Contains [] n) → HasCome come n
        at (inl c) = absurd (Contains-none (least_of members n) c)
        at (inr (inl (h, c, leads, to))) = let less : h < n = linked.down n h leads in absurd (not_both come h (below h less (omega arith)) to)
        at (inr (inr c)) = absurd (Contains-none n c)

        by : HasCome come n ⊎ IsToCome come n → HasCome come n
        by (inl e) = e
        by (inr e) = at (was.somewhere n low e)

    come_below : (n j : ℕ) → j < n → j < length others → HasCome come j
    come_below zero j less low = absurd (omega arith)
    come_below (suc n) j less low = by (λ i l m. come_below n i l m) (before_or n j (omega arith))
      where
        by : ((i : ℕ) → i < n → i < length others → HasCome come i) → (j < n) ⊎ (j ≡ n) → HasCome come j
        by below (inl l) = below j l low
        by below (inr e) = subst (HasCome come) (sym e) (come_at n below (omega arith))

    pub all_in_order : AreAllInOrder others members order
    all_in_order = record {
      in_order = was.in_order;
      all = λ k low. was.come_on k (come_below (length others) k low low);
    }
