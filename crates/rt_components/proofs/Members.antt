-- Lists for classes, filled node by node.
use Rattle.std.proofs.Common.{◌≡◌, ◌≢◌, ℕ, ◌+◌, ◌<◌, ◌≤◌, ◌⊎◌, inl, inr, List, [], ◌∷◌, ◌++◌, length, slice_index, set, replicate, Contains, refl, sym, ap, subst, ◌∙◌, arith}
use Rattle.std.specs.List.Sorted.{IsStrictlyIncreasing}
use Rattle.std.proofs.lemmas.Bool.{cases_eq, cases_lt}
use Rattle.std.proofs.lemmas.List.{get_or-set_same, get_or-set_other, length-set, get_or_past, get_or-replicate, length-replicate, length_push}
use Rattle.std.proofs.lemmas.List.Elements.{Contains-append_left, Contains-push, Contains-push_cases}
use Rattle.rt_components.specs.Graphs.{HasEdge}
use Rattle.rt_components.specs.Groups.{group_at}
use Rattle.rt_components.specs.Inside.Classes.{AreMembers, AddsOthers, AreSuccessors}
use Rattle.rt_components.proofs.Numbers.{contains_at, push_old, push_last}
use Rattle.rt_base.proofs.Numbers.{before_or}
use Rattle.rt_base.proofs.Lists.{Contains-none}

-- no list of so many empty ones contains anything
pub empty_at : (count k : ℕ) → group_at (replicate count []) k ≡ []
empty_at count k = by (cases_lt k count)
  where
    by : (k < count) ⊎ (count ≤ k) → group_at (replicate count []) k ≡ []
    by (inl less) = get_or-replicate count k [] [] less
    by (inr le) = get_or_past (replicate count []) k [] (let l : length (replicate {A = List ℕ} count []) ≡ count = length-replicate count [] in omega arith)

-- the list at a place after one was set
pub set_cases : (lists : List (List ℕ)) (k : ℕ) (ys : List ℕ) → k < length lists → (j : ℕ) → ((j ≡ k) × (group_at (set lists k ys) j ≡ ys)) ⊎ ((j ≡ k → ⊥) × (group_at (set lists k ys) j ≡ group_at lists j))
set_cases lists k ys less j = by (cases_eq j k)
  where
    by : (j ≡ k) ⊎ (j ≡ k → ⊥) → ((j ≡ k) × (group_at (set lists k ys) j ≡ ys)) ⊎ ((j ≡ k → ⊥) × (group_at (set lists k ys) j ≡ group_at lists j))
    by (inl e) = inl (e, ap (group_at (set lists k ys)) e ∙ get_or-set_same lists k ys [] less)
    by (inr ne) = inr (ne, get_or-set_other lists k j ys [] ne)

increasing_push : (xs : List ℕ) (y : ℕ) → IsStrictlyIncreasing xs → ((x : ℕ) → Contains xs x → x < y) → IsStrictlyIncreasing (xs ++ y ∷ [])
increasing_push xs y rises below k less = by (before_or (length xs) (k + 1) (subst (λ n. k + 1 < n) (length_push xs y) less))
  where
    by : (k + 1 < length xs) ⊎ (k + 1 ≡ length xs) → slice_index (xs ++ y ∷ []) k < slice_index (xs ++ y ∷ []) (k + 1)
    by (inl h) =
        let old = rises k h in
        let e : slice_index (xs ++ y ∷ []) k ≡ slice_index xs k = push_old xs y k (omega arith) in
        let f : slice_index (xs ++ y ∷ []) (k + 1) ≡ slice_index xs (k + 1) = push_old xs y (k + 1) h in
        omega arith
    by (inr h) =
        let within : k < length xs = omega arith in
        let low : slice_index xs k < y = below (slice_index xs k) (contains_at xs k within) in
        let e : slice_index (xs ++ y ∷ []) k ≡ slice_index xs k = push_old xs y k within in
        let f : slice_index (xs ++ y ∷ []) (k + 1) ≡ y = ap (slice_index (xs ++ y ∷ [])) h ∙ push_last xs y in
        omega arith

pub members_none : (class : List ℕ) (count : ℕ) (members : List (List ℕ)) → members ≡ replicate count [] → AreMembers class count 0 members
members_none class count members e = record {
  each = ap length e ∙ length-replicate count [];
  found = λ a less. absurd (omega arith);
  only = λ k a c. absurd (Contains-none a (subst (λ xs. Contains xs a) (none k) c));
  ascending = λ k. subst IsStrictlyIncreasing (sym (none k)) (λ i less. absurd (omega arith));
}
  where
    none : (k : ℕ) → group_at members k ≡ []
    none k = ap (λ xs. group_at xs k) e ∙ empty_at count k

pub members_more : (class : List ℕ) (count node : ℕ) (members : List (List ℕ)) → AreMembers class count node members → (k : ℕ) → slice_index class node ≡ k → k < count → (ys : List ℕ) → ys ≡ group_at members k ++ node ∷ [] →
    AreMembers class count (node + 1) (set members k ys)
members_more class count node members are k is less ys pushed = record {
  each = length-set members k ys ∙ are.each;
  found = λ a low. found a (before_or node a low);
  only = λ j a c. only j a c (at j);
  ascending = λ j. ascending j (at j);
}
  where
    at : (j : ℕ) → ((j ≡ k) × (group_at (set members k ys) j ≡ ys)) ⊎ ((j ≡ k → ⊥) × (group_at (set members k ys) j ≡ group_at members j))
    at j = set_cases members k ys (let each = are.each in omega arith) j

    kept : (j a : ℕ) → Contains (group_at members j) a → Contains (group_at (set members k ys) j) a
    kept j a c = by (at j)
      where
        by : ((j ≡ k) × (group_at (set members k ys) j ≡ ys)) ⊎ ((j ≡ k → ⊥) × (group_at (set members k ys) j ≡ group_at members j)) → Contains (group_at (set members k ys) j) a
        by (inl (e, f)) = subst (λ xs. Contains xs a) (sym (f ∙ pushed)) (Contains-append_left (group_at members k) (node ∷ []) a (subst (λ i. Contains (group_at members i) a) e c))
        by (inr (ne, f)) = subst (λ xs. Contains xs a) (sym f) c

    here : Contains (group_at (set members k ys) k) node
    here = by (at k)
      where
        by : ((k ≡ k) × (group_at (set members k ys) k ≡ ys)) ⊎ ((k ≡ k → ⊥) × (group_at (set members k ys) k ≡ group_at members k)) → Contains (group_at (set members k ys) k) node
        by (inl (e, f)) = subst (λ xs. Contains xs node) (sym (f ∙ pushed)) (Contains-push (group_at members k) node)
        by (inr (ne, f)) = absurd (ne refl)

    found : (a : ℕ) → (a < node) ⊎ (a ≡ node) → Contains (group_at (set members k ys) (slice_index class a)) a
    found a (inl low) = kept (slice_index class a) a (are.found a low)
    found a (inr e) = subst (λ b. Contains (group_at (set members k ys) (slice_index class b)) b) (sym e) (subst (λ j. Contains (group_at (set members k ys) j) node) (sym is) here)

    only : (j a : ℕ) → Contains (group_at (set members k ys) j) a → ((j ≡ k) × (group_at (set members k ys) j ≡ ys)) ⊎ ((j ≡ k → ⊥) × (group_at (set members k ys) j ≡ group_at members j)) → (a < node + 1) × (slice_index class a ≡ j)
    only j a c (inl (e, f)) = by (Contains-push_cases (group_at members k) node a (subst (λ xs. Contains xs a) (f ∙ pushed) c))
      where
        by : Contains (group_at members k) a ⊎ (node ≡ a) → (a < node + 1) × (slice_index class a ≡ j)
        by (inl d) = let o = are.only k a d in let low : a < node = o.0 in (omega arith, o.1 ∙ sym e)
        by (inr g) = (omega arith, ap (slice_index class) (sym g) ∙ is ∙ sym e)
    only j a c (inr (ne, f)) = let o = are.only j a (subst (λ xs. Contains xs a) f c) in let low : a < node = o.0 in (omega arith, o.1)

    ascending : (j : ℕ) → ((j ≡ k) × (group_at (set members k ys) j ≡ ys)) ⊎ ((j ≡ k → ⊥) × (group_at (set members k ys) j ≡ group_at members j)) → IsStrictlyIncreasing (group_at (set members k ys) j)
    ascending j (inl (e, f)) = subst IsStrictlyIncreasing (sym (f ∙ pushed)) (increasing_push (group_at members k) node (are.ascending k) (λ x c. (are.only k x c).0))
    ascending j (inr (ne, f)) = subst IsStrictlyIncreasing (sym f) (are.ascending j)

pub adds_none : (class : List ℕ) (k : ℕ) (old : List ℕ) → AddsOthers class k [] old old
adds_none class k old = record {
  kept = λ h c. c;
  found = λ b c ne. absurd (Contains-none b c);
  only = λ h c. inl c;
}

-- a node more: of another class, or not
pub adds_other : (class : List ℕ) (k : ℕ) (nodes old new : List ℕ) → AddsOthers class k nodes old new → (b : ℕ) → (slice_index class b ≡ k → ⊥) → AddsOthers class k (nodes ++ b ∷ []) old (new ++ slice_index class b ∷ [])
adds_other class k nodes old new adds b ne = record {
  kept = λ h c. Contains-append_left new (slice_index class b ∷ []) h (adds.kept h c);
  found = λ a c other. found a other (Contains-push_cases nodes b a c);
  only = λ h c. only h (Contains-push_cases new (slice_index class b) h c);
}
  where
    found : (a : ℕ) → slice_index class a ≢ k → Contains nodes a ⊎ (b ≡ a) → Contains (new ++ slice_index class b ∷ []) (slice_index class a)
    found a other (inl c) = Contains-append_left new (slice_index class b ∷ []) (slice_index class a) (adds.found a c other)
    found a other (inr e) = subst (λ x. Contains (new ++ slice_index class b ∷ []) (slice_index class x)) e (Contains-push new (slice_index class b))

    only : (h : ℕ) → Contains new h ⊎ (slice_index class b ≡ h) → Contains old h ⊎ ((a : ℕ) × Contains (nodes ++ b ∷ []) a × (slice_index class a ≡ h) × (h ≢ k))
    only h (inl c) = by (adds.only h c)
      where
        by : Contains old h ⊎ ((a : ℕ) × Contains nodes a × (slice_index class a ≡ h) × (h ≢ k)) → Contains old h ⊎ ((a : ℕ) × Contains (nodes ++ b ∷ []) a × (slice_index class a ≡ h) × (h ≢ k))
        by (inl d) = inl d
        by (inr (a, d, e, f)) = inr (a, Contains-append_left nodes (b ∷ []) a d, e, f)
    only h (inr e) = inr (b, Contains-push nodes b, e, λ f. ne (e ∙ f))

pub adds_same : (class : List ℕ) (k : ℕ) (nodes old new : List ℕ) → AddsOthers class k nodes old new → (b : ℕ) → slice_index class b ≡ k → AddsOthers class k (nodes ++ b ∷ []) old new
adds_same class k nodes old new adds b same = record {
  kept = adds.kept;
  found = λ a c other. found a other (Contains-push_cases nodes b a c);
  only = λ h c. only h (adds.only h c);
}
  where
    found : (a : ℕ) → slice_index class a ≢ k → Contains nodes a ⊎ (b ≡ a) → Contains new (slice_index class a)
    found a other (inl c) = adds.found a c other
    found a other (inr e) = absurd (other (ap (slice_index class) (sym e) ∙ same))

    only : (h : ℕ) → Contains old h ⊎ ((a : ℕ) × Contains nodes a × (slice_index class a ≡ h) × (h ≢ k)) → Contains old h ⊎ ((a : ℕ) × Contains (nodes ++ b ∷ []) a × (slice_index class a ≡ h) × (h ≢ k))
    only h (inl d) = inl d
    only h (inr (a, d, e, f)) = inr (a, Contains-append_left nodes (b ∷ []) a d, e, f)

pub successors_none : (graph : List (List ℕ)) (class : List ℕ) (count : ℕ) (others : List (List ℕ)) → others ≡ replicate count [] → AreSuccessors graph class count 0 others
successors_none graph class count others e = record {
  each = ap length e ∙ length-replicate count [];
  found = λ a b less edge ne. absurd (omega arith);
  only = λ k h c. absurd (Contains-none h (subst (λ xs. Contains xs h) (ap (λ xs. group_at xs k) e ∙ empty_at count k) c));
}

pub successors_more : (graph : List (List ℕ)) (class : List ℕ) (count node : ℕ) (others : List (List ℕ)) → AreSuccessors graph class count node others → (k : ℕ) → slice_index class node ≡ k → k < count → (ys : List ℕ) → AddsOthers class k (group_at graph node) (group_at others k) ys →
    AreSuccessors graph class count (node + 1) (set others k ys)
successors_more graph class count node others are k is less ys adds = record {
  each = length-set others k ys ∙ are.each;
  found = λ a b low edge ne. found a b edge ne (before_or node a low);
  only = λ j h c. only j h c (at j);
}
  where
    at : (j : ℕ) → ((j ≡ k) × (group_at (set others k ys) j ≡ ys)) ⊎ ((j ≡ k → ⊥) × (group_at (set others k ys) j ≡ group_at others j))
    at j = set_cases others k ys (let each = are.each in omega arith) j

    kept : (j h : ℕ) → Contains (group_at others j) h → Contains (group_at (set others k ys) j) h
    kept j h c = by (at j)
      where
        by : ((j ≡ k) × (group_at (set others k ys) j ≡ ys)) ⊎ ((j ≡ k → ⊥) × (group_at (set others k ys) j ≡ group_at others j)) → Contains (group_at (set others k ys) j) h
        by (inl (e, f)) = subst (λ xs. Contains xs h) (sym f) (adds.kept h (subst (λ i. Contains (group_at others i) h) e c))
        by (inr (ne, f)) = subst (λ xs. Contains xs h) (sym f) c

    added : (h : ℕ) → Contains ys h → Contains (group_at (set others k ys) k) h
    added h c = by (at k)
      where
        by : ((k ≡ k) × (group_at (set others k ys) k ≡ ys)) ⊎ ((k ≡ k → ⊥) × (group_at (set others k ys) k ≡ group_at others k)) → Contains (group_at (set others k ys) k) h
        by (inl (e, f)) = subst (λ xs. Contains xs h) (sym f) c
        by (inr (ne, f)) = absurd (ne refl)

    found : (a b : ℕ) → HasEdge graph a b → slice_index class b ≢ slice_index class a → (a < node) ⊎ (a ≡ node) → Contains (group_at (set others k ys) (slice_index class a)) (slice_index class b)
    found a b edge ne (inl low) = kept (slice_index class a) (slice_index class b) (are.found a b low edge ne)
    found a b edge ne (inr e) =
        let of : slice_index class a ≡ k = ap (slice_index class) e ∙ is in
        subst (λ j. Contains (group_at (set others k ys) j) (slice_index class b)) (sym of) (added (slice_index class b) (adds.found b (subst (λ x. Contains (group_at graph x) b) e edge) (λ f. ne (f ∙ sym of))))

    only : (j h : ℕ) → Contains (group_at (set others k ys) j) h → ((j ≡ k) × (group_at (set others k ys) j ≡ ys)) ⊎ ((j ≡ k → ⊥) × (group_at (set others k ys) j ≡ group_at others j)) →
        (a : ℕ) × (b : ℕ) × HasEdge graph a b × (slice_index class a ≡ j) × (slice_index class b ≡ h) × (h ≢ j)
    only j h c (inr (ne, f)) = are.only j h (subst (λ xs. Contains xs h) f c)
    only j h c (inl (e, f)) = by (adds.only h (subst (λ xs. Contains xs h) f c))
      where
        by : Contains (group_at others k) h ⊎ ((b : ℕ) × Contains (group_at graph node) b × (slice_index class b ≡ h) × (h ≢ k)) → (a : ℕ) × (b : ℕ) × HasEdge graph a b × (slice_index class a ≡ j) × (slice_index class b ≡ h) × (h ≢ j)
        by (inl d) = are.only j h (subst (λ i. Contains (group_at others i) h) (sym e) d)
        by (inr (b, d, g, ne)) = (node, b, d, is ∙ sym e, g, λ p. ne (p ∙ e))
