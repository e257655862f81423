-- A node put at the end of the path of a walk.
use Rattle.std.proofs.Common.{◌≡◌, ℕ, ◌+◌, ◌<◌, ◌≤◌, ◌⊎◌, inl, inr, List, [], ◌∷◌, ◌++◌, length, slice_index, set, Contains, sym, ap, subst, ◌∙◌, arith}
use Rattle.std.proofs.lemmas.Bool.{cases_eq}
use Rattle.std.proofs.lemmas.List.{get_or-set_same, get_or-set_other, length-set, length_push}
use Rattle.std.proofs.lemmas.List.Elements.{Contains-append_left, Contains-push, Contains-push_cases}
use Rattle.rt_components.specs.declared.walk.State.{State}
use Rattle.rt_components.specs.declared.walk.State.TheVariants.{Unseen, OnPath, InClass}
use Rattle.rt_components.specs.Graphs.{HasEdge}
use Rattle.rt_components.specs.Groups.{Reaches}
use Rattle.rt_components.specs.Groups.Reaches.{there}
use Rattle.rt_components.specs.Inside.Walks.{state_of, IsNotBefore, IsMet, LeadsOn, IsSpent, IsPath, AreWhole}
use Rattle.rt_components.proofs.Numbers.{push_old, push_last, Rises-push}
use Rattle.rt_base.proofs.Numbers.{before_or}

pub unseen_place : (i : ℕ) → Unseen ≡ OnPath i → ⊥
unseen_place i e = cc

pub unseen_class : (g : ℕ) → Unseen ≡ InClass g → ⊥
unseen_class g e = cc

pub place_class : (i g : ℕ) → OnPath i ≡ InClass g → ⊥
place_class i g e = cc

pub same_place : (i j : ℕ) → OnPath i ≡ OnPath j → i ≡ j
same_place i j e = cc

pub same_class : (g h : ℕ) → InClass g ≡ InClass h → g ≡ h
same_class g h e = cc

-- the classes that are whole depend on which nodes are in which class alone
pub whole_kept : (graph : List (List ℕ)) (state after : List State) (heads : List ℕ) → AreWhole graph state heads → ((a g : ℕ) → state_of state a ≡ InClass g → state_of after a ≡ InClass g) →
    ((a g : ℕ) → state_of after a ≡ InClass g → state_of state a ≡ InClass g) → AreWhole graph after heads
whole_kept graph state after heads whole on back = record {
  within = λ a g e. whole.within a g (back a g e);
  some = λ g less. on (slice_index heads g) g (whole.some g less);
  down = λ a b g e edge. let d = whole.down a b g (back a g e) edge in (d.0, on b d.0 d.1, d.2);
  together = λ a b g h e f. whole.together a b g h (back a g e) (back b h f);
}

module _ (graph : List (List ℕ)) (state : List State) (followed path starts pending : List ℕ) (was : IsPath graph state followed path starts pending)
    (node : ℕ) (within : node < length graph) (unseen : state_of state node ≡ Unseen) where
  here : state_of (set state node (OnPath (length path))) node ≡ OnPath (length path)
  here = let less : node < length state = omega (arith, was.state_each) in get_or-set_same state node (OnPath (length path)) Unseen less

  other : (a : ℕ) → (a ≡ node → ⊥) → state_of (set state node (OnPath (length path))) a ≡ state_of state a
  other a ne = get_or-set_other state node a (OnPath (length path)) Unseen ne

  kept : (a : ℕ) (s : State) → (Unseen ≡ s → ⊥) → state_of state a ≡ s → state_of (set state node (OnPath (length path))) a ≡ s
  kept a s ne e = other a (λ f. ne (sym unseen ∙ sym (ap (state_of state) f) ∙ e)) ∙ e

  came : (a : ℕ) (s : State) → state_of (set state node (OnPath (length path))) a ≡ s → ((a ≡ node) × (OnPath (length path) ≡ s)) ⊎ (state_of state a ≡ s)
  came a s e = by (cases_eq a node)
    where
      by : (a ≡ node) ⊎ (a ≡ node → ⊥) → ((a ≡ node) × (OnPath (length path) ≡ s)) ⊎ (state_of state a ≡ s)
      by (inl f) = inl (f, sym here ∙ sym (ap (state_of (set state node (OnPath (length path)))) f) ∙ e)
      by (inr ne) = inr (sym (other a ne) ∙ e)

  -- no other node becomes one that the walk hasn't come to
  pub entered_seen : (a : ℕ) → state_of (set state node (OnPath (length path))) a ≡ Unseen → state_of state a ≡ Unseen
  entered_seen a e = by (came a Unseen e)
    where
      by : ((a ≡ node) × (OnPath (length path) ≡ Unseen)) ⊎ (state_of state a ≡ Unseen) → state_of state a ≡ Unseen
      by (inl (f, g)) = absurd (unseen_place (length path) (sym g))
      by (inr f) = f

  whole : (heads : List ℕ) → AreWhole graph state heads → AreWhole graph (set state node (OnPath (length path))) heads
  whole heads are = whole_kept graph state (set state node (OnPath (length path))) heads are (λ a g e. kept a (InClass g) (unseen_class g) e) (λ a g e. by a g (came a (InClass g) e))
    where
      by : (a g : ℕ) → ((a ≡ node) × (OnPath (length path) ≡ InClass g)) ⊎ (state_of state a ≡ InClass g) → state_of state a ≡ InClass g
      by a g (inl (f, e)) = absurd (place_class (length path) g e)
      by a g (inr f) = f

  last_place : (i : ℕ) → i < length (path ++ node ∷ []) → (i < length path) ⊎ (i ≡ length path)
  last_place i less = before_or (length path) i (subst (λ n. i < n) (length_push path node) less)

  at_last : (i : ℕ) → i ≡ length path → slice_index (path ++ node ∷ []) i ≡ node
  at_last i e = ap (slice_index (path ++ node ∷ [])) e ∙ push_last path node

  start_old : (s i : ℕ) → i < length path → s ≤ i → Contains (starts ++ length path ∷ []) s → Contains starts s
  start_old s i less le c = by (Contains-push_cases starts (length path) s c)
    where
      by : Contains starts s ⊎ (length path ≡ s) → Contains starts s
      by (inl d) = d
      by (inr e) = absurd (omega arith)

  met : (i a : ℕ) → i < length path → IsMet state starts i a → IsMet (set state node (OnPath (length path))) (starts ++ length path ∷ []) i a
  met i a less (inl (g, e)) = inl (g, kept a (InClass g) (unseen_class g) e)
  met i a less (inr (j, e, nb)) = inr (j, kept a (OnPath j) (unseen_place j) e, λ s c le. nb s (start_old s i less le c) le)

  module _ (reach : (i : ℕ) → i < length path → Reaches (HasEdge graph) (slice_index path i) node) where
    place_of : (a i : ℕ) → state_of (set state node (OnPath (length path))) a ≡ OnPath i → (i < length (path ++ node ∷ [])) × (slice_index (path ++ node ∷ []) i ≡ a)
    place_of a i e = by (came a (OnPath i) e)
      where
        by : ((a ≡ node) × (OnPath (length path) ≡ OnPath i)) ⊎ (state_of state a ≡ OnPath i) → (i < length (path ++ node ∷ [])) × (slice_index (path ++ node ∷ []) i ≡ a)
        by (inl (f, g)) =
            let same : length path ≡ i = same_place (length path) i g in
            let whole : length (path ++ node ∷ []) ≡ length path + 1 = length_push path node in
            (omega arith, at_last i (sym same) ∙ sym f)
        by (inr f) =
            let old = was.place_of a i f in
            let less : i < length path = old.0 in
            let whole : length (path ++ node ∷ []) ≡ length path + 1 = length_push path node in
            (omega arith, push_old path node i less ∙ old.1)

    node_at : (i : ℕ) → i < length (path ++ node ∷ []) → (slice_index (path ++ node ∷ []) i < length graph) × (state_of (set state node (OnPath (length path))) (slice_index (path ++ node ∷ []) i) ≡ OnPath i)
    node_at i less = by (last_place i less)
      where
        by : (i < length path) ⊎ (i ≡ length path) → (slice_index (path ++ node ∷ []) i < length graph) × (state_of (set state node (OnPath (length path))) (slice_index (path ++ node ∷ []) i) ≡ OnPath i)
        by (inl h) =
            let old = was.node_at i h in
            subst (λ p. (p < length graph) × (state_of (set state node (OnPath (length path))) p ≡ OnPath i)) (sym (push_old path node i h)) (old.0, kept (slice_index path i) (OnPath i) (unseen_place i) old.1)
        by (inr h) = subst (λ p. (p < length graph) × (state_of (set state node (OnPath (length path))) p ≡ OnPath i)) (sym (at_last i h)) (within, here ∙ ap OnPath (sym h))

    begun : (i : ℕ) → i < length (path ++ node ∷ []) → (s : ℕ) × Contains (starts ++ length path ∷ []) s × (s ≤ i)
    begun i less = by (last_place i less)
      where
        by : (i < length path) ⊎ (i ≡ length path) → (s : ℕ) × Contains (starts ++ length path ∷ []) s × (s ≤ i)
        by (inl h) = let old = was.begun i h in (old.0, Contains-append_left starts (length path ∷ []) old.0 old.1, old.2)
        by (inr h) = (length path, Contains-push starts (length path), omega arith)

    spent : (i : ℕ) → i < length (path ++ node ∷ []) → (Contains (pending ++ length path ∷ []) i → ⊥) → IsSpent graph followed (slice_index (path ++ node ∷ []) i)
    spent i less absent = by (last_place i less)
      where
        by : (i < length path) ⊎ (i ≡ length path) → IsSpent graph followed (slice_index (path ++ node ∷ []) i)
        by (inl h) = subst (IsSpent graph followed) (sym (push_old path node i h)) (was.spent i h (λ c. absent (Contains-append_left pending (length path ∷ []) i c)))
        by (inr h) = absurd (absent (subst (Contains (pending ++ length path ∷ [])) (sym h) (Contains-push pending (length path))))

    leads : (i : ℕ) → i < length (path ++ node ∷ []) → LeadsOn graph (set state node (OnPath (length path))) followed (starts ++ length path ∷ []) i (slice_index (path ++ node ∷ []) i)
    leads i less = by (last_place i less)
      where
        by : (i < length path) ⊎ (i ≡ length path) → LeadsOn graph (set state node (OnPath (length path))) followed (starts ++ length path ∷ []) i (slice_index (path ++ node ∷ []) i)
        by (inl h) = subst (LeadsOn graph (set state node (OnPath (length path))) followed (starts ++ length path ∷ []) i) (sym (push_old path node i h)) (λ e f g. met i _ h (was.leads i h e f g))
        by (inr h) =
            subst (LeadsOn graph (set state node (OnPath (length path))) followed (starts ++ length path ∷ []) i) (sym (at_last i h)) (λ e f g.
            let none : slice_index followed node ≡ 0 = was.unseen node unseen in
            absurd (omega arith))

    reached : (i j : ℕ) → i < length (path ++ node ∷ []) → j < length (path ++ node ∷ []) → IsNotBefore (starts ++ length path ∷ []) i j → Reaches (HasEdge graph) (slice_index (path ++ node ∷ []) i) (slice_index (path ++ node ∷ []) j)
    reached i j less less' nb = by (last_place i less) (last_place j less')
      where
        by : (i < length path) ⊎ (i ≡ length path) → (j < length path) ⊎ (j ≡ length path) → Reaches (HasEdge graph) (slice_index (path ++ node ∷ []) i) (slice_index (path ++ node ∷ []) j)
        by (inl h) (inl k) =
            subst (λ p. Reaches (HasEdge graph) p (slice_index (path ++ node ∷ []) j)) (sym (push_old path node i h))
            (subst (Reaches (HasEdge graph) (slice_index path i)) (sym (push_old path node j k)) (was.reached i j h k (λ s c le. nb s (Contains-append_left starts (length path ∷ []) s c) le)))
        by (inl h) (inr k) =
            subst (λ p. Reaches (HasEdge graph) p (slice_index (path ++ node ∷ []) j)) (sym (push_old path node i h)) (subst (Reaches (HasEdge graph) (slice_index path i)) (sym (at_last j k)) (reach i h))
        by (inr h) (inl k) = let le : length path ≤ j = nb (length path) (Contains-push starts (length path)) (omega arith) in absurd (omega arith)
        by (inr h) (inr k) =
            subst (λ p. Reaches (HasEdge graph) p (slice_index (path ++ node ∷ []) j)) (sym (at_last i h)) (subst (Reaches (HasEdge graph) node) (sym (at_last j k)) there)

    pub entered_path : IsPath graph (set state node (OnPath (length path))) followed (path ++ node ∷ []) (starts ++ length path ∷ []) (pending ++ length path ∷ [])
    entered_path = record {
      state_each = length-set state node (OnPath (length path)) ∙ was.state_each;
      followed_each = was.followed_each;
      unseen = λ a e. was.unseen a (entered_seen a e);
      place_of = place_of;
      node_at = node_at;
      starts_rise = Rises-push starts (length path) was.starts_rise (λ s c. was.pending_in s (was.starts_pending s c));
      starts_pending = λ s c. by s (Contains-push_cases starts (length path) s c);
      pending_rise = Rises-push pending (length path) was.pending_rise was.pending_in;
      pending_in = λ i c. pend i (Contains-push_cases pending (length path) i c);
      begun = begun;
      spent = spent;
      leads = leads;
      reached = reached;
    }
      where
        by : (s : ℕ) → Contains starts s ⊎ (length path ≡ s) → Contains (pending ++ length path ∷ []) s
        by s (inl c) = Contains-append_left pending (length path ∷ []) s (was.starts_pending s c)
        by s (inr e) = subst (Contains (pending ++ length path ∷ [])) e (Contains-push pending (length path))

        pend : (i : ℕ) → Contains pending i ⊎ (length path ≡ i) → i < length (path ++ node ∷ [])
        pend i (inl c) = let less : i < length path = was.pending_in i c in let whole : length (path ++ node ∷ []) ≡ length path + 1 = length_push path node in omega arith
        pend i (inr e) = let whole : length (path ++ node ∷ []) ≡ length path + 1 = length_push path node in omega arith

-- the same of the lists that the pushes gave
pub entered : (graph : List (List ℕ)) (state : List State) (followed path starts pending : List ℕ) → IsPath graph state followed path starts pending → (node : ℕ) → node < length graph → state_of state node ≡ Unseen →
    ((i : ℕ) → i < length path → Reaches (HasEdge graph) (slice_index path i) node) → (n : ℕ) → n ≡ length path → (path' starts' pending' : List ℕ) → path' ≡ path ++ node ∷ [] → starts' ≡ starts ++ n ∷ [] → pending' ≡ pending ++ n ∷ [] →
    IsPath graph (set state node (OnPath n)) followed path' starts' pending'
entered graph state followed path starts pending was node within unseen reach n same path' starts' pending' e f g =
    rw (e, f, g, same) (entered_path graph state followed path starts pending was node within unseen reach)

-- the node is in the last component
pub entered_met : (graph : List (List ℕ)) (state : List State) (followed path starts pending : List ℕ) → IsPath graph state followed path starts pending → (node : ℕ) → node < length graph → (n : ℕ) → n ≡ length path → (starts' : List ℕ) → starts' ≡ starts ++ n ∷ [] →
    (state_of (set state node (OnPath n)) node ≡ OnPath n) × ((s : ℕ) → Contains starts' s → s ≤ n)
entered_met graph state followed path starts pending was node within n same starts' e =
    let less : node < length state = omega (arith, was.state_each) in
    (get_or-set_same state node (OnPath n) Unseen less, λ s c. by s (Contains-push_cases starts n s (subst (λ xs. Contains xs s) e c)))
  where
    by : (s : ℕ) → Contains starts s ⊎ (n ≡ s) → s ≤ n
    by s (inl c) = let below = was.pending_in s (was.starts_pending s c) in omega arith
    by s (inr f) = omega arith

pub entered_whole : (graph : List (List ℕ)) (state : List State) (followed path starts pending : List ℕ) → IsPath graph state followed path starts pending → (node : ℕ) → node < length graph → state_of state node ≡ Unseen → (n : ℕ) → n ≡ length path →
    (heads : List ℕ) → AreWhole graph state heads → AreWhole graph (set state node (OnPath n)) heads
entered_whole graph state followed path starts pending was node within unseen n same heads are = rw same (whole graph state followed path starts pending was node within unseen heads are)
