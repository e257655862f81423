-- The last place of a walk that is pending left: alone, or with the last component, which becomes a class.
use Rattle.std.proofs.Common.{◌≡◌, ℕ, ◌+◌, ◌<◌, ◌≤◌, ◌⊎◌, ◌↔◌, inl, inr, List, [], ◌∷◌, ◌++◌, length, slice_index, take, Contains, refl, sym, ap, subst, ◌∙◌, arith}
use Rattle.std.proofs.lemmas.Bool.{cases_eq, cases_lt}
use Rattle.std.proofs.lemmas.List.{get_or-take, length-take-le, length_push}
use Rattle.std.proofs.lemmas.List.Elements.{Contains-push}
use Rattle.rt_components.specs.declared.walk.State.{State}
use Rattle.rt_components.specs.declared.walk.State.TheVariants.{Unseen, OnPath, InClass}
use Rattle.rt_components.specs.Graphs.{successors, HasEdge}
use Rattle.rt_components.specs.Groups.{Reaches, AreTogether}
use Rattle.rt_components.specs.Inside.Walks.{state_of, IsLast, IsNotBefore, IsMet, LeadsOn, IsSpent, IsPath, AreWhole, AreOnPath, IsClosedFrom}
use Rattle.rt_components.proofs.Numbers.{place_in, push_old, push_last, rises_front, in_front, front_or_last, front_below, greatest_last}
use Rattle.rt_components.proofs.Reaching.{reaches_closed}
use Rattle.rt_components.proofs.Entering.{unseen_place, unseen_class, place_class, same_place, same_class}
use Rattle.rt_base.proofs.Numbers.{before_or}

pub on_path_of : (graph : List (List ℕ)) (state : List State) (followed path starts pending : List ℕ) → IsPath graph state followed path starts pending → AreOnPath state path
on_path_of graph state followed path starts pending was = record {
  place_of = was.place_of;
  node_at = λ i less. let at = was.node_at i less in (subst (λ n. slice_index path i < n) (sym was.state_each) at.0, at.1);
}

module _ (graph : List (List ℕ)) (state : List State) (followed path starts pending rest : List ℕ) (was : IsPath graph state followed path starts pending)
    (top : ℕ) (last : pending ≡ rest ++ top ∷ []) (done : IsSpent graph followed (slice_index path top)) where
  top_in : top < length path
  top_in = was.pending_in top (subst (λ xs. Contains xs top) (sym last) (Contains-push rest top))

  rest_below : (i : ℕ) → Contains rest i → i < top
  rest_below i c = front_below rest top i (subst Rises' last was.pending_rise) c
    where
      Rises' : List ℕ → Type 0
      Rises' xs = (i j : ℕ) → i < j → j < length xs → slice_index xs i < slice_index xs j

  pending_upto : (i : ℕ) → Contains pending i → i ≤ top
  pending_upto i c = by (front_or_last pending rest top i last c)
    where
      by : Contains rest i ⊎ (top ≡ i) → i ≤ top
      by (inl d) = let less = rest_below i d in omega arith
      by (inr e) = omega arith

  starts_upto : (s : ℕ) → Contains starts s → s ≤ top
  starts_upto s c = pending_upto s (was.starts_pending s c)

  still_absent : (i : ℕ) → (i ≡ top → ⊥) → (Contains rest i → ⊥) → Contains pending i → ⊥
  still_absent i ne absent c = by (front_or_last pending rest top i last c)
    where
      by : Contains rest i ⊎ (top ≡ i) → ⊥
      by (inl d) = absent d
      by (inr e) = ne (sym e)

  spent_from : (i : ℕ) → i < length path → (Contains rest i → ⊥) → IsSpent graph followed (slice_index path i)
  spent_from i less absent = by (cases_eq i top)
    where
      by : (i ≡ top) ⊎ (i ≡ top → ⊥) → IsSpent graph followed (slice_index path i)
      by (inl e) = subst (λ j. IsSpent graph followed (slice_index path j)) (sym e) done
      by (inr ne) = was.spent i less (still_absent i ne absent)

  -- the place is left alone
  pub left_path : (IsLast starts top → ⊥) → IsPath graph state followed path starts rest
  left_path other = record {
    state_each = was.state_each;
    followed_each = was.followed_each;
    unseen = was.unseen;
    place_of = was.place_of;
    node_at = was.node_at;
    starts_rise = was.starts_rise;
    starts_pending = λ s c. by s c (front_or_last pending rest top s last (was.starts_pending s c));
    pending_rise = rises_front pending rest top last was.pending_rise;
    pending_in = λ i c. was.pending_in i (in_front pending rest top i last c);
    begun = was.begun;
    spent = spent_from;
    leads = was.leads;
    reached = was.reached;
  }
    where
      by : (s : ℕ) → Contains starts s → Contains rest s ⊎ (top ≡ s) → Contains rest s
      by s c (inl d) = d
      by s c (inr e) = absurd (other (greatest_last starts top was.starts_rise (subst (Contains starts) (sym e) c) starts_upto))

  -- the last component begins at the place
  module _ (others : List ℕ) (begins : starts ≡ others ++ top ∷ []) (after : List State) (class : ℕ) (closed : IsClosedFrom state after top class) where
    top_start : Contains starts top
    top_start = subst (λ xs. Contains xs top) (sym begins) (Contains-push others top)

    others_below : (s : ℕ) → Contains others s → s < top
    others_below s c = front_below others top s (subst Rises' begins was.starts_rise) c
      where
        Rises' : List ℕ → Type 0
        Rises' xs = (i j : ℕ) → i < j → j < length xs → slice_index xs i < slice_index xs j

    other_start : (s : ℕ) → s < top → Contains starts s → Contains others s
    other_start s less c = by (front_or_last starts others top s begins c)
      where
        by : Contains others s ⊎ (top ≡ s) → Contains others s
        by (inl d) = d
        by (inr e) = absurd (omega arith)

    state_cases : (s : State) → (s ≡ Unseen) ⊎ (((i : ℕ) × (s ≡ OnPath i)) ⊎ ((g : ℕ) × (s ≡ InClass g)))
    state_cases Unseen = inl refl
    state_cases (OnPath i) = inr (inl (i, refl))
    state_cases (InClass g) = inr (inr (g, refl))

    -- no other node becomes one that the walk hasn't come to
    pub back_unseen : (a : ℕ) → state_of after a ≡ Unseen → state_of state a ≡ Unseen
    back_unseen a e = by (state_cases (state_of state a))
      where
        place : (i : ℕ) → state_of state a ≡ OnPath i → (i < top) ⊎ (top ≤ i) → ⊥
        place i f (inl less) = unseen_place i (sym e ∙ closed.on a i f less)
        place i f (inr le) = unseen_class class (sym e ∙ closed.off a i f le)

        by : (state_of state a ≡ Unseen) ⊎ (((i : ℕ) × (state_of state a ≡ OnPath i)) ⊎ ((g : ℕ) × (state_of state a ≡ InClass g))) → state_of state a ≡ Unseen
        by (inl f) = f
        by (inr (inl (i, f))) = absurd (place i f (cases_lt i top))
        by (inr (inr (g, f))) = absurd (unseen_class g (sym e ∙ closed.whole a g f))

    back_place : (a i : ℕ) → state_of after a ≡ OnPath i → (state_of state a ≡ OnPath i) × (i < top)
    back_place a i e = by (state_cases (state_of state a))
      where
        place : (j : ℕ) → state_of state a ≡ OnPath j → (j < top) ⊎ (top ≤ j) → (state_of state a ≡ OnPath i) × (i < top)
        place j f (inl less) = let same : j ≡ i = same_place j i (sym (closed.on a j f less) ∙ e) in (f ∙ ap OnPath same, omega arith)
        place j f (inr le) = absurd (place_class i class (sym e ∙ closed.off a j f le))

        by : (state_of state a ≡ Unseen) ⊎ (((j : ℕ) × (state_of state a ≡ OnPath j)) ⊎ ((g : ℕ) × (state_of state a ≡ InClass g))) → (state_of state a ≡ OnPath i) × (i < top)
        by (inl f) = absurd (unseen_place i (sym (closed.unseen a f) ∙ e))
        by (inr (inl (j, f))) = place j f (cases_lt j top)
        by (inr (inr (g, f))) = absurd (place_class i g (sym e ∙ closed.whole a g f))

    -- a node of a class was in it, or comes into the new one off the path
    abbrev WasIn : ℕ → ℕ → Type 0
    WasIn a h = (state_of state a ≡ InClass h) ⊎ ((h ≡ class) × ((i : ℕ) × (state_of state a ≡ OnPath i) × (top ≤ i)))

    back_class : (a h : ℕ) → state_of after a ≡ InClass h → WasIn a h
    back_class a h e = by (state_cases (state_of state a))
      where
        place : (j : ℕ) → state_of state a ≡ OnPath j → (j < top) ⊎ (top ≤ j) → WasIn a h
        place j f (inl less) = absurd (place_class j h (sym (closed.on a j f less) ∙ e))
        place j f (inr le) = inr (same_class h class (sym e ∙ closed.off a j f le), (j, f, le))

        by : (state_of state a ≡ Unseen) ⊎ (((j : ℕ) × (state_of state a ≡ OnPath j)) ⊎ ((g : ℕ) × (state_of state a ≡ InClass g))) → WasIn a h
        by (inl f) = absurd (unseen_class h (sym (closed.unseen a f) ∙ e))
        by (inr (inl (j, f))) = place j f (cases_lt j top)
        by (inr (inr (g, f))) = inl (f ∙ sym (closed.whole a g f) ∙ e)

    met : (i a : ℕ) → IsMet state starts i a → IsMet after others i a
    met i a (inl (g, e)) = inl (g, closed.whole a g e)
    met i a (inr (j, e, nb)) = by (cases_lt j top)
      where
        by : (j < top) ⊎ (top ≤ j) → IsMet after others i a
        by (inl less) = inr (j, closed.on a j e less, λ s c le. nb s (in_front starts others top s begins c) le)
        by (inr le) = inl (class, closed.off a j e le)

    taken : (i : ℕ) → i < top → slice_index (take top path) i ≡ slice_index path i
    taken i less = get_or-take top path i 0 less

    taken_less : (i : ℕ) → i < length (take top path) → i < top
    taken_less i less = let l : length (take top path) ≡ top = length-take-le top path (let in' = top_in in omega arith) in omega arith

    less_taken : (i : ℕ) → i < top → i < length (take top path)
    less_taken i less = let l : length (take top path) ≡ top = length-take-le top path (let in' = top_in in omega arith) in omega arith

    on_path : (i : ℕ) → i < top → i < length path
    on_path i less = let in' = top_in in omega arith

    pub closed_path : IsPath graph after followed (take top path) others rest
    closed_path = record {
      state_each = closed.each ∙ was.state_each;
      followed_each = was.followed_each;
      unseen = λ a e. was.unseen a (back_unseen a e);
      place_of = λ a i e. let b = back_place a i e in (less_taken i b.1, taken i b.1 ∙ (was.place_of a i b.0).1);
      node_at = λ i less. let l = taken_less i less in let at = was.node_at i (on_path i l) in subst (λ p. (p < length graph) × (state_of after p ≡ OnPath i)) (sym (taken i l)) (at.0, closed.on (slice_index path i) i at.1 l);
      starts_rise = rises_front starts others top begins was.starts_rise;
      starts_pending = λ s c. start s c (front_or_last pending rest top s last (was.starts_pending s (in_front starts others top s begins c)));
      pending_rise = rises_front pending rest top last was.pending_rise;
      pending_in = λ i c. less_taken i (rest_below i c);
      begun = λ i less. let l = taken_less i less in let b = was.begun i (on_path i l) in (b.0, other_start b.0 (let low : b.0 ≤ i = b.2 in omega arith) b.1, b.2);
      spent = λ i less absent. let l = taken_less i less in subst (IsSpent graph followed) (sym (taken i l)) (spent_from i (on_path i l) absent);
      leads = λ i less. let l = taken_less i less in subst (LeadsOn graph after followed others i) (sym (taken i l)) (λ e f g. met i _ (was.leads i (on_path i l) e f g));
      reached = λ i j less less' nb. reached i j (taken_less i less) (taken_less j less') nb;
    }
      where
        start : (s : ℕ) → Contains others s → Contains rest s ⊎ (top ≡ s) → Contains rest s
        start s c (inl d) = d
        start s c (inr e) = let less = others_below s c in absurd (omega arith)

        reached : (i j : ℕ) → i < top → j < top → IsNotBefore others i j → Reaches (HasEdge graph) (slice_index (take top path) i) (slice_index (take top path) j)
        reached i j l k nb =
            subst (λ p. Reaches (HasEdge graph) p (slice_index (take top path) j)) (sym (taken i l)) (subst (Reaches (HasEdge graph) (slice_index path i)) (sym (taken j k))
            (was.reached i j (on_path i l) (on_path j k) (λ s c le. nb s (other_start s (omega arith) c) le)))

    module _ (heads more : List ℕ) (whole : AreWhole graph state heads) (number : class ≡ length heads) (more_is : more ≡ heads ++ slice_index path top ∷ []) where
      length_more : length more ≡ length heads + 1
      length_more = ap length more_is ∙ length_push heads (slice_index path top)

      -- what a node in a class reaches is in one
      in_class : {a b : ℕ} → Reaches (HasEdge graph) a b → (g : ℕ) × (state_of state a ≡ InClass g) → (g : ℕ) × (state_of state b ≡ InClass g)
      in_class r p = reaches_closed (HasEdge graph) (λ a. (g : ℕ) × (state_of state a ≡ InClass g)) (λ a b q edge. let d = whole.down a b q.0 q.1 edge in (d.0, d.1)) r p

      within : (a h : ℕ) → WasIn a h → (a < length graph) × (h < length more)
      within a h (inl e) = let w = whole.within a h e in let low : h < length heads = w.1 in let l = length_more in (w.0, omega arith)
      within a h (inr (same, (i, e, le))) =
          let at = was.place_of a i e in
          let l = length_more in
          (subst (λ p. p < length graph) at.1 (was.node_at i at.0).0, omega arith)

      some : (h : ℕ) → h < length more → state_of after (slice_index more h) ≡ InClass h
      some h less = by (before_or (length heads) h (subst (λ n. h < n) length_more less))
        where
          by : (h < length heads) ⊎ (h ≡ length heads) → state_of after (slice_index more h) ≡ InClass h
          by (inl l) = ap (λ xs. state_of after (slice_index xs h)) more_is ∙ ap (state_of after) (push_old heads (slice_index path top) h l) ∙ closed.whole (slice_index heads h) h (whole.some h l)
          by (inr e) =
              ap (λ xs. state_of after (slice_index xs h)) more_is ∙ ap (λ k. state_of after (slice_index (heads ++ slice_index path top ∷ []) k)) e ∙ ap (state_of after) (push_last heads (slice_index path top))
              ∙ closed.off (slice_index path top) top (was.node_at top top_in).1 (omega arith) ∙ ap InClass (number ∙ sym e)

      down : (a b h : ℕ) → WasIn a h → HasEdge graph a b → (k : ℕ) × (state_of after b ≡ InClass k) × (k ≤ h)
      down a b h (inl e) edge = let d = whole.down a b h e edge in (d.0, closed.whole b d.0 d.1, d.2)
      down a b h (inr (same, (i, e, le))) edge =
          let at = was.place_of a i e in
          let place = place_in (successors graph a) b edge in
          let all : IsSpent graph followed a = subst (IsSpent graph followed) at.1 (spent_from i at.0 (λ c. let less = rest_below i c in omega arith)) in
          let leads : LeadsOn graph state followed starts i a = subst (LeadsOn graph state followed starts i) at.1 (was.leads i at.0) in
          let within : place.0 < length (successors graph a) = place.1 in
          by (subst (IsMet state starts i) place.2 (leads place.0 (omega arith) within))
        where
          by : IsMet state starts i b → (k : ℕ) × (state_of after b ≡ InClass k) × (k ≤ h)
          by (inl (k, f)) = let low : k < length heads = (whole.within b k f).1 in (k, closed.whole b k f, omega arith)
          by (inr (j, f, nb)) = (class, closed.off b j f (nb top top_start le), omega arith)

      apart : (a b i h : ℕ) → state_of state a ≡ OnPath i → state_of state b ≡ InClass h → Reaches (HasEdge graph) b a → ⊥
      apart a b i h e f r = let p = in_class r (h, f) in place_class i p.0 (sym e ∙ p.1)

      across : (a b i j : ℕ) → state_of state a ≡ OnPath i → state_of state b ≡ OnPath j → top ≤ j → Reaches (HasEdge graph) a b
      across a b i j e f le =
          let at = was.place_of a i e in
          let to = was.place_of b j f in
          subst (λ p. Reaches (HasEdge graph) p b) at.1 (subst (Reaches (HasEdge graph) (slice_index path i)) to.1 (was.reached i j at.0 to.0 (λ s c low. let upto = starts_upto s c in omega arith)))

      together : (a b h k : ℕ) → WasIn a h → WasIn b k → (h ≡ k) ↔ AreTogether (HasEdge graph) a b
      together a b h k (inl e) (inl f) = whole.together a b h k e f
      together a b h k (inr (same, (i, e, le))) (inr (same', (j, f, le'))) = (λ g. (across a b i j e f le', across b a j i f e le), λ g. same ∙ sym same')
      together a b h k (inr (same, (i, e, le))) (inl f) = let low : k < length heads = (whole.within b k f).1 in (λ g. absurd (omega arith), λ g. absurd (apart a b i k e f g.1))
      together a b h k (inl e) (inr (same', (j, f, le'))) = let low : h < length heads = (whole.within a h e).1 in (λ g. absurd (omega arith), λ g. absurd (apart b a j h f e g.0))

      pub closed_whole : AreWhole graph after more
      closed_whole = record {
        within = λ a h e. within a h (back_class a h e);
        some = some;
        down = λ a b h e edge. down a b h (back_class a h e) edge;
        together = λ a b h k e f. together a b h k (back_class a h e) (back_class b k f);
      }
