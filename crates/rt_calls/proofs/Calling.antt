-- The groups that groups call, by their places.
use Rattle.std.proofs.Common.{◌≡◌, ◌≢◌, ℕ, ◌+◌, ◌<◌, ◌≤◌, ◌⊎◌, inl, inr, ◌↔◌, List, [], ◌∷◌, ◌++◌, length, slice_index, Contains, sym, ap, subst, ◌∙◌, arith}
use Rattle.std.specs.List.Sorted.{IsStrictlyIncreasing}
use Rattle.std.proofs.lemmas.Bool.{cases_lt}
use Rattle.std.proofs.lemmas.List.{ext_get_or, get_or_append_left, get_or_past, get_or_push, length_push}
use Rattle.std.proofs.lemmas.List.Elements.{Contains-append_left, Contains-push, Contains-push_cases}
use Rattle.rt_base.proofs.Lists.{Contains-none}
use Rattle.rt_base.proofs.Numbers.{before_or}
use Rattle.rt_components.specs.Graphs.{successors}
use Rattle.rt_components.specs.Groups.{IsAmongFirst, group_at}
use Rattle.rt_components.proofs.Unique.{rises, same_ascending}
use Rattle.rt_proc.specs.declared.proc.Proc as procedure
use Rattle.rt_calls.specs.Calls.{AreGroupsOf, Calls, IsCallGraph}
use Rattle.rt_calls.specs.Callees.{AreCalleesOf, CallsGroup, CalleesFirst, OneCallees}
use Rattle.rt_calls.specs.Inside.Places.{AddsPlaces, ArePlaces, ArePlacesOf, HavePlace, LeadToPlace}
use Rattle.rt_calls.proofs.Placing.{one_group, within}

pub adds_none : (places : List ℕ) (own : ℕ) (old : List ℕ) → AddsPlaces places own [] old old
adds_none places own old c = (λ d. inl d, back)
  where
    back : Contains old c ⊎ ((c ≢ own) × HavePlace places [] c) → Contains old c
    back (inl d) = d
    back (inr (ne, (q, d, e))) = absurd (Contains-none q d)

module _ (places : List ℕ) (own : ℕ) (nodes old mid : List ℕ) (adds : AddsPlaces places own nodes old mid) (q : ℕ) where
  more : (c : ℕ) → HavePlace places nodes c → HavePlace places (nodes ++ q ∷ []) c
  more c (p, d, e) = (p, Contains-append_left nodes (q ∷ []) p d, e)

  -- a node of another group
  pub adds_other : slice_index places q ≢ own → AddsPlaces places own (nodes ++ q ∷ []) old (mid ++ slice_index places q ∷ [])
  adds_other other c = (λ d. on (Contains-push_cases mid (slice_index places q) c d), back)
    where
      new : List ℕ
      new = mid ++ slice_index places q ∷ []

      on : Contains mid c ⊎ (slice_index places q ≡ c) → Contains old c ⊎ ((c ≢ own) × HavePlace places (nodes ++ q ∷ []) c)
      on (inl d) = known ((adds c).0 d)
        where
          known : Contains old c ⊎ ((c ≢ own) × HavePlace places nodes c) → Contains old c ⊎ ((c ≢ own) × HavePlace places (nodes ++ q ∷ []) c)
          known (inl e) = inl e
          known (inr (ne, have)) = inr (ne, more c have)
      on (inr e) = inr (λ f. other (e ∙ f), (q, Contains-push nodes q, e))

      kept : Contains mid c → Contains new c
      kept d = Contains-append_left mid (slice_index places q ∷ []) c d

      back : Contains old c ⊎ ((c ≢ own) × HavePlace places (nodes ++ q ∷ []) c) → Contains new c
      back (inl d) = kept ((adds c).1 (inl d))
      back (inr (ne, (p, d, e))) = by (Contains-push_cases nodes q p d)
        where
          by : Contains nodes p ⊎ (q ≡ p) → Contains new c
          by (inl f) = kept ((adds c).1 (inr (ne, (p, f, e))))
          by (inr f) = subst (Contains new) (ap (slice_index places) f ∙ e) (Contains-push mid (slice_index places q))

  -- a node of the group itself
  pub adds_own : slice_index places q ≡ own → AddsPlaces places own (nodes ++ q ∷ []) old mid
  adds_own same c = (λ d. on ((adds c).0 d), back)
    where
      on : Contains old c ⊎ ((c ≢ own) × HavePlace places nodes c) → Contains old c ⊎ ((c ≢ own) × HavePlace places (nodes ++ q ∷ []) c)
      on (inl e) = inl e
      on (inr (ne, have)) = inr (ne, more c have)

      back : Contains old c ⊎ ((c ≢ own) × HavePlace places (nodes ++ q ∷ []) c) → Contains mid c
      back (inl d) = (adds c).1 (inl d)
      back (inr (ne, (p, d, e))) = by (Contains-push_cases nodes q p d)
        where
          by : Contains nodes p ⊎ (q ≡ p) → Contains mid c
          by (inl f) = (adds c).1 (inr (ne, (p, f, e)))
          by (inr f) = absurd (ne (sym e ∙ ap (slice_index places) (sym f) ∙ same))

module _ (graph : List (List ℕ)) (places : List ℕ) (own : ℕ) where
  pub found_none : ArePlacesOf graph places own [] []
  found_none c = (λ d. absurd (Contains-none c d), λ (ne, (p, d, have)). absurd (Contains-none p d))

  -- a member more
  pub found_more : (nodes old new : List ℕ) (p : ℕ) → ArePlacesOf graph places own nodes old → AddsPlaces places own (successors graph p) old new → ArePlacesOf graph places own (nodes ++ p ∷ []) new
  found_more nodes old new p found adds c = (λ d. on ((adds c).0 d), back)
    where
      on : Contains old c ⊎ ((c ≢ own) × HavePlace places (successors graph p) c) → (c ≢ own) × LeadToPlace graph places (nodes ++ p ∷ []) c
      on (inl d) = let is = (found c).0 d in (is.0, (is.1.0, Contains-append_left nodes (p ∷ []) is.1.0 is.1.1, is.1.2))
      on (inr (ne, have)) = (ne, (p, Contains-push nodes p, have))

      back : (c ≢ own) × LeadToPlace graph places (nodes ++ p ∷ []) c → Contains new c
      back (ne, (o, d, have)) = by (Contains-push_cases nodes p o d)
        where
          by : Contains nodes o ⊎ (p ≡ o) → Contains new c
          by (inl e) = (adds c).1 (inl ((found c).1 (ne, (o, e, have))))
          by (inr e) = (adds c).1 (inr (ne, subst (λ i. HavePlace places (successors graph i) c) (sym e) have))

  -- another list of the same numbers
  pub found_same : (nodes old new : List ℕ) → ((n : ℕ) → Contains new n ↔ Contains old n) → ArePlacesOf graph places own nodes old → ArePlacesOf graph places own nodes new
  found_same nodes old new same found c = (λ d. (found c).0 ((same c).0 d), λ h. (same c).1 ((found c).1 h))

-- the lists of the groups before one
pub record AreCalleesTo (graph : List (List ℕ)) (places : List ℕ) (groups : List (List ℕ)) (upto : ℕ) (callees : List (List ℕ)) : Type 0 where
  pub each : length callees ≡ upto
  pub ascending : (g : ℕ) → IsStrictlyIncreasing (group_at callees g)
  pub found : (g : ℕ) → g < upto → ArePlacesOf graph places g (group_at groups g) (group_at callees g)

no_numbers : IsStrictlyIncreasing []
no_numbers k less = absurd (omega arith)

module _ (graph : List (List ℕ)) (places : List ℕ) (groups : List (List ℕ)) where
  pub callees_none : (callees : List (List ℕ)) → callees ≡ [] → AreCalleesTo graph places groups 0 callees
  callees_none callees is = record {
    each = ap length is;
    ascending = λ g. subst IsStrictlyIncreasing (sym (none g)) no_numbers;
    found = λ g less. absurd (omega arith);
  }
    where
      none : (g : ℕ) → group_at callees g ≡ []
      none g = ap (λ xs. group_at xs g) is ∙ get_or_past [] g [] (omega arith)

  -- a group more
  pub callees_more : (g : ℕ) (callees : List (List ℕ)) (list : List ℕ) → AreCalleesTo graph places groups g callees → IsStrictlyIncreasing list → ArePlacesOf graph places g (group_at groups g) list → AreCalleesTo graph places groups (g + 1) (callees ++ list ∷ [])
  callees_more g callees list are up found = record {
    each = length_push callees list ∙ ap (λ n. n + 1) are.each;
    ascending = λ h. ascending h (cases_lt h (g + 1));
    found = λ h less. found_at h (before_or g h less);
  }
    where
      new : List (List ℕ)
      new = callees ++ list ∷ []

      old : (h : ℕ) → h < g → group_at new h ≡ group_at callees h
      old h less = get_or_append_left callees (list ∷ []) [] h (subst (λ n. h < n) (sym are.each) less)

      last : (h : ℕ) → h ≡ g → group_at new h ≡ list
      last h e = get_or_push callees list [] h (are.each ∙ sym e)

      ascending : (h : ℕ) → (h < g + 1) ⊎ (g + 1 ≤ h) → IsStrictlyIncreasing (group_at new h)
      ascending h (inl less) = by (before_or g h less)
        where
          by : (h < g) ⊎ (h ≡ g) → IsStrictlyIncreasing (group_at new h)
          by (inl low) = subst IsStrictlyIncreasing (sym (old h low)) (are.ascending h)
          by (inr e) = subst IsStrictlyIncreasing (sym (last h e)) up
      ascending h (inr le) =
          let whole : length new ≡ length callees + 1 = length_push callees list in
          let each : length callees ≡ g = are.each in
          subst IsStrictlyIncreasing (sym (get_or_past new h [] (omega arith))) no_numbers

      found_at : (h : ℕ) → (h < g) ⊎ (h ≡ g) → ArePlacesOf graph places h (group_at groups h) (group_at new h)
      found_at h (inl low) = subst (ArePlacesOf graph places h (group_at groups h)) (sym (old h low)) (are.found h low)
      found_at h (inr e) = subst (ArePlacesOf graph places h (group_at groups h)) (sym (last h e)) (subst (λ i. ArePlacesOf graph places i (group_at groups i) list) (sym e) found)

-- the lists of all groups
pub callees_all : (procs : List procedure.Proc) (graph groups : List (List ℕ)) (places : List ℕ) (callees : List (List ℕ)) → AreGroupsOf procs groups → IsCallGraph procs graph → ArePlaces groups (length procs) (length groups) places →
    AreCalleesTo graph places groups (length groups) callees → AreCalleesOf procs groups callees
callees_all procs graph groups places callees are is at to = record {
  one_each = to.each;
  ascending = to.ascending;
  called = λ g c less. (λ d. on g c ((to.found g less c).0 d), λ h. (to.found g less c).1 (h.0, back g c h.1));
}
  where
    on : (g c : ℕ) → (c ≢ g) × LeadToPlace graph places (group_at groups g) c → (c ≢ g) × CallsGroup procs groups g c
    on g c (ne, (p, member, (q, edge, place))) = (
      ne,
      record {
        from = p;
        to = q;
        is_member = member;
        is_other = other ((are.nodes q).0 calls.0);
        calls = calls;
      },
    )
      where
        calls : Calls procs p q
        calls = is.only p q edge

        other : IsAmongFirst groups (length groups) q → Contains (group_at groups c) q
        other (i, less, d) = subst (λ j. Contains (group_at groups j) q) (sym (at.members i q less d) ∙ place) d

    back : (g c : ℕ) → CallsGroup procs groups g c → LeadToPlace graph places (group_at groups g) c
    back g c calls = (calls.from, calls.is_member, (calls.to, is.found calls.from calls.to calls.calls, at.members c calls.to (within groups c calls.to calls.is_other) calls.is_other))

pub callees_first : CalleesFirst
callees_first procs groups callees are of g c d = by ((of.called g c less).0 d)
  where
    less : g < length groups
    less = subst (λ n. g < n) of.one_each (within callees g c d)

    by : (c ≢ g) × CallsGroup procs groups g c → c < g
    by (ne, calls) = at (are.may g less calls.from calls.to calls.is_member calls.calls)
      where
        same : (i : ℕ) → Contains (group_at groups i) calls.to → c ≡ i
        same i e = one_group (length procs) (Calls procs) groups are c i calls.to calls.is_other e

        at : Contains (group_at groups g) calls.to ⊎ IsAmongFirst groups g calls.to → c < g
        at (inl e) = absurd (ne (same g e))
        at (inr (i, low, e)) = subst (λ j. j < g) (sym (same i e)) low

pub one_callees : OneCallees
one_callees procs groups first second one two = ext_get_or [] first second (one.one_each ∙ sym two.one_each) (λ g less. at g (subst (λ n. g < n) one.one_each less))
  where
    at : (g : ℕ) → g < length groups → group_at first g ≡ group_at second g
    at g less = same_ascending (group_at first g) (group_at second g) (rises (group_at first g) (one.ascending g)) (rises (group_at second g) (two.ascending g))
        (λ c d. (two.called g c less).1 ((one.called g c less).0 d)) (λ c d. (one.called g c less).1 ((two.called g c less).0 d))
