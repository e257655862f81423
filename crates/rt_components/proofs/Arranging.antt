-- Classes in order, by their members, are the groups.
use Rattle.std.proofs.Common.{◌≡◌, ℕ, ◌<◌, ◌≤◌, ◌⊎◌, ◌↔◌, inl, inr, List, [], length, slice_index, map, Contains, sym, ap, subst, ◌∙◌, arith}
use Rattle.std.specs.List.Sorted.{IsStrictlyIncreasing}
use Rattle.std.proofs.lemmas.Bool.{cases_eq, cases_lt, cases_order}
use Rattle.std.proofs.lemmas.List.{get_or-map, get_or_past, length-map}
use Rattle.rt_components.specs.Graphs.{HasEdge}
use Rattle.rt_components.specs.Groups.{AreTogether, AreGroups, IsAmongFirst, MayCome, group_at}
use Rattle.rt_components.specs.Inside.Classes.{AreClasses, AreMembers, AreSuccessors}
use Rattle.rt_components.specs.Inside.Orders.{least_of, IsBefore, AreLinked, AreAllInOrder}
use Rattle.rt_components.proofs.Numbers.{place_in, contains_at}
use Rattle.rt_base.proofs.Lists.{Contains-none}

-- a list that contains something is not empty
pub not_empty : (xs : List ℕ) (a : ℕ) → Contains xs a → 0 < length xs
not_empty xs a c = let place = place_in xs a c in let less : place.0 < length xs = place.1 in omega arith

-- an edge leads from a node
pub edge_from : (graph : List (List ℕ)) (a b : ℕ) → HasEdge graph a b → a < length graph
edge_from graph a b edge = by (cases_lt a (length graph))
  where
    by : (a < length graph) ⊎ (length graph ≤ a) → a < length graph
    by (inl less) = less
    by (inr le) = absurd (Contains-none b (subst (λ xs. Contains xs b) (get_or_past graph a [] le) edge))

module _ (graph : List (List ℕ)) (class : List ℕ) (count : ℕ) (members others : List (List ℕ)) (classes : AreClasses graph class count)
    (are : AreMembers class count (length class) members) (leads : AreSuccessors graph class count (length graph) others) where
  member_of : (a : ℕ) → a < length graph → Contains (group_at members (slice_index class a)) a
  member_of a less = are.found a (let each = classes.each in omega arith)

  pub are_linked : AreLinked class members others
  are_linked = record {
    each = are.each ∙ sym leads.each;
    full = λ k less. full k (subst (λ n. k < n) leads.each less);
    known = λ k less. are.only k (least_of members k) (contains_at (group_at members k) 0 (full k (subst (λ n. k < n) leads.each less)));
    down = λ k h c. down k h (leads.only k h c);
  }
    where
      full : (k : ℕ) → k < count → 0 < length (group_at members k)
      full k less = let some = classes.some k less in not_empty (group_at members k) some.0 (subst (λ j. Contains (group_at members j) some.0) some.2 (member_of some.0 some.1))

      down : (k h : ℕ) → (a : ℕ) × (b : ℕ) × HasEdge graph a b × (slice_index class a ≡ k) × (slice_index class b ≡ h) × (h ≡ k → ⊥) → h < k
      down k h (a, b, edge, e, f, ne) = let low : slice_index class b ≤ slice_index class a = (classes.down a b edge).1 in by (cases_lt h k) low
        where
          by : (h < k) ⊎ (k ≤ h) → slice_index class b ≤ slice_index class a → h < k
          by (inl less) low = less
          by (inr le) low = absurd (ne (omega arith))

  module _ (order : List ℕ) (ordered : AreAllInOrder others members order) where
    length_groups : length (map (group_at members) order) ≡ length order
    length_groups = length-map order (group_at members)

    at : (i : ℕ) → i < length order → group_at (map (group_at members) order) i ≡ group_at members (slice_index order i)
    at i less = get_or-map (group_at members) order i 0 [] less

    inside : (i a : ℕ) → Contains (group_at (map (group_at members) order) i) a → (i < length order) × (a < length graph) × (slice_index class a ≡ slice_index order i)
    inside i a c = by (cases_lt i (length order))
      where
        by : (i < length order) ⊎ (length order ≤ i) → (i < length order) × (a < length graph) × (slice_index class a ≡ slice_index order i)
        by (inl less) = let o = are.only (slice_index order i) a (subst (λ xs. Contains xs a) (at i less) c) in (less, subst (λ n. a < n) classes.each o.0, o.1)
        by (inr le) = absurd (Contains-none a (subst (λ xs. Contains xs a) (get_or_past (map (group_at members) order) i [] (let l = length_groups in omega arith)) c))

    -- where a class stands
    there : (i a : ℕ) → i < length order → a < length graph → slice_index order i ≡ slice_index class a → Contains (group_at (map (group_at members) order) i) a
    there i a less low e = subst (λ xs. Contains xs a) (sym (at i less)) (subst (λ k. Contains (group_at members k) a) (sym e) (member_of a low))

    place : (a : ℕ) → a < length graph → (i : ℕ) × (i < length order) × (slice_index order i ≡ slice_index class a)
    place a low = place_in order (slice_index class a) (ordered.all (slice_index class a) (subst (λ n. slice_index class a < n) (sym leads.each) (classes.within a low)))

    once : (i j : ℕ) → i < length order → j < length order → slice_index order i ≡ slice_index order j → i ≡ j
    once i j less less' e = by (cases_order i j)
      where
        by : (i ≡ j) ⊎ ((i < j) ⊎ (j < i)) → i ≡ j
        by (inl f) = f
        by (inr (inl below)) = absurd (ordered.in_order.once i j below less' e)
        by (inr (inr below)) = absurd (ordered.in_order.once j i below less (sym e))

    among : (k b : ℕ) → k ≤ length order → b < length graph → IsBefore order k (slice_index class b) → IsAmongFirst (map (group_at members) order) k b
    among k b le low (i, less, e) = (i, less, there i b (omega arith) low e)

    nodes : (a : ℕ) → (a < length graph) ↔ IsAmongFirst (map (group_at members) order) (length (map (group_at members) order)) a
    nodes a = (λ less. let p = place a less in (p.0, subst (λ n. p.0 < n) (sym length_groups) p.1, there p.0 a p.1 less p.2), λ (i, less, c). (inside i a c).1)

    together : (j k a b : ℕ) → Contains (group_at (map (group_at members) order) j) a → Contains (group_at (map (group_at members) order) k) b → (j ≡ k) ↔ AreTogether (HasEdge graph) a b
    together j k a b c d =
        let p = inside j a c in
        let q = inside k b d in
        let one = classes.together a b p.1 q.1 in
        (λ e. one.0 (p.2 ∙ ap (slice_index order) e ∙ sym q.2), λ t. once j k p.0 q.0 (sym p.2 ∙ one.1 t ∙ q.2))

    may : (k : ℕ) → k < length order → MayCome (HasEdge graph) (map (group_at members) order) k k
    may k less a b c edge = by (cases_eq (slice_index class b) (slice_index class a))
      where
        here : (k < length order) × (a < length graph) × (slice_index class a ≡ slice_index order k)
        here = inside k a c

        low : b < length graph
        low = (classes.down a b edge).0

        by : (slice_index class b ≡ slice_index class a) ⊎ (slice_index class b ≡ slice_index class a → ⊥) → Contains (group_at (map (group_at members) order) k) b ⊎ IsAmongFirst (map (group_at members) order) k b
        by (inl e) = inl (there k b less low (sym (e ∙ here.2)))
        by (inr ne) =
            let next = subst (λ j. Contains (group_at others j) (slice_index class b)) here.2 (leads.found a b here.1 edge ne) in
            inr (among k b (omega arith) low (ordered.in_order.free k less (slice_index class b) next))

    least : (k j : ℕ) → k ≤ j → j < length order → MayCome (HasEdge graph) (map (group_at members) order) k j → slice_index (group_at (map (group_at members) order) k) 0 ≤ slice_index (group_at (map (group_at members) order) j) 0
    least k j le less may_come =
        subst (λ xs. slice_index xs 0 ≤ slice_index (group_at (map (group_at members) order) j) 0) (sym (at k (omega arith)))
        (subst (λ xs. least_of members (slice_index order k) ≤ slice_index xs 0) (sym (at j less))
        (ordered.in_order.least k (slice_index order j) (omega arith) (ordered.in_order.within j less) (λ (i, low, e). ordered.in_order.once i j (omega arith) less e) (λ h c. free h (leads.only (slice_index order j) h c))))
      where
        free : (h : ℕ) → (a : ℕ) × (b : ℕ) × HasEdge graph a b × (slice_index class a ≡ slice_index order j) × (slice_index class b ≡ h) × (h ≡ slice_index order j → ⊥) → IsBefore order k h
        free h (a, b, edge, e, f, ne) = by (may_come a b (there j a less (edge_from graph a b edge) (sym e)) edge)
          where
            by : Contains (group_at (map (group_at members) order) j) b ⊎ IsAmongFirst (map (group_at members) order) k b → IsBefore order k h
            by (inl c) = absurd (ne (sym f ∙ (inside j b c).2))
            by (inr (i, low, c)) = (i, low, sym (inside i b c).2 ∙ f)

    pub are_groups : AreGroups (length graph) (HasEdge graph) (map (group_at members) order)
    are_groups = record {
      nodes = nodes;
      full = λ k less. let l = low k less in subst (λ xs. 0 < length xs) (sym (at k l)) (are_linked.full (slice_index order k) (ordered.in_order.within k l));
      ascending = λ k less. subst IsStrictlyIncreasing (sym (at k (low k less))) (are.ascending (slice_index order k));
      together = together;
      may = λ k less. may k (low k less);
      least = λ k j le less may_come. least k j le (low j less) may_come;
    }
      where
        low : (k : ℕ) → k < length (map (group_at members) order) → k < length order
        low k less = subst (λ n. k < n) length_groups less
