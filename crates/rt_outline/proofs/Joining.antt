-- Graphs of pairs, and the numbers of their groups.
use Rattle.std.proofs.Common.{◌≡◌, ℕ, ◌+◌, ◌<◌, ◌≤◌, ◌⊎◌, inl, inr, List, [], ◌∷◌, ◌++◌, Contains, length, get_or, set, take, refl, sym, ap}
use Rattle.std.proofs.Common.{subst, ◌∙◌, arith, get_or-set_same, get_or-set_other}
use Rattle.std.specs.Prelude.{◌↔◌}
use Rattle.std.proofs.Math.ListN.{length-set}
use Rattle.std.proofs.lemmas.Bool.{cases_eq}
use Rattle.std.proofs.lemmas.List.{get_or_default, get_or_past, take_more}
use Rattle.std.proofs.lemmas.List.Elements.{Contains-append_left, Contains-push, Contains-push_cases}
use Rattle.rt_base.proofs.Lists.{Contains-none}
use Rattle.rt_components.proofs.Reaching.{reaches_by}
use Rattle.rt_components.specs.Graphs.{HasEdge}
use Rattle.rt_components.specs.Groups.{AreGroups, AreTogether, IsAmongFirst, group_at}
use Rattle.rt_outline.specs.Together.{HasPair, AreTogetherBy, IsGraphOf, IsFilled, AreGroupNumbers}

pub graph_none : (count : ℕ) (graph : List (List ℕ)) → length graph ≡ count → ((u : ℕ) → get_or graph u [] ≡ []) → IsGraphOf [] count graph
graph_none count graph e none = record {
  each = e;
  all = λ v w h. absurd (Contains-none (v, w) h);
  only = λ v w c. absurd (Contains-none w (subst (λ xs. Contains xs w) (none v) c));
}

-- a pair adds its edge
pub graph_more : (seen : List (ℕ × ℕ)) (from to count : ℕ) (graph : List (List ℕ)) → from < length graph → IsGraphOf seen count graph →
    IsGraphOf (seen ++ (from, to) ∷ []) count (set graph from (get_or graph from [] ++ to ∷ []))
graph_more seen from to count graph room are = record {
  each = length-set graph from (get_or graph from [] ++ to ∷ []) ∙ are.each;
  all = λ v w h. (elim (Contains-push_cases seen (from, to) (v, w) h) [
    | inl c ↦ kept v w (are.all v w c) (cases_eq v from)
    | inr f ↦ added v w (ap (λ (p : ℕ × ℕ). p.0) f) (ap (λ (p : ℕ × ℕ). p.1) f)
  ]);
  only = λ v w c. only v w c (cases_eq v from);
}
  where
    here : get_or (set graph from (get_or graph from [] ++ to ∷ [])) from [] ≡ get_or graph from [] ++ to ∷ []
    here = get_or-set_same graph from (get_or graph from [] ++ to ∷ []) [] room

    at : (v : ℕ) → v ≡ from → get_or (set graph from (get_or graph from [] ++ to ∷ [])) v [] ≡ get_or graph from [] ++ to ∷ []
    at v f = ap (λ u. get_or (set graph from (get_or graph from [] ++ to ∷ [])) u []) f ∙ here

    kept : (v w : ℕ) → HasEdge graph v w → (v ≡ from) ⊎ (v ≡ from → ⊥) → HasEdge (set graph from (get_or graph from [] ++ to ∷ [])) v w
    kept v w c (inl f) =
        subst (λ xs. Contains xs w) (sym (at v f))
        (Contains-append_left (get_or graph from []) (to ∷ []) w (subst (λ u. Contains (get_or graph u []) w) f c))
    kept v w c (inr n) =
        subst (λ xs. Contains xs w) (sym (get_or-set_other graph from v (get_or graph from [] ++ to ∷ []) [] n)) c

    added : (v w : ℕ) → from ≡ v → to ≡ w → HasEdge (set graph from (get_or graph from [] ++ to ∷ [])) v w
    added v w f g =
        subst (λ xs. Contains xs w) (sym (at v (sym f)))
        (subst (Contains (get_or graph from [] ++ to ∷ [])) g (Contains-push (get_or graph from []) to))

    own : (v w : ℕ) → from ≡ v → to ≡ w → Contains (seen ++ (from, to) ∷ []) (v, w)
    own v w f g = subst (λ (p : ℕ × ℕ). Contains (seen ++ (from, to) ∷ []) p) (λ i. (f i, g i)) (Contains-push seen (from, to))

    only : (v w : ℕ) → HasEdge (set graph from (get_or graph from [] ++ to ∷ [])) v w → (v ≡ from) ⊎ (v ≡ from → ⊥) →
        Contains (seen ++ (from, to) ∷ []) (v, w)
    only v w c (inl f) =
        elim (Contains-push_cases (get_or graph from []) to w (subst (λ xs. Contains xs w) (at v f) c)) [
          | inl d ↦ Contains-append_left seen ((from, to) ∷ []) (v, w)
              (are.only v w (subst (λ u. Contains (get_or graph u []) w) (sym f) d))
          | inr g ↦ own v w (sym f) g
        ]
    only v w c (inr n) =
        Contains-append_left seen ((from, to) ∷ []) (v, w)
        (are.only v w (subst (λ xs. Contains xs w) (get_or-set_other graph from v (get_or graph from [] ++ to ∷ []) [] n) c))

pub filled_none : (k : ℕ) (numbers : List ℕ) → IsFilled [] k numbers numbers
filled_none k numbers = record { each = refl; set = λ a c. absurd (Contains-none a c); either = λ a. inr refl }

pub filled_next : (group : List ℕ) (i k : ℕ) (old mid : List ℕ) → i < length group → get_or group i 0 < length mid → IsFilled
    (take i group) k old mid → IsFilled (take (i + 1) group) k old (set mid (get_or group i 0) k)
filled_next group i k old mid h room are = record {
  each = length-set mid (get_or group i 0) k ∙ are.each;
  set = λ a c. written a c (cases_eq a (get_or group i 0));
  either = λ a. either a (cases_eq a (get_or group i 0));
}
  where
    next : take (i + 1) group ≡ take i group ++ get_or group i 0 ∷ []
    next = take_more group i 0 h

    here : (a : ℕ) → a ≡ get_or group i 0 → get_or (set mid (get_or group i 0) k) a 0 ≡ k
    here a e = ap (λ b. get_or (set mid (get_or group i 0) k) b 0) e ∙ get_or-set_same mid (get_or group i 0) k 0 room

    written : (a : ℕ) → Contains (take (i + 1) group) a → (a ≡ get_or group i 0) ⊎ (a ≡ get_or group i 0 → ⊥) → get_or (set mid
        (get_or group i 0) k) a 0 ≡ k
    written a c (inl e) = here a e
    written a c (inr n) = elim (Contains-push_cases (take i group) (get_or group i 0) a (subst (λ xs. Contains xs a) next c)) [
      | inl d ↦ get_or-set_other mid (get_or group i 0) a k 0 n ∙ are.set a d
      | inr e ↦ absurd (n (sym e))
    ]

    either : (a : ℕ) → (a ≡ get_or group i 0) ⊎ (a ≡ get_or group i 0 → ⊥) → (Contains (take (i + 1) group) a × (get_or (set mid
        (get_or group i 0) k) a 0 ≡ k)) ⊎ (get_or (set mid (get_or group i 0) k) a 0 ≡ get_or old a 0)
    either a (inl e) = inl (
      subst (λ xs. Contains xs a) (sym next) (subst (Contains (take i group ++ get_or group i 0 ∷ [])) (sym e)
          (Contains-push (take i group) (get_or group i 0))),
      here a e,
    )
    either a (inr n) = elim (are.either a) [
      | inl p ↦ inl (
        subst (λ xs. Contains xs a) (sym next) (Contains-append_left (take i group)
            (get_or group i 0 ∷ []) a p.0),
        get_or-set_other mid (get_or group i 0) a k 0 n ∙ p.1,
      )
      | inr e ↦ inr (get_or-set_other mid (get_or group i 0) a k 0 n ∙ e)
    ]

pub groups_first : (count : ℕ) (groups : List (List ℕ)) (numbers : List ℕ) → length numbers ≡ count → AreGroupNumbers count groups 0 numbers
groups_first count groups numbers e = record { each = e; member = λ a r. absurd (omega (arith, r.1)) }

pub groups_next : (count : ℕ) (groups : List (List ℕ)) (k : ℕ) (group old new : List ℕ) → group ≡ group_at groups k →
    IsFilled group k old new → AreGroupNumbers count groups k old → AreGroupNumbers count groups (k + 1) new
groups_next count groups k group old new e n are = record { each = n.each ∙ are.each; member = λ a r. member a r (cases_eq r.0 k) }
  where
    member : (a : ℕ) (r : IsAmongFirst groups (k + 1) a) → (r.0 ≡ k) ⊎ (r.0 ≡ k → ⊥) → Contains (group_at groups (get_or new a 0)) a
    member a r (inl f) =
        let c : Contains (group_at groups k) a = subst (λ j. Contains (group_at groups j) a) f r.2 in
        subst (λ j. Contains (group_at groups j) a) (sym (n.set a (subst (λ xs. Contains xs a) (sym e) c))) c
    member a r (inr m) = elim (n.either a) [
      | inl p ↦ subst (λ j. Contains (group_at groups j) a) (sym p.1) (subst (λ xs. Contains xs a) e p.0)
      | inr f ↦ subst (λ j. Contains (group_at groups j) a) (sym f) (are.member a (r.0, omega (arith, r.1, m), r.2))
    ]

-- numbers of groups are equal exactly where pairs lead both ways
pub together_whole : (pairs : List (ℕ × ℕ)) (count : ℕ) (graph groups : List (List ℕ)) (numbers : List ℕ) → IsGraphOf pairs count graph →
    AreGroups (length graph) (HasEdge graph) groups → AreGroupNumbers count groups (length groups) numbers →
    AreTogetherBy (HasPair pairs) count numbers
together_whole pairs count graph groups numbers is are of = record {
  each = of.each;
  equal = λ i j h k. (let t : (get_or numbers i 0 ≡ get_or numbers j 0) ↔ AreTogether (HasEdge graph) i j =
      are.together (get_or numbers i 0) (get_or numbers j 0) i j (at i h) (at j k) in (
        λ e. (let p : AreTogether (HasEdge graph) i j = t.0 e in (
          reaches_by (HasEdge graph) (HasPair pairs) is.only p.0,
          reaches_by (HasEdge graph) (HasPair pairs) is.only p.1,
        )),
        λ p. t.1 (reaches_by (HasPair pairs) (HasEdge graph) is.all p.0, reaches_by (HasPair pairs) (HasEdge graph) is.all p.1),
      ));
}
  where
    at : (i : ℕ) → i < count → Contains (group_at groups (get_or numbers i 0)) i
    at i h = of.member i ((are.nodes i).0 (subst (λ n. i < n) (sym is.each) h))

-- members of groups are nodes
pub in_group : (graph groups : List (List ℕ)) → AreGroups (length graph) (HasEdge graph) groups → (k a : ℕ) → Contains
    (group_at groups k) a → a < length graph
in_group graph groups are k a c = elim (below k (length groups)) [
  | inl h ↦ (are.nodes a).1 (k, h, c)
  | inr h ↦ absurd (Contains-none a (subst (λ (xs : List ℕ). Contains xs a) (get_or_past groups k [] h) c))
]
  where
    below : (i n : ℕ) → (i < n) ⊎ (n ≤ i)
    below i n = grind arith

-- what is read of a list of groups
pub group_read : (groups read : List (List ℕ)) (k : ℕ) (item group : List ℕ) → read ≡ groups → k < length groups →
    item ≡ get_or read k item → group ≡ item → group ≡ group_at groups k
group_read groups read k item group e h i g = g ∙ i ∙ ap (λ xs. get_or xs k item) e ∙ get_or_default groups k item [] h

-- a node's number is that of a group
pub few_groups : (graph groups : List (List ℕ)) (count : ℕ) (numbers : List ℕ) → AreGroups (length graph) (HasEdge graph) groups →
    length graph ≡ count → AreGroupNumbers count groups (length groups) numbers → (v : ℕ) → v < count → get_or numbers v 0 < length groups
few_groups graph groups count numbers are size of v h = by (below (get_or numbers v 0) (length groups))
  where
    below : (i n : ℕ) → (i < n) ⊎ (n ≤ i)
    below i n = grind arith

    member : Contains (group_at groups (get_or numbers v 0)) v
    member = of.member v ((are.nodes v).0 (subst (λ n. v < n) (sym size) h))

    by : (get_or numbers v 0 < length groups) ⊎ (length groups ≤ get_or numbers v 0) → get_or numbers v 0 < length groups
    by (inl l) = l
    by (inr l) = absurd (Contains-none v (subst (λ (xs : List ℕ). Contains xs v) (get_or_past groups (get_or numbers v 0) [] l) member))

pub pair_next : (pairs : List (ℕ × ℕ)) (i : ℕ) → i < length pairs → take (i + 1) pairs ≡ take i pairs ++ get_or pairs i (0, 0) ∷ []
pair_next pairs i h = take_more pairs i (0, 0) h
