-- Nodes that are alike, and classes of nodes.
use Rattle.std.proofs.Common.{◌≡◌, ℕ, zero, suc, ◌+◌, ◌<◌, ◌≤◌, ◌⊎◌, inl, inr, min, max, Bool, true, false, cond, Option, Some, None, List, [], ◌∷◌, map, length, get_or, refl, sym, ap, subst, ◌∙◌, arith}
use Rattle.std.specs.List.{AllByRecursion, slice_get}
use Rattle.std.specs.Map.{lookup}
use Rattle.std.specs.Option.{option_map, option_and_then}
use Rattle.std.specs.Prelude.{slice_index}
use Rattle.std.proofs.lemmas.Bool.{cases_eq}
use Rattle.std.proofs.lemmas.Bool.Decides.{nat_tests}
use Rattle.std.proofs.lemmas.List.{length-map, get_or-map}
use Rattle.std.proofs.lemmas.List.Elements.{All-get_or}
use Rattle.std.proofs.lemmas.Option.{slice_get-get_or}
use Rattle.rt_lines.specs.declared.label.Label.{Label}
use Rattle.rt_lines.specs.Equality.{label_eq}
use Rattle.rt_tree.specs.declared.equality.Found.{Found}
use Rattle.rt_tree.specs.declared.equality.Found.TheVariants.{Same, Unlike, Apart}
use Rattle.rt_tree.specs.Trees.{Nodes, leaf, edge_of, step_of, walk, marks_of, marks_from, node_at, AreLike, IsEdge, IsNode}
use Rattle.rt_tree.specs.Pairs.{shifted_edges, ArePaired, InOneClass, AreAlikeIn, IsFound, IsFoundOf, AreClasses, AreClosed, Follows, renamed_class}
use Rattle.rt_tree.proofs.Words.{AreNodes, then_some, node_of, step_in, marked, leads}
use Rattle.rt_tree.proofs.One.{paired, same_marks}

pub at_node : (t : Nodes) (x : ℕ) (l : Label) → x < length t → step_of t x l ≡ lookup (label_eq l) (node_at t x).edges
at_node t x l less = ap (option_and_then (edge_of l)) (slice_get-get_or t x (leaf 0 0) less)

pub edges_of : (t : Nodes) → AreNodes t → (x : ℕ) → x < length t → IsNode (length t) (node_at t x)
edges_of t good x less = All-get_or (IsNode (length t)) t x (leaf 0 0) less good

-- a step of one of two nodes that are alike is one of the other, to nodes that are alike
like_step : (t : Nodes) → AreNodes t → (x y : ℕ) → AreLike t x y → (l : Label) (i : ℕ) → step_of t x l ≡ Some i → (j : ℕ) × (step_of t y l ≡ Some j) × AreLike t i j
like_step t good x y like l i e =
    let at = node_of t i (step_in t good x i l e) in
    let there : marks_from t y (l ∷ []) ≡ Some (marks_of at.0) = sym (like (l ∷ [])) ∙ marked t x (l ∷ []) i at.0 (ap (option_and_then (λ k. walk t k [])) e) at.1 in
    let to = leads t y (l ∷ []) (marks_of at.0) there in
    let by = then_some (λ k. walk t k []) (step_of t y l) to.0 to.1 in
    (by.0, by.1, λ w. sym (after x i e w) ∙ (like (l ∷ w) ∙ after y by.0 by.1 w))
  where
    after : (n k : ℕ) → step_of t n l ≡ Some k → (w : List Label) → marks_from t n (l ∷ w) ≡ marks_from t k w
    after n k f w = ap (λ o. option_and_then (λ m. option_map marks_of (slice_get t m)) (option_and_then (λ m. walk t m w) o)) f

turned : (t : Nodes) (x y : ℕ) → AreLike t x y → AreLike t y x
turned t x y like w = sym (like w)

pub like_edges : (t : Nodes) → AreNodes t → (x y : ℕ) → x < length t → y < length t → AreLike t x y → ArePaired (AreLike t) (node_at t x).edges (node_at t y).edges
like_edges t good x y less less' like =
    paired (AreLike t) (AreLike t) (node_at t x).edges (node_at t y).edges (edges_of t good x less).ordered (edges_of t good y less').ordered
    (λ l i found. let s = like_step t good x y like l i (at_node t x l less ∙ found) in (s.0, sym (at_node t y l less') ∙ s.1, s.2))
    (λ l i found. let s = like_step t good y x (turned t x y like) l i (at_node t y l less' ∙ found) in (s.0, sym (at_node t x l less) ∙ s.1, s.2))

pub like_marks : (t : Nodes) (x y : ℕ) → x < length t → y < length t → AreLike t x y → marks_of (node_at t x) ≡ marks_of (node_at t y)
like_marks t x y less less' like =
    let parts = same_marks t t x y (node_at t x) (node_at t y) like (slice_get-get_or t x (leaf 0 0) less) (slice_get-get_or t y (leaf 0 0) less') in
    rw (parts.0, parts.1) refl

shift_paired : (R : ℕ → ℕ → Type 0) (i j : ℕ) (xs ys : List (Label × ℕ)) → ArePaired (λ m n. R (i + m) (j + n)) xs ys → ArePaired R (shifted_edges i xs) (shifted_edges j ys)
shift_paired R i j [] [] h = tt
shift_paired R i j [] (y ∷ ys) h = absurd h
shift_paired R i j (x ∷ xs) [] h = absurd h
shift_paired R i j (x ∷ xs) (y ∷ ys) h = (h.0, h.1, shift_paired R i j xs ys h.2)

unshift_paired : (R : ℕ → ℕ → Type 0) (i j : ℕ) (xs ys : List (Label × ℕ)) → ArePaired R (shifted_edges i xs) (shifted_edges j ys) → ArePaired (λ m n. R (i + m) (j + n)) xs ys
unshift_paired R i j [] [] h = tt
unshift_paired R i j [] (y ∷ ys) h = absurd h
unshift_paired R i j (x ∷ xs) [] h = absurd h
unshift_paired R i j (x ∷ xs) (y ∷ ys) h = (h.0, h.1, unshift_paired R i j xs ys h.2)

paired_labels : (R : ℕ → ℕ → Type 0) (xs ys : List (Label × ℕ)) → ArePaired R xs ys → map (λ (e : Label × ℕ). e.0) xs ≡ map (λ (e : Label × ℕ). e.0) ys
paired_labels R [] [] h = refl
paired_labels R [] (y ∷ ys) h = absurd h
paired_labels R (x ∷ xs) [] h = absurd h
paired_labels R (x ∷ xs) (y ∷ ys) h = rw (h.0, paired_labels R xs ys h.2) refl

pub paired_at : (R : ℕ → ℕ → Type 0) (xs ys : List (Label × ℕ)) (k : ℕ) (e f : Label × ℕ) → ArePaired R xs ys → slice_get xs k ≡ Some e → slice_get ys k ≡ Some f → R e.1 f.1
paired_at R [] [] k e f h p q = cc
paired_at R [] (y ∷ ys) k e f h p q = absurd h
paired_at R (x ∷ xs) [] k e f h p q = absurd h
paired_at R (x ∷ xs) (y ∷ ys) zero e f h p q =
    let a : x ≡ e = cc in
    let b : y ≡ f = cc in
    subst (λ (z : Label × ℕ). R z.1 f.1) a (subst (λ (z : Label × ℕ). R x.1 z.1) b h.1)
paired_at R (x ∷ xs) (y ∷ ys) (suc k) e f h p q = paired_at R xs ys k e f h.2 p q

-- each end is in range, also before it is shifted
pub in_range : (i count : ℕ) (edges : List (Label × ℕ)) → AllByRecursion (IsEdge count) (shifted_edges i edges) → AllByRecursion (λ (edge : Label × ℕ). i + edge.1 < count) edges
in_range i count [] h = tt
in_range i count (edge ∷ edges) h = (h.0.1, in_range i count edges h.1)

pub range_at : (i count : ℕ) (edges : List (Label × ℕ)) (k : ℕ) (e : Label × ℕ) → AllByRecursion (λ (edge : Label × ℕ). i + edge.1 < count) edges → slice_get edges k ≡ Some e → i + e.1 < count
range_at i count [] k e h p = cc
range_at i count (edge ∷ edges) zero e h p = let a : edge ≡ e = cc in subst (λ (z : Label × ℕ). i + z.1 < count) a h.0
range_at i count (edge ∷ edges) (suc k) e h p = range_at i count edges k e h.1 p

pub like_shifted : (t : Nodes) → AreNodes t → (x y i j : ℕ) (xs ys : List (Label × ℕ)) → x < length t → y < length t → shifted_edges i xs ≡ (node_at t x).edges → shifted_edges j ys ≡ (node_at t y).edges → AreLike t x y → ArePaired (λ m n. AreLike t (i + m) (j + n)) xs ys
like_shifted t good x y i j xs ys less less' e f like =
    unshift_paired (AreLike t) i j xs ys
    (subst (λ es. ArePaired (AreLike t) es (shifted_edges j ys)) (sym e) (subst (λ es. ArePaired (AreLike t) (node_at t x).edges es) (sym f) (like_edges t good x y less less' like)))

-- what is found of their edges is found of two nodes of equal marks
pub found_of : (class : List ℕ) (t : Nodes) → AreNodes t → (x y i j : ℕ) (xs ys : List (Label × ℕ)) (found : Found) → x < length t → y < length t → shifted_edges i xs ≡ (node_at t x).edges → shifted_edges j ys ≡ (node_at t y).edges → marks_of (node_at t x) ≡ marks_of (node_at t y) → IsFound class xs i ys j found → IsFoundOf class t x y found
found_of class t good x y i j xs ys Same less less' e f marks h = record {
  marks = marks;
  edges = subst (λ es. ArePaired (InOneClass class) es (node_at t y).edges) e (subst (λ es. ArePaired (InOneClass class) (shifted_edges i xs) es) f (shift_paired (InOneClass class) i j xs ys h));
}
found_of class t good x y i j xs ys Unlike less less' e f marks h =
    λ like. h (paired_labels (λ m n. AreLike t (i + m) (j + n)) xs ys (like_shifted t good x y i j xs ys less less' e f like))
found_of class t good x y i j xs ys (Apart m n) less less' e f marks h =
    (rw h.5 (range_at i (length t) xs h.0 h.1 (in_range i (length t) xs (subst (AllByRecursion (IsEdge (length t))) (sym e) (edges_of t good x less).each)) h.3), rw h.6 (range_at j (length t) ys h.0 h.2 (in_range j (length t) ys (subst (AllByRecursion (IsEdge (length t))) (sym f) (edges_of t good y less').each)) h.4), λ like. rw (h.5, h.6) (paired_at (λ m n. AreLike t (i + m) (j + n)) xs ys h.0 h.1 h.2 (like_shifted t good x y i j xs ys less less' e f like) h.3 h.4), h.7)

-- steps of two nodes whose edges are paired
pub paired_lookup : (R : ℕ → ℕ → Type 0) (xs ys : List (Label × ℕ)) (l : Label) → ArePaired R xs ys → ((lookup (label_eq l) xs ≡ None) × (lookup (label_eq l) ys ≡ None)) ⊎ ((i : ℕ) × (j : ℕ) × (lookup (label_eq l) xs ≡ Some i) × (lookup (label_eq l) ys ≡ Some j) × R i j)
paired_lookup R [] [] l h = inl (refl, refl)
paired_lookup R [] (y ∷ ys) l h = absurd h
paired_lookup R (x ∷ xs) [] l h = absurd h
paired_lookup R (x ∷ xs) (y ∷ ys) l h = by (label_eq l x.0) (label_eq l y.0) (ap (label_eq l) h.0) (paired_lookup R xs ys l h.2)
  where
    by : (b c : Bool) → b ≡ c → ((lookup (label_eq l) xs ≡ None) × (lookup (label_eq l) ys ≡ None)) ⊎ ((i : ℕ) × (j : ℕ) × (lookup (label_eq l) xs ≡ Some i) × (lookup (label_eq l) ys ≡ Some j) × R i j) → ((cond b (Some x.1) (lookup (label_eq l) xs) ≡ None) × (cond c (Some y.1) (lookup (label_eq l) ys) ≡ None)) ⊎ ((i : ℕ) × (j : ℕ) × (cond b (Some x.1) (lookup (label_eq l) xs) ≡ Some i) × (cond c (Some y.1) (lookup (label_eq l) ys) ≡ Some j) × R i j)
    by true true e rest = inr (x.1, y.1, refl, refl, h.1)
    by true false e rest = cc
    by false true e rest = cc
    by false false e rest = rest

module _ (t : Nodes) (good : AreNodes t) (class : List ℕ) (within : (x : ℕ) → x < length t → slice_index class x < length t) (closed : (x : ℕ) → x < length t → AreAlikeIn class t x (slice_index class x)) where
  -- each node is like the one that names its class
  pub named : (w : List Label) (x : ℕ) → x < length t → marks_from t x w ≡ marks_from t (slice_index class x) w
  named [] x less =
      let less' = within x less in
      ap (option_map marks_of) (slice_get-get_or t x (leaf 0 0) less)
      ∙ (ap Some (closed x less).marks ∙ sym (ap (option_map marks_of) (slice_get-get_or t (slice_index class x) (leaf 0 0) less')))
  named (l ∷ w) x less =
      by (step_of t x l) (step_of t (slice_index class x) l) steps (λ i p. step_in t good x i l p) (λ i p. step_in t good (slice_index class x) i l p) (λ i inside. named w i inside)
    where
      less' : slice_index class x < length t
      less' = within x less

      steps : ((step_of t x l ≡ None) × (step_of t (slice_index class x) l ≡ None)) ⊎ ((i : ℕ) × (j : ℕ) × (step_of t x l ≡ Some i) × (step_of t (slice_index class x) l ≡ Some j) × InOneClass class i j)
      steps =
          subst (λ o. ((o ≡ None) × (step_of t (slice_index class x) l ≡ None)) ⊎ ((i : ℕ) × (j : ℕ) × (o ≡ Some i) × (step_of t (slice_index class x) l ≡ Some j) × InOneClass class i j)) (sym (at_node t x l less))
          (subst (λ o. ((lookup (label_eq l) (node_at t x).edges ≡ None) × (o ≡ None)) ⊎ ((i : ℕ) × (j : ℕ) × (lookup (label_eq l) (node_at t x).edges ≡ Some i) × (o ≡ Some j) × InOneClass class i j)) (sym (at_node t (slice_index class x) l less'))
          (paired_lookup (InOneClass class) (node_at t x).edges (node_at t (slice_index class x)).edges l (closed x less).edges))

      by : (o p : Option ℕ) → ((o ≡ None) × (p ≡ None)) ⊎ ((i : ℕ) × (j : ℕ) × (o ≡ Some i) × (p ≡ Some j) × InOneClass class i j) → ((i : ℕ) → o ≡ Some i → i < length t) → ((i : ℕ) → p ≡ Some i → i < length t) → ((i : ℕ) → i < length t → marks_from t i w ≡ marks_from t (slice_index class i) w) → option_and_then (λ m. option_map marks_of (slice_get t m)) (option_and_then (λ m. walk t m w) o) ≡ option_and_then (λ m. option_map marks_of (slice_get t m)) (option_and_then (λ m. walk t m w) p)
      by o p (inl h) f g rest = ap (λ q. option_and_then (λ m. option_map marks_of (slice_get t m)) (option_and_then (λ m. walk t m w) q)) (h.0 ∙ sym h.1)
      by o p (inr h) f g rest =
          ap (λ q. option_and_then (λ m. option_map marks_of (slice_get t m)) (option_and_then (λ m. walk t m w) q)) h.2
          ∙ (rest h.0 (f h.0 h.2) ∙ (ap (λ k. marks_from t k w) h.4 ∙ (sym (rest h.1 (g h.1 h.3))
          ∙ sym (ap (λ q. option_and_then (λ m. option_map marks_of (slice_get t m)) (option_and_then (λ m. walk t m w) q)) h.3))))

pub roots_alike : (t : Nodes) → AreNodes t → (root : ℕ) (class : List ℕ) → AreClasses t root class → AreClosed t root class → 0 < length t → root < length t → AreLike t 0 root
roots_alike t good root class are closed less less' w =
    named t good class are.within closed.nodes w 0 less ∙ (ap (λ k. marks_from t k w) closed.roots ∙ sym (named t good class are.within closed.nodes w root less'))

-- the classes when two of them are made one
is_renamed : (a b c : ℕ) → c ≡ max a b → renamed_class a b c ≡ min a b
is_renamed a b c e = grind (arith, nat_tests)

is_kept : (a b c : ℕ) → (c ≡ max a b → ⊥) → renamed_class a b c ≡ c
is_kept a b c ne = grind (arith, nat_tests)

renamed-le : (a b c : ℕ) → renamed_class a b c ≤ c
renamed-le a b c = by (cases_eq c (max a b))
  where
    by : (c ≡ max a b) ⊎ (c ≡ max a b → ⊥) → renamed_class a b c ≤ c
    by (inl e) = let r = is_renamed a b c e in omega (arith, r)
    by (inr ne) = let r = is_kept a b c ne in omega (arith, r)

abbrev pub total : List ℕ → ℕ
total [] = 0
total (x ∷ xs) = x + total xs

total_map-le : (f : ℕ → ℕ) (xs : List ℕ) → ((x : ℕ) → f x ≤ x) → total (map f xs) ≤ total xs
total_map-le f [] h = omega arith
total_map-le f (x ∷ xs) h = let first = h x in let rest = total_map-le f xs h in omega arith

total_map-lt : (f : ℕ → ℕ) (xs : List ℕ) (i : ℕ) → ((x : ℕ) → f x ≤ x) → i < length xs → f (get_or xs i 0) < get_or xs i 0 → total (map f xs) < total xs
total_map-lt f [] i h less drops = absurd (omega arith)
total_map-lt f (x ∷ xs) zero h less drops = let rest = total_map-le f xs h in omega arith
total_map-lt f (x ∷ xs) (suc i) h less drops = let first = h x in let rest = total_map-lt f xs i h (omega arith) drops in omega arith

pub total-renamed : (class : List ℕ) (i j : ℕ) → i < length class → j < length class → (get_or class i 0 ≡ get_or class j 0 → ⊥) → total (map (renamed_class (get_or class i 0) (get_or class j 0)) class) < total class
total-renamed class i j less_i less_j apart = by (cases_eq (get_or class i 0) (max (get_or class i 0) (get_or class j 0)))
  where
    by : (get_or class i 0 ≡ max (get_or class i 0) (get_or class j 0)) ⊎ (get_or class i 0 ≡ max (get_or class i 0) (get_or class j 0) → ⊥) → total (map (renamed_class (get_or class i 0) (get_or class j 0)) class) < total class
    by (inl e) =
        let r = is_renamed (get_or class i 0) (get_or class j 0) (get_or class i 0) e in
        total_map-lt (renamed_class (get_or class i 0) (get_or class j 0)) class i (renamed-le (get_or class i 0) (get_or class j 0)) less_i (omega (arith, r))
    by (inr ne) =
        let f : get_or class j 0 ≡ max (get_or class i 0) (get_or class j 0) = omega arith in
        let r = is_renamed (get_or class i 0) (get_or class j 0) (get_or class j 0) f in
        total_map-lt (renamed_class (get_or class i 0) (get_or class j 0)) class j (renamed-le (get_or class i 0) (get_or class j 0)) less_j (omega (arith, r))

pub follows_chain : (t : Nodes) (root x y z : ℕ) → Follows t root x y → Follows t root y z → Follows t root x z
follows_chain t root x y z p q same w = p same w ∙ q same w

pub follows_back : (t : Nodes) (root x y : ℕ) → Follows t root x y → Follows t root y x
follows_back t root x y p same w = sym (p same w)

follows_self : (t : Nodes) (root x : ℕ) → Follows t root x x
follows_self t root x same w = refl

-- of two numbers that stand for nodes that are alike, the lesser does for each
renamed_follows : (t : Nodes) (root a b c : ℕ) → Follows t root a b → Follows t root c (renamed_class a b c)
renamed_follows t root a b c p = by (cases_eq c (max a b)) (cases_eq a (max a b))
  where
    by : (c ≡ max a b) ⊎ (c ≡ max a b → ⊥) → (a ≡ max a b) ⊎ (a ≡ max a b → ⊥) → Follows t root c (renamed_class a b c)
    by (inr ne) h = subst (Follows t root c) (sym (is_kept a b c ne)) (follows_self t root c)
    by (inl e) (inl f) =
        let low : b ≡ min a b = omega arith in
        subst (Follows t root c) (low ∙ sym (is_renamed a b c e)) (subst (λ n. Follows t root n b) (f ∙ sym e) p)
    by (inl e) (inr ne) =
        let low : a ≡ min a b = omega arith in
        let high : b ≡ c = omega arith in
        subst (Follows t root c) (low ∙ sym (is_renamed a b c e)) (subst (λ n. Follows t root n a) high (follows_back t root a b p))

pub renamed_classes : (t : Nodes) (root : ℕ) (class : List ℕ) → AreClasses t root class → (i j : ℕ) → i < length t → j < length t → Follows t root i j → AreClasses t root (map (renamed_class (slice_index class i) (slice_index class j)) class)
renamed_classes t root class are i j less less' follows = record {
  each = length-map class f ∙ are.each;
  within = λ x inside. let old = are.within x inside in let le = renamed-le a b (slice_index class x) in let e = at x inside in omega arith;
  sound = λ x inside.
      subst (Follows t root x) (sym (at x inside))
      (follows_chain t root x (slice_index class x) (f (slice_index class x)) (are.sound x inside)
      (renamed_follows t root a b (slice_index class x) (follows_chain t root a i b (follows_back t root i a (are.sound i less)) (follows_chain t root i j b follows (are.sound j less')))));
}
  where
    a : ℕ
    a = slice_index class i

    b : ℕ
    b = slice_index class j

    f : ℕ → ℕ
    f = renamed_class (slice_index class i) (slice_index class j)

    at : (x : ℕ) → x < length t → slice_index (map (renamed_class (slice_index class i) (slice_index class j)) class) x ≡ renamed_class (slice_index class i) (slice_index class j) (slice_index class x)
    at x inside = get_or-map (renamed_class (slice_index class i) (slice_index class j)) class x 0 0 (subst (λ n. x < n) (sym are.each) inside)
