-- Two minimal trees, numbered breadth first, with the same words and marks are one.
use Rattle.std.proofs.Common.{◌≡◌, ℕ, zero, suc, ◌+◌, ◌<◌, ◌≤◌, Bool, true, false, cond, Option, Some, List, [], ◌∷◌, ◌++◌, ◌⊎◌, inl, inr, length, drop, refl, sym, ap, subst, ◌∙◌, arith}
use Rattle.std.specs.List.{slice_get}
use Rattle.std.specs.Map.{lookup}
use Rattle.std.specs.Option.{option_and_then}
use Rattle.std.proofs.lemmas.Option.{some_pair_parts}
use Rattle.std.specs.declared.cmp.Ordering.TheVariants.{Less}
use Rattle.rt_lines.specs.declared.label.Label.{Label}
use Rattle.rt_lines.specs.Equality.{label_eq}
use Rattle.rt_lines.proofs.Equal.{label_equal}
use Rattle.rt_tree.specs.Labels.{label_cmp}
use Rattle.rt_tree.specs.Trees.{Node, Nodes, edge_of, step_of, walk, marks_of, marks_from, ends_of, AreSame, IsMinimal, Stand, Numbered, IsBreadthFirst, AreOrdered, IsNode, IsTree}
use Rattle.rt_tree.specs.Pairs.{ArePaired}
use Rattle.rt_tree.proofs.Comparing.{not_less_itself}
use Rattle.rt_tree.proofs.Edges.{less_chain, found_has}
use Rattle.rt_tree.proofs.Words.{then_some, node_of, step_in, walk_in, marks-append, walk_on, marked, leads}
use Rattle.rt_lines.proofs.Same.{label_self}
use Rattle.rt_base.proofs.Options.{past_back, here_back}
use Rattle.rt_base.proofs.Numbers.{after_one}
use Rattle.rt_base.proofs.Lists.{All-at}
use Rattle.std.proofs.lemmas.Bool.{cases_Bool}

-- one word leads to both, from the roots
abbrev Meet : Nodes → Nodes → ℕ → ℕ → Type 0
Meet a b m n = (w : List Label) × (walk a 0 w ≡ Some m) × (walk b 0 w ≡ Some n)

turned : (a b : Nodes) (m n : ℕ) → Meet a b m n → Meet b a n m
turned a b m n h = (h.0, h.2, h.1)

turned_same : (a b : Nodes) → AreSame a b → AreSame b a
turned_same a b same w = sym (same w)

-- what is read from two nodes that meet
alike : (a b : Nodes) (m n : ℕ) → AreSame a b → Meet a b m n → (w : List Label) → marks_from a m w ≡ marks_from b n w
alike a b m n same h w = sym (marks-append a 0 h.0 w m h.1) ∙ (same (h.0 ++ w) ∙ marks-append b 0 h.0 w n h.2)

within : (a b : Nodes) → IsTree a → (m n : ℕ) → Meet a b m n → m < length a
within a b good m n h = walk_in a good.nodes 0 h.0 m good.rooted h.1

-- a node meets one node alone
one_end : (a b : Nodes) → IsTree b → IsMinimal b → AreSame a b → (m n k : ℕ) → Meet a b m n → Meet a b m k → n ≡ k
one_end a b good least same m n k p q =
    least.one n k (within b a good n m (turned a b m n p)) (within b a good k m (turned a b m k q)) (λ w. sym (alike a b m n same p w) ∙ alike a b m k same q w)

-- an edge of the one, of which the other has one too
stepped : (a b : Nodes) → IsTree a → IsTree b → AreSame a b → (m n : ℕ) → Meet a b m n → (l : Label) (i : ℕ) → step_of a m l ≡ Some i → (j : ℕ) × (step_of b n l ≡ Some j) × Meet a b i j
stepped a b good good' same m n h l i e =
    let at = node_of a i (step_in a good.nodes m i l e) in
    let there : marks_from b n (l ∷ []) ≡ Some (marks_of at.0) =
    sym (alike a b m n same h (l ∷ [])) ∙ marked a m (l ∷ []) i at.0 (ap (option_and_then (λ k. walk a k [])) e) at.1 in
    let to = leads b n (l ∷ []) (marks_of at.0) there in
    let by = then_some (λ k. walk b k []) (step_of b n l) to.0 to.1 in
    (by.0, by.1, (h.0 ++ l ∷ [], walk_on a 0 h.0 m l i h.1 e, walk_on b 0 h.0 n l by.0 h.2 by.1))

-- what is an edge of the one is one of the other, with ends that are related
abbrev pub Follows : (ℕ → ℕ → Type 0) → List (Label × ℕ) → List (Label × ℕ) → Type 0
Follows R xs ys = (l : Label) (i : ℕ) → lookup (label_eq l) xs ≡ Some i → (j : ℕ) × (lookup (label_eq l) ys ≡ Some j) × R i j

past : (b : Bool) (i : ℕ) (o : Option ℕ) (j : ℕ) → b ≡ false → cond b (Some i) o ≡ Some j → o ≡ Some j
past true i o j e f = cc
past false i o j e f = f

here : (b : Bool) (i : ℕ) (o : Option ℕ) (j : ℕ) → b ≡ true → cond b (Some i) o ≡ Some j → i ≡ j
here true i o j e f = cc
here false i o j e f = cc

both_ways : (b : Bool) → b ≡ true → b ≡ false → ⊥
both_ways true p q = cc
both_ways false p q = cc

-- no edge of later ones has the label of the first
apart : (x : Label × ℕ) (xs : List (Label × ℕ)) → AreOrdered (x ∷ xs) → (l : Label) (i : ℕ) → lookup (label_eq l) xs ≡ Some i → label_eq l x.0 ≡ false
apart x xs ordered l i e = by (cases_Bool (label_eq l x.0))
  where
    less : label_cmp x.0 l ≡ Less
    less = found_has (λ (later : Label × ℕ). label_cmp x.0 later.0 ≡ Less) l i xs ordered.0 e

    by : (label_eq l x.0 ≡ true) ⊎ (label_eq l x.0 ≡ false) → label_eq l x.0 ≡ false
    by (inr f) = f
    by (inl f) = absurd (not_less_itself x.0 (subst (λ k. label_cmp x.0 k ≡ Less) (label_equal l x.0 f) less))

-- the tails follow each other where the wholes do, and the heads are of one label
tail_follows : (R : ℕ → ℕ → Type 0) (x y : Label × ℕ) (xs ys : List (Label × ℕ)) → AreOrdered (x ∷ xs) → x.0 ≡ y.0 → Follows R (x ∷ xs) (y ∷ ys) → Follows R xs ys
tail_follows R x y xs ys ordered heads follows l i e =
    let unlike : label_eq l x.0 ≡ false = apart x xs ordered l i e in
    let there = follows l i (past_back (label_eq l x.0) x.1 (lookup (label_eq l) xs) i unlike e) in
    (there.0, past (label_eq l y.0) y.1 (lookup (label_eq l) ys) there.0 (subst (λ k. label_eq l k ≡ false) heads unlike) there.1, there.2)

-- an edge that isn't the first is greater
greater : (y : Label × ℕ) (ys : List (Label × ℕ)) → AreOrdered (y ∷ ys) → (l : Label) (j : ℕ) → lookup (label_eq l) (y ∷ ys) ≡ Some j → label_eq l y.0 ≡ false → label_cmp y.0 l ≡ Less
greater y ys ordered l j e unlike =
    found_has (λ (later : Label × ℕ). label_cmp y.0 later.0 ≡ Less) l j ys ordered.0 (past (label_eq l y.0) y.1 (lookup (label_eq l) ys) j unlike e)

found_first : (x : Label × ℕ) (xs : List (Label × ℕ)) → lookup (label_eq x.0) (x ∷ xs) ≡ Some x.1
found_first x xs = here_back (label_eq x.0 x.0) x.1 (lookup (label_eq x.0) xs) (label_self x.0)

heads_agree : (R Q : ℕ → ℕ → Type 0) (x y : Label × ℕ) (xs ys : List (Label × ℕ)) → AreOrdered (x ∷ xs) → AreOrdered (y ∷ ys) → Follows R (x ∷ xs) (y ∷ ys) → Follows Q (y ∷ ys) (x ∷ xs) → x.0 ≡ y.0
heads_agree R Q x y xs ys p q f g = by (cases_Bool (label_eq x.0 y.0)) (cases_Bool (label_eq y.0 x.0))
  where
    by : (label_eq x.0 y.0 ≡ true) ⊎ (label_eq x.0 y.0 ≡ false) → (label_eq y.0 x.0 ≡ true) ⊎ (label_eq y.0 x.0 ≡ false) → x.0 ≡ y.0
    by (inl e) _ = label_equal x.0 y.0 e
    by (inr e) (inl h) = sym (label_equal y.0 x.0 h)
    by (inr e) (inr h) =
        let there = f x.0 x.1 (found_first x xs) in
        let back = g y.0 y.1 (found_first y ys) in
        absurd (not_less_itself x.0 (less_chain x.0 y.0 x.0 (greater x xs p y.0 back.0 back.1 h) (greater y ys q x.0 there.0 there.1 e)))

pub paired : (R Q : ℕ → ℕ → Type 0) (xs ys : List (Label × ℕ)) → AreOrdered xs → AreOrdered ys → Follows R xs ys → Follows Q ys xs → ArePaired R xs ys
paired R Q [] [] p q f g = tt
paired R Q [] (y ∷ ys) p q f g = let back = g y.0 y.1 (found_first y ys) in let none = back.1 in cc
paired R Q (x ∷ xs) [] p q f g = let there = f x.0 x.1 (found_first x xs) in let none = there.1 in cc
paired R Q (x ∷ xs) (y ∷ ys) p q f g =
    let heads : x.0 ≡ y.0 = heads_agree R Q x y xs ys p q f g in
    let there = f x.0 x.1 (found_first x xs) in
    let end : y.1 ≡ there.0 = here (label_eq x.0 y.0) y.1 (lookup (label_eq x.0) ys) there.0 (subst (λ k. label_eq x.0 k ≡ true) heads (label_self x.0)) there.1 in
    (heads, subst (λ k. R x.1 k) (sym end) there.2, paired R Q xs ys p.1 q.1 (tail_follows R x y xs ys p heads f) (tail_follows Q y x ys xs q (sym heads) g))

-- each number below meets itself
abbrev Fixed : (ℕ → ℕ → Type 0) → ℕ → Type 0
Fixed R before = (i : ℕ) → i < before → R i i

one_more : (R : ℕ → ℕ → Type 0) (before : ℕ) → Fixed R before → R before before → Fixed R (before + 1)
one_more R before fixed h i less = by (cases i before (omega arith))
  where
    cases : (i before : ℕ) → i ≤ before → (i < before) ⊎ (before ≡ i)
    cases i before le = search (arith)

    by : (i < before) ⊎ (before ≡ i) → R i i
    by (inl p) = fixed i p
    by (inr e) = subst (λ k. R k k) e h

-- what numbers that meet, one way and the other, are
pub record IsMatch (R : ℕ → ℕ → Type 0) : Type 0 where
  pub forward : (m n k : ℕ) → R m n → R m k → n ≡ k
  pub back : (m n k : ℕ) → R m k → R n k → m ≡ n

record Stood (R : ℕ → ℕ → Type 0) (xs ys : List (Label × ℕ)) (m n : ℕ) : Type 0 where
  edges : xs ≡ ys
  counts : m ≡ n
  fixed : Fixed R m

same_edge : (x y : Label × ℕ) → x.0 ≡ y.0 → x.1 ≡ y.1 → x ≡ y
same_edge (k, m) (l, n) e f = rw (e, f) refl

-- ends that meet stand for the first time at once
stood : (R : ℕ → ℕ → Type 0) → IsMatch R → (xs ys : List (Label × ℕ)) → ArePaired R xs ys → (before m n : ℕ) → Fixed R before → Stand before (ends_of (record { low = 0; up = 0; edges = xs })) m → Stand before (ends_of (record { low = 0; up = 0; edges = ys })) n → Stood R xs ys m n
stood R match [] [] pairs before m n fixed p q = record { edges = refl; counts = sym p ∙ q; fixed = subst (Fixed R) p fixed }
stood R match [] (y ∷ ys) pairs before m n fixed p q = absurd pairs
stood R match (x ∷ xs) [] pairs before m n fixed p q = absurd pairs
stood R match (x ∷ xs) (y ∷ ys) pairs before m n fixed (inl p) (inl q) =
    let ends : x.1 ≡ y.1 = match.forward x.1 x.1 y.1 (fixed x.1 p.0) pairs.1 in
    let rest = stood R match xs ys pairs.2 before m n fixed p.1 q.1 in
    more x y xs ys m n ends pairs.0 rest
  where
    more : (x y : Label × ℕ) (xs ys : List (Label × ℕ)) (m n : ℕ) → x.1 ≡ y.1 → x.0 ≡ y.0 → Stood R xs ys m n → Stood R (x ∷ xs) (y ∷ ys) m n
    more x y xs ys m n ends labels rest = record { edges = rw (same_edge x y labels ends, rest.edges) refl; counts = rest.counts; fixed = rest.fixed }
stood R match (x ∷ xs) (y ∷ ys) pairs before m n fixed (inl p) (inr q) =
    let ends : x.1 ≡ y.1 = match.forward x.1 x.1 y.1 (fixed x.1 p.0) pairs.1 in
    let less = p.0 in let is = q.0 in absurd (omega arith)
stood R match (x ∷ xs) (y ∷ ys) pairs before m n fixed (inr p) (inl q) =
    let ends : x.1 ≡ y.1 = match.back x.1 y.1 y.1 pairs.1 (fixed y.1 q.0) in
    let less = q.0 in let is = p.0 in absurd (omega arith)
stood R match (x ∷ xs) (y ∷ ys) pairs before m n fixed (inr p) (inr q) =
    let ends : x.1 ≡ y.1 = p.0 ∙ sym q.0 in
    let met : R before before = subst (λ k. R before k) q.0 (subst (λ k. R k y.1) p.0 pairs.1) in
    let rest = stood R match xs ys pairs.2 (before + 1) m n (one_more R before fixed met) p.1 q.1 in
    more x y xs ys m n ends pairs.0 rest
  where
    more : (x y : Label × ℕ) (xs ys : List (Label × ℕ)) (m n : ℕ) → x.1 ≡ y.1 → x.0 ≡ y.0 → Stood R xs ys m n → Stood R (x ∷ xs) (y ∷ ys) m n
    more x y xs ys m n ends labels rest = record { edges = rw (same_edge x y labels ends, rest.edges) refl; counts = rest.counts; fixed = rest.fixed }

pub at_drop : {X : Type 0} (xs : List X) (n : ℕ) (x : X) (rest : List X) → drop n xs ≡ x ∷ rest → (slice_get xs n ≡ Some x) × (drop (suc n) xs ≡ rest)
at_drop [] zero x rest e = cc
at_drop [] (suc n) x rest e = cc
at_drop {X} (y ∷ xs) zero x rest e = let h : y ≡ x = cc in let t : xs ≡ rest = cc in (rw h refl, t)
at_drop (y ∷ xs) (suc n) x rest e = at_drop xs n x rest e

pub same_marks : (a b : Nodes) (m n : ℕ) (x y : Node) → ((w : List Label) → marks_from a m w ≡ marks_from b n w) → slice_get a m ≡ Some x → slice_get b n ≡ Some y → (x.low ≡ y.low) × (x.up ≡ y.up)
same_marks a b m n x y like e f =
    let both : ◌≡◌ {A = Option (ℕ × ℕ)} (Some (x.low, x.up)) (Some (y.low, y.up)) = sym (marked a m [] m x refl e) ∙ (like [] ∙ marked b n [] n y refl f) in
    some_pair_parts x.low y.low x.up y.up both

same_node : (x y : Node) → x.low ≡ y.low → x.up ≡ y.up → x.edges ≡ y.edges → x ≡ y
same_node x y e f g = rw (e, f, g) refl

pairs_at : (a b : Nodes) → IsTree a → IsTree b → AreSame a b → (m n : ℕ) (x y : Node) → Meet a b m n → slice_get a m ≡ Some x → slice_get b n ≡ Some y → ArePaired (Meet a b) x.edges y.edges
pairs_at a b good good' same m n x y met e f =
    paired (Meet a b) (Meet b a) x.edges y.edges (All-at (IsNode (length a)) a m x good.nodes e).ordered (All-at (IsNode (length b)) b n y good'.nodes f).ordered
    (λ l i found. let s = stepped a b good good' same m n met l i (ap (option_and_then (edge_of l)) e ∙ found) in (s.0, sym (ap (option_and_then (edge_of l)) f) ∙ s.1, s.2))
    (λ l i found. let s = stepped b a good' good (turned_same a b same) n m (turned a b m n met) l i (ap (option_and_then (edge_of l)) f ∙ found) in (s.0, sym (ap (option_and_then (edge_of l)) e) ∙ s.1, s.2))

meet_match : (a b : Nodes) → IsTree a → IsTree b → IsMinimal a → IsMinimal b → AreSame a b → IsMatch (Meet a b)
meet_match a b good good' least least' same = record {
  forward = λ m n k p q. one_end a b good' least' same m n k p q;
  back = λ m n k p q. one_end b a good least (turned_same a b same) k m n (turned a b m k p) (turned a b n k q);
}

same_rest : (a b : Nodes) → IsTree a → IsTree b → AreSame a b → IsMatch (Meet a b) → (n before : ℕ) (xs ys : Nodes) → drop n a ≡ xs → drop n b ≡ ys → Fixed (Meet a b) before → Numbered n before xs → Numbered n before ys → xs ≡ ys
same_rest a b good good' same match n before [] [] e f fixed p q = refl
same_rest a b good good' same match n before [] (y ∷ ys) e f fixed p q = let less = q.0 in absurd (omega arith)
same_rest a b good good' same match n before (x ∷ xs) [] e f fixed p q = let less = p.0 in absurd (omega arith)
same_rest a b good good' same match n before (x ∷ xs) (y ∷ ys) e f fixed p q =
    let first = at_drop a n x xs e in
    let second = at_drop b n y ys f in
    let met : Meet a b n n = fixed n p.0 in
    let marks = same_marks a b n n x y (alike a b n n same met) first.0 second.0 in
    let pairs : ArePaired (Meet a b) x.edges y.edges = pairs_at a b good good' same n n x y met first.0 second.0 in
    let next = stood (Meet a b) match x.edges y.edges pairs before p.1 q.1 fixed p.2 q.2 in
    let heads : x ≡ y = same_node x y marks.0 marks.1 next.edges in
    let numbered : Numbered (n + 1) p.1 ys = subst (λ k. Numbered (n + 1) k ys) (sym next.counts) q.3 in
    let tails : xs ≡ ys = same_rest a b good good' same match (n + 1) p.1 xs ys (subst (λ k. drop k a ≡ xs) (after_one n) first.1) (subst (λ k. drop k b ≡ ys) (after_one n) second.1) next.fixed p.3 numbered in
    rw (heads, tails) refl

root_met : (a b : Nodes) → Fixed (Meet a b) 1
root_met a b i less = let is : 0 ≡ i = omega arith in subst (λ k. Meet a b k k) is ([], refl, refl)

pub one : (a b : Nodes) → IsTree a → IsTree b → IsMinimal a → IsMinimal b → IsBreadthFirst a → IsBreadthFirst b → AreSame a b → a ≡ b
one a b good good' least least' p q same = same_rest a b good good' same (meet_match a b good good' least least' same) 0 1 a b refl refl (root_met a b) p q
