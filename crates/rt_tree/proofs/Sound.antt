-- Classes stay sound while they are made one.
use Rattle.std.proofs.Common.{◌≡◌, ℕ, ◌+◌, ◌<◌, ◌⊎◌, inl, inr, List, length, get_or, set, sym, ap, subst, ◌∙◌}
use Rattle.std.specs.Prelude.{slice_index}
use Rattle.std.proofs.lemmas.Bool.{cases_eq}
use Rattle.std.proofs.lemmas.List.{length-set, get_or-set_same, get_or-set_other}
use Rattle.std.specs.List.{AllByRecursion}
use Rattle.std.proofs.lemmas.List.Elements.{All-set}
use Rattle.std.proofs.lemmas.Option.{slice_get-get_or}
use Rattle.rt_lines.specs.declared.label.Label.{Label}
use Rattle.rt_tree.specs.Trees.{Nodes, node_at, AreLike, IsEdge}
use Rattle.rt_tree.proofs.Words.{AreNodes}
use Rattle.rt_tree.specs.Pairs.{shifted_edges, AreClasses, AreToFollow, Follows}
use Rattle.rt_tree.proofs.Alike.{edges_of, in_range, range_at, paired_at, like_shifted, follows_chain, follows_back}

-- one node's class is renamed
pub set_classes : (t : Nodes) (root : ℕ) (class : List ℕ) (x from to : ℕ) → AreClasses t root class → x < length t → to < length t → slice_index class x ≡ from → Follows t root from to → AreClasses t root (set class x to)
set_classes t root class x from to are less less' is follows = record {
  each = length-set class x to ∙ are.each;
  within = λ y inside. by_within y inside (cases_eq y x);
  sound = λ y inside. by_sound y inside (cases_eq y x);
}
  where
    here : slice_index (set class x to) x ≡ to
    here = get_or-set_same class x to 0 (subst (λ n. x < n) (sym are.each) less)

    there : (y : ℕ) → (y ≡ x → ⊥) → slice_index (set class x to) y ≡ slice_index class y
    there y ne = get_or-set_other class x y to 0 ne

    by_within : (y : ℕ) → y < length t → (y ≡ x) ⊎ (y ≡ x → ⊥) → slice_index (set class x to) y < length t
    by_within y inside (inl e) = subst (λ n. n < length t) (sym (ap (slice_index (set class x to)) e ∙ here)) less'
    by_within y inside (inr ne) = subst (λ n. n < length t) (sym (there y ne)) (are.within y inside)

    by_sound : (y : ℕ) → y < length t → (y ≡ x) ⊎ (y ≡ x → ⊥) → Follows t root y (slice_index (set class x to) y)
    by_sound y inside (inl e) =
        subst (Follows t root y) (sym (ap (slice_index (set class x to)) e ∙ here))
        (follows_chain t root y from to (subst (Follows t root y) (ap (slice_index class) e ∙ is) (are.sound y inside)) follows)
    by_sound y inside (inr ne) = subst (Follows t root y) (sym (there y ne)) (are.sound y inside)

-- the names of the classes of two nodes that are alike if the roots are
pub names_follow : (t : Nodes) (root : ℕ) (class : List ℕ) (i j : ℕ) → AreClasses t root class → i < length t → j < length t → Follows t root i j → Follows t root (slice_index class i) (slice_index class j)
names_follow t root class i j are less less' follows =
    follows_chain t root (slice_index class i) i (slice_index class j) (follows_back t root i (slice_index class i) (are.sound i less))
    (follows_chain t root i j (slice_index class j) follows (are.sound j less'))

-- the ends of the k-th edges of two nodes that are alike if the roots are
pub ends_follow : (t : Nodes) → AreNodes t → (root x y i j k : ℕ) (xs ys : List (Label × ℕ)) (d : Label × ℕ) → x < length t → y < length t → Follows t root x y → shifted_edges i xs ≡ (node_at t x).edges → shifted_edges j ys ≡ (node_at t y).edges → k < length xs → k < length ys → (i + (get_or xs k d).1 < length t) × (j + (get_or ys k d).1 < length t) × Follows t root (i + (get_or xs k d).1) (j + (get_or ys k d).1)
ends_follow t good root x y i j k xs ys d less less' follows e f in_xs in_ys =
    (range_at i (length t) xs k (get_or xs k d) (in_range i (length t) xs (subst (AllByRecursion (IsEdge (length t))) (sym e) (edges_of t good x less).each)) (slice_get-get_or xs k d in_xs), range_at j (length t) ys k (get_or ys k d) (in_range j (length t) ys (subst (AllByRecursion (IsEdge (length t))) (sym f) (edges_of t good y less').each)) (slice_get-get_or ys k d in_ys), λ same. paired_at (λ m n. AreLike t (i + m) (j + n)) xs ys k (get_or xs k d) (get_or ys k d) (like_shifted t good x y i j xs ys less less' e f (follows same)) (slice_get-get_or xs k d in_xs) (slice_get-get_or ys k d in_ys))

-- one more pair that is alike if the roots are
pub noted : (t : Nodes) (root : ℕ) (todo : List (ℕ × ℕ)) (top : ℕ) (pair : ℕ × ℕ) → pair.0 < length t → pair.1 < length t → Follows t root pair.0 pair.1 → AreToFollow t root todo → AreToFollow t root (set todo top pair)
noted t root todo top pair less less' follows are =
    All-set (λ (p : ℕ × ℕ). (p.0 < length t) × (p.1 < length t) × Follows t root p.0 p.1) todo top pair (less, less', follows) are
