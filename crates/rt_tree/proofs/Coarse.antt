-- Classes are made finer until nodes of one class are alike.
use Rattle.std.proofs.Common.{◌≡◌, ℕ, suc, ◌+◌, ◌-◌, ◌<◌, ◌≤◌, ◌⊎◌, inl, inr, List, [], ◌∷◌, length, get_or, refl, sym, subst, ◌∙◌, arith}
use Rattle.std.specs.Prelude.{slice_index}
use Rattle.std.specs.List.{AllByRecursion}
use Rattle.std.proofs.lemmas.Bool.{cases_eq}
use Rattle.rt_lines.specs.declared.label.Label.{Label}
use Rattle.rt_tree.specs.Trees.{Nodes, node_at, AreLike, IsEdge}
use Rattle.rt_tree.specs.Pairs.{ArePaired, InOneClass}
use Rattle.rt_tree.specs.Partitions.{AreClassesOf, AreTwins, AreFinerClasses, AreCoarseClasses, AreToldNodes}
use Rattle.rt_tree.proofs.Words.{AreNodes}
use Rattle.rt_tree.proofs.Alike.{edges_of, like_edges, like_marks, named}
use Rattle.rt_tree.proofs.Rows.{row_twins, twin_rows}

paired_weaker : (P Q : ℕ → ℕ → Type 0) (count : ℕ) → ((i j : ℕ) → i < count → j < count → P i j → Q i j) → (xs ys : List (Label × ℕ)) → AllByRecursion (IsEdge count) xs → AllByRecursion (IsEdge count) ys → ArePaired P xs ys → ArePaired Q xs ys
paired_weaker P Q count f [] [] good good' h = tt
paired_weaker P Q count f [] (y ∷ ys) good good' h = absurd h
paired_weaker P Q count f (x ∷ xs) [] good good' h = absurd h
paired_weaker P Q count f (x ∷ xs) (y ∷ ys) good good' h = (h.0, f x.1 y.1 good.0.1 good'.0.1 h.1, paired_weaker P Q count f xs ys good.1 good'.1 h.2)

-- nodes that are alike are twins
like_twins : (t : Nodes) → AreNodes t → (class : List ℕ) → AreToldNodes t class → (x y : ℕ) → x < length t → y < length t → AreLike t x y → AreTwins class t x y
like_twins t good class are x y less less' like = record {
  one = are x y less less' like;
  alike = record {
    marks = like_marks t x y less less' like;
    edges =
        paired_weaker (AreLike t) (InOneClass class) (length t) are (node_at t x).edges (node_at t y).edges (edges_of t good x less).each (edges_of t good y less').each
        (like_edges t good x y less less' like);
  };
}

-- the first of the twins of two twins is one
one_first : (t : Nodes) → AreNodes t → (class finer : List ℕ) → AreFinerClasses t class finer → (x y : ℕ) → x < length t → y < length t → AreTwins class t x y → slice_index finer x ≤ slice_index finer y
one_first t good class finer are x y less less' twins =
    are.first x (slice_index finer y) less (are.within y less')
    (row_twins t good class x (slice_index finer y) less (are.within y less') (twin_rows t class x y twins ∙ twin_rows t class y (slice_index finer y) (are.twin y less')))

turned : (t : Nodes) → AreNodes t → (class : List ℕ) (x y : ℕ) → x < length t → y < length t → AreTwins class t x y → AreTwins class t y x
turned t good class x y less less' twins = row_twins t good class y x less' less (sym (twin_rows t class x y twins))

pub finer_coarse : (t : Nodes) → AreNodes t → (class finer : List ℕ) → AreToldNodes t class → AreFinerClasses t class finer → AreCoarseClasses t finer
finer_coarse t good class finer told are = record {
  each = are.each;
  first = λ x y less less' same.
      let itself = are.first y y less' less' (row_twins t good class y y less' less' refl) in
      let one : slice_index finer x ≡ slice_index finer y = same in
      omega arith;
  told = λ x y less less' like.
      let twins = like_twins t good class told x y less less' like in
      let below = one_first t good class finer are x y less less' twins in
      let above = one_first t good class finer are y x less' less (turned t good class x y less less' twins) in
      omega arith;
}

-- how far classes are from the finest ones
abbrev pub slack : ℕ → List ℕ → ℕ
slack count [] = 0
slack count (c ∷ class) = (count - c) + slack count class

slack-le : (count : ℕ) (xs ys : List ℕ) → length ys ≡ length xs → ((i : ℕ) → i < length xs → get_or xs i 0 ≤ get_or ys i 0) → slack count ys ≤ slack count xs
slack-le count [] [] e h = omega arith
slack-le count [] (y ∷ ys) e h = absurd (omega arith)
slack-le count (x ∷ xs) [] e h = absurd (omega arith)
slack-le count (x ∷ xs) (y ∷ ys) e h =
    let first = h 0 (omega arith) in
    let rest = slack-le count xs ys (omega arith) (λ i less. h (suc i) (omega arith)) in
    let le : x ≤ y = first in
    omega arith

slack-lt : (count : ℕ) (xs ys : List ℕ) → length ys ≡ length xs → ((i : ℕ) → i < length xs → get_or xs i 0 ≤ get_or ys i 0) → ((i : ℕ) → i < length xs → get_or ys i 0 < count) → (xs ≡ ys → ⊥) → slack count ys < slack count xs
slack-lt count [] [] e h g ne = absurd (ne refl)
slack-lt count [] (y ∷ ys) e h g ne = absurd (omega arith)
slack-lt count (x ∷ xs) [] e h g ne = absurd (omega arith)
slack-lt count (x ∷ xs) (y ∷ ys) e h g ne =
    by (cases_eq x y) (slack-lt count xs ys (omega arith) (λ i less. h (suc i) (omega arith)) (λ i less. g (suc i) (omega arith)))
  where
    le : x ≤ y
    le = h 0 (omega arith)

    inside : y < count
    inside = g 0 (omega arith)

    by : (x ≡ y) ⊎ (x ≡ y → ⊥) → ((xs ≡ ys → ⊥) → slack count ys < slack count xs) → (count - y) + slack count ys < (count - x) + slack count xs
    by (inl same) tail =
        let rest : slack count ys < slack count xs = tail (λ tails. ne (rw (same, tails) refl)) in
        omega arith
    by (inr apart) tail =
        let rest = slack-le count xs ys (omega arith) (λ i less. h (suc i) (omega arith)) in
        let a = le in let b = inside in
        omega arith

pub slack_falls : (t : Nodes) (class finer : List ℕ) → AreCoarseClasses t class → AreFinerClasses t class finer → (finer ≡ class → ⊥) → slack (length t) finer < slack (length t) class
slack_falls t class finer coarse are ne =
    slack-lt (length t) class finer (are.each ∙ sym coarse.each)
    (λ i less. let inside : i < length t = subst (λ n. i < n) coarse.each less in coarse.first i (slice_index finer i) inside (are.within i inside) (are.twin i inside).one)
    (λ i less. are.within i (subst (λ n. i < n) coarse.each less))
    (λ e. ne (sym e))

pub all_told : (t : Nodes) → AreNodes t → (class finer : List ℕ) → AreCoarseClasses t class → AreFinerClasses t class finer → finer ≡ class → AreClassesOf t class
all_told t good class finer coarse are e = record {
  each = coarse.each;
  like = λ x less w. named t good class within (λ y inside. (twin y inside).alike) w x less;
  first = λ x y less less' like. coarse.first x y less less' (coarse.told x y less less' like);
}
  where
    within : (x : ℕ) → x < length t → slice_index class x < length t
    within x less = subst (λ c. slice_index c x < length t) e (are.within x less)

    twin : (x : ℕ) → x < length t → AreTwins class t x (slice_index class x)
    twin x less = subst (λ c. AreTwins class t x (slice_index c x)) e (are.twin x less)
