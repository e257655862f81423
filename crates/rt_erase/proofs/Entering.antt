-- Fields of edges in order, which are put in one by one.
use Rattle.std.proofs.Common.{◌≡◌, ℕ, pos, negsuc, Bool, true, false, cond, List, [], ◌∷◌, refl, subst}
use Rattle.std.specs.List.{AllByRecursion, flat_map}
use Rattle.std.specs.declared.cmp.Ordering.TheVariants.{Less}
use Rattle.rt_lines.specs.declared.label.Label.{Label}
use Rattle.rt_lines.specs.declared.label.Label.TheVariants.{In, Out, Load, Store, Field}
use Rattle.rt_tree.specs.Labels.{label_cmp}
use Rattle.rt_tree.specs.Trees.{AreOrdered}
use Rattle.rt_tree.proofs.Comparing.{not_less_itself}
use Rattle.rt_tree.proofs.Edges.{each_weaker}
use Rattle.rt_erase.specs.declared.row.Row.{Row}
use Rattle.rt_erase.specs.Rows.{comes_before, label_of, row_of, sorted_with, with_row}
use Rattle.rt_erase.specs.Inside.Sorting.{AreOthers}

-- what is true of each row is true of each with one more
pub each_with : (P : Row → Type 0) (rows : List Row) (row : Row) → AllByRecursion P rows → P row → AllByRecursion P (with_row rows row)
each_with P [] row all h = (h, tt)
each_with P (first ∷ rows) row all h = by (comes_before row first) (each_with P rows row all.1 h)
  where
    by : (b : Bool) → AllByRecursion P (with_row rows row) → AllByRecursion P (cond b (row ∷ first ∷ rows) (first ∷ with_row rows row))
    by true rest = (h, all)
    by false rest = (all.0, rest)

pub each_sorted : (P : Row → Type 0) (rows others : List Row) → AllByRecursion P rows → AllByRecursion P others → AllByRecursion P (sorted_with rows others)
each_sorted P rows [] all more = all
each_sorted P rows (row ∷ others) all more = each_sorted P (with_row rows row) others (each_with P rows row all more.0) more.1

-- the labels of edges come after a label
abbrev ComeAfter : Label → List (Label × ℕ) → Type 0
ComeAfter label edges = AllByRecursion (λ (later : Label × ℕ). label_cmp label later.0 ≡ Less) edges

-- edges in order, whose labels come after those of fields
pub record AreNext (rows : List Row) (edges : List (Label × ℕ)) : Type 0 where
  pub before : AllByRecursion (λ row. ComeAfter (label_of row) edges) rows
  pub ordered : AreOrdered edges

pub none_yet : (edges : List (Label × ℕ)) → AreOrdered edges → AreNext [] edges
none_yet edges ordered = record { before = tt; ordered = ordered }

pub next_others : (rows : List Row) (edge : Label × ℕ) (edges : List (Label × ℕ)) → AreNext rows (edge ∷ edges) → AreOthers edge.0 rows
next_others rows edge edges next =
    each_weaker (λ row. ComeAfter (label_of row) (edge ∷ edges)) (λ row. label_of row ≡ edge.0 → ⊥)
    (λ row after same. not_less_itself edge.0 (subst (λ l. label_cmp l edge.0 ≡ Less) same after.0)) rows next.before

-- the fields of all edges are those of the first and of the others
pub sorted_more : (rows : List Row) (edge : Label × ℕ) (edges : List (Label × ℕ)) →
    sorted_with rows (flat_map row_of (edge ∷ edges)) ≡ sorted_with (sorted_with rows (row_of edge)) (flat_map row_of edges)
sorted_more rows (Field bits (pos k), m) edges = refl
sorted_more rows (Field bits (negsuc k), m) edges = refl
sorted_more rows (In l, m) edges = refl
sorted_more rows (Out n, m) edges = refl
sorted_more rows (Load, m) edges = refl
sorted_more rows (Store, m) edges = refl

-- the first of the edges is among the rows
pub next_more : (rows : List Row) (edge : Label × ℕ) (edges : List (Label × ℕ)) → AreNext rows (edge ∷ edges) → AreNext (sorted_with rows (row_of edge)) edges
next_more rows edge edges next = record {
  before = each_sorted (λ row. ComeAfter (label_of row) edges) rows (row_of edge) (each_weaker (λ row. ComeAfter (label_of row) (edge ∷ edges)) (λ row. ComeAfter (label_of row) edges) (λ row after. after.1) rows next.before) (own edge next.ordered.0);
  ordered = next.ordered.1;
}
  where
    own : (edge : Label × ℕ) → ComeAfter edge.0 edges → AllByRecursion (λ row. ComeAfter (label_of row) edges) (row_of edge)
    own (Field bits (pos k), m) after = (after, tt)
    own (Field bits (negsuc k), m) after = tt
    own (In l, m) after = tt
    own (Out n, m) after = tt
    own (Load, m) after = tt
    own (Store, m) after = tt
