-- Graphs that grow by what the pointers of a tree lead to.
use Rattle.std.proofs.Common.{◌≡◌, ℕ, pos, negsuc, ◌⊎◌, inl, inr, ◌+◌, ◌<◌, ◌≤◌, ◌==◌, ◌&&◌, Bool, true, false, cond, Some, None, List, [], ◌∷◌, ◌++◌, length, refl, sym, ap, subst, ◌∙◌, arith}
use Rattle.std.specs.Option.{option_map}
use Rattle.std.proofs.lemmas.Bool.{and_from, eq-eqb, eqb-true, and_parts}
use Rattle.rt_lines.specs.declared.label.Label.{Label}
use Rattle.rt_lines.specs.declared.label.Label.TheVariants.{In, Out, Load, Store, Field}
use Rattle.rt_lines.specs.Equality.{label_eq}
use Rattle.rt_tree.specs.Trees.{Nodes, step_of, node_at, joined}
use Rattle.rt_lines.proofs.Equal.{label_equal}
use Rattle.rt_erase.specs.declared.row.Row.{Row}
use Rattle.rt_erase.specs.declared.extremes.Extremes.{Extremes}
use Rattle.rt_erase.specs.Rows.{fields_of, label_of, row_at}
use Rattle.rt_erase.specs.Erasures.{erased_step, rows_step, target_of}
use Rattle.rt_erase.specs.Inside.Erasing.{IsErasing, KeepsBelow}
use Rattle.rt_erase.proofs.Edging.{same_step, joined_at, joined_marks, joined_other}
use Rattle.rt_base.proofs.Numbers.{before_or}
use Rattle.rt_lines.proofs.Same.{label_self}
use Rattle.rt_tree.proofs.Reaching.{joined_length, new_step}

-- growth from a node on
pub keeps_itself : (start : ℕ) (graph : Nodes) → KeepsBelow start graph graph
keeps_itself start graph = record { longer = omega arith; same = λ n less. refl }

pub keeps_then : (start : ℕ) (old graph new : Nodes) → KeepsBelow start old graph → KeepsBelow start graph new → KeepsBelow start old new
keeps_then start old graph new first second = record {
  longer = let a = first.longer in let b = second.longer in omega arith;
  same = λ n less. second.same n less ∙ first.same n less;
}

-- an edge of a node from start on
pub keeps_joined : (start n : ℕ) (graph : Nodes) (l : Label) (to : ℕ) → KeepsBelow start graph (joined graph (start + n) l to)
keeps_joined start n graph l to = record {
  longer = let e = joined_length graph (start + n) l to in omega arith;
  same = λ k less. joined_at graph (start + n) l to k (λ e. omega arith);
}

-- no fields lead nowhere
no_rows : (extremes : Extremes) (start : ℕ) (tree : Nodes) (l : Label) → rows_step extremes start tree [] l ≡ None
no_rows extremes start tree (Field bits (pos k)) = refl
no_rows extremes start tree (Field bits (negsuc k)) = refl
no_rows extremes start tree (In l) = refl
no_rows extremes start tree (Out n) = refl
no_rows extremes start tree Load = refl
no_rows extremes start tree Store = refl

-- the first field of a width at an offset, among rows with one more
row_there : (rows : List Row) (row : Row) → row_at rows row.bits row.offset ≡ None → row_at (rows ++ row ∷ []) row.bits row.offset ≡ Some row
row_there [] row none = here (row.offset == row.offset && row.bits == row.bits) (and_from (row.offset == row.offset) (row.bits == row.bits) (eq-eqb row.offset row.offset refl) (eq-eqb row.bits row.bits refl))
  where
    here : (b : Bool) → b ≡ true → cond b (Some row) None ≡ Some row
    here true e = refl
    here false e = cc
row_there (first ∷ rows) row none = by (first.offset == row.offset && first.bits == row.bits) none (row_there rows row)
  where
    by : (b : Bool) → cond b (Some first) (row_at rows row.bits row.offset) ≡ None →
        (row_at rows row.bits row.offset ≡ None → row_at (rows ++ row ∷ []) row.bits row.offset ≡ Some row) →
        cond b (Some first) (row_at (rows ++ row ∷ []) row.bits row.offset) ≡ Some row
    by true e rest = cc
    by false e rest = rest e

row_other : (rows : List Row) (row : Row) (bits k : ℕ) → ((row.offset == k && row.bits == bits) ≡ true → ⊥) → row_at (rows ++ row ∷ []) bits k ≡ row_at rows bits k
row_other [] row bits k not = by (row.offset == k && row.bits == bits) not
  where
    by : (b : Bool) → (b ≡ true → ⊥) → cond b (Some row) None ≡ None
    by true not = absurd (not refl)
    by false not = refl
row_other (first ∷ rows) row bits k not = ap (cond (first.offset == k && first.bits == bits) (Some first)) (row_other rows row bits k not)

-- where a label leads with one field more
step_there : (extremes : Extremes) (start : ℕ) (tree : Nodes) (rows : List Row) (row : Row) → row_at rows row.bits row.offset ≡ None →
    rows_step extremes start tree (rows ++ row ∷ []) (label_of row) ≡ Some (target_of extremes start tree row)
step_there extremes start tree rows row none = ap (option_map (target_of extremes start tree)) (row_there rows row none)

step_other : (extremes : Extremes) (start : ℕ) (tree : Nodes) (rows : List Row) (row : Row) (l : Label) → (l ≡ label_of row → ⊥) →
    rows_step extremes start tree (rows ++ row ∷ []) l ≡ rows_step extremes start tree rows l
step_other extremes start tree rows row (Field bits (pos k)) other =
    ap (option_map (target_of extremes start tree))
    (row_other rows row bits k (λ both.
    let parts = and_parts (row.offset == k) (row.bits == bits) both in
    let offset : row.offset ≡ k = eqb-true row.offset k parts.0 in
    let width : row.bits ≡ bits = eqb-true row.bits bits parts.1 in
    other (λ i. Field (sym width i) (pos (sym offset i)))))
step_other extremes start tree rows row (Field bits (negsuc k)) other = refl
step_other extremes start tree rows row (In l) other = refl
step_other extremes start tree rows row (Out n) other = refl
step_other extremes start tree rows row Load other = refl
step_other extremes start tree rows row Store other = refl

-- nothing leads there yet by the label of a field
pub free_field : (extremes : Extremes) (start : ℕ) (tree : Nodes) (n : ℕ) (rows : List Row) (graph : Nodes) (row : Row) → n < length tree →
    row_at rows row.bits row.offset ≡ None → IsErasing extremes start tree n rows graph → step_of graph (start + n) (label_of row) ≡ None
free_field extremes start tree n rows graph row less none is = is.here less (label_of row) ∙ ap (option_map (target_of extremes start tree)) none

label_cases : (k l : Label) → (k ≡ l) ⊎ (k ≡ l → ⊥)
label_cases k l = by (label_eq k l) refl
  where
    by : (b : Bool) → label_eq k l ≡ b → (k ≡ l) ⊎ (k ≡ l → ⊥)
    by true e = inl (label_equal k l e)
    by false e = inr (λ same. let clash : true ≡ false = sym (label_self k) ∙ (ap (label_eq k) same ∙ e) in cc)

pub erasing_field : (extremes : Extremes) (start : ℕ) (tree : Nodes) (n : ℕ) (rows : List Row) (graph : Nodes) (row : Row) →
    n < length tree → start + length tree ≤ length graph → row_at rows row.bits row.offset ≡ None → IsErasing extremes start tree n rows graph →
    IsErasing extremes start tree n (rows ++ row ∷ []) (joined graph (start + n) (label_of row) (target_of extremes start tree row))
erasing_field extremes start tree n rows graph row less within none is = record {
  marks = λ k inside. joined_marks graph (start + n) l to (start + k) from ∙ is.marks k inside;
  before = λ k smaller m. same_step graph new (start + k) m (apart k (λ e. omega arith)) ∙ is.before k smaller m;
  here = λ inside m. here m (label_cases m l);
  after = λ k greater inside m. same_step graph new (start + k) m (apart k (λ e. omega arith)) ∙ is.after k greater inside m;
}
  where
    l : Label
    l = label_of row

    to : ℕ
    to = target_of extremes start tree row

    new : Nodes
    new = joined graph (start + n) (label_of row) (target_of extremes start tree row)

    from : start + n < length graph
    from = omega arith

    apart : (k : ℕ) → (k ≡ n → ⊥) → node_at (joined graph (start + n) (label_of row) (target_of extremes start tree row)) (start + k) ≡ node_at graph (start + k)
    apart k other = joined_at graph (start + n) (label_of row) (target_of extremes start tree row) (start + k) (λ e. other (omega arith))

    here : (m : Label) → (m ≡ label_of row) ⊎ (m ≡ label_of row → ⊥) →
        step_of (joined graph (start + n) (label_of row) (target_of extremes start tree row)) (start + n) m ≡ rows_step extremes start tree (rows ++ row ∷ []) m
    here m (inl same) =
        subst (λ k. step_of (joined graph (start + n) (label_of row) (target_of extremes start tree row)) (start + n) k ≡ rows_step extremes start tree (rows ++ row ∷ []) k) (sym same)
        (new_step graph (start + n) (label_of row) (target_of extremes start tree row) (omega arith) (free_field extremes start tree n rows graph row less none is)
        ∙ sym (step_there extremes start tree rows row none))
    here m (inr other) =
        joined_other graph (start + n) (label_of row) (target_of extremes start tree row) m (omega arith) other
        ∙ (is.here less m ∙ sym (step_other extremes start tree rows row m other))

-- from one node to the next
pub erasing_next : (extremes : Extremes) (start : ℕ) (tree : Nodes) (n : ℕ) (graph : Nodes) → n < length tree →
    IsErasing extremes start tree n (fields_of (node_at tree n)) graph → IsErasing extremes start tree (n + 1) [] graph
erasing_next extremes start tree n graph less is = record {
  marks = is.marks;
  before = λ k smaller l. before k l (before_or n k smaller);
  here = λ inside l. is.after (n + 1) (omega arith) inside l ∙ sym (no_rows extremes start tree l);
  after = λ k greater inside l. is.after k (omega arith) inside l;
}
  where
    before : (k : ℕ) (l : Label) → (k < n) ⊎ (k ≡ n) → step_of graph (start + k) l ≡ erased_step extremes start tree k l
    before k l (inl smaller) = is.before k smaller l
    before k l (inr same) = subst (λ i. step_of graph (start + i) l ≡ erased_step extremes start tree i l) (sym same) (is.here less l)
