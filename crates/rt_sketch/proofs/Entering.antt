-- Letters entered into the rows of nodes.
use Rattle.std.proofs.Common.{◌≡◌, ℕ, ◌+◌, ◌<◌, ◌≤◌, ◌⊎◌, inl, inr, All, true, false, List, [], Contains, None, Some, length, map, get_or, set, refl, sym, ap, subst, ◌∙◌, arith, get_or-set_same, get_or-set_other}
use Rattle.std.specs.Prelude.{slice_get}
use Rattle.std.specs.List.{list_any}
use Rattle.std.proofs.lemmas.Bool.{cases_eq}
use Rattle.std.proofs.lemmas.List.{get_or-map, get_or_past, length-map, length-set, map-set}
use Rattle.std.proofs.lemmas.List.Elements.{All-get_or, All-nil}
use Rattle.std.proofs.lemmas.Option.{slice_get_cases, slice_get_within}
use Rattle.std.proofs.lemmas.Map.Entries.{place_from_lookup}
use Rattle.indexmap.specs.IndexSet.{insert_key}
use Rattle.indexmap.proofs.CallerLemmas.{Contains-insert_key, Contains-list_any}
use Rattle.rt_base.proofs.Lists.{list_any-from}
use Rattle.rt_base.proofs.Options.{one_some}
use Rattle.rt_lines.specs.declared.label.Label.{Label}
use Rattle.rt_lines.specs.declared.line.Line.{Line}
use Rattle.rt_lines.specs.Equality.{label_eq}
use Rattle.rt_lines.specs.Words.{IsLabel}
use Rattle.rt_lines.proofs.Equal.{label_equal}
use Rattle.rt_lines.proofs.Same.{label_self}
use Rattle.rt_shape.specs.Graphs.{Graph, letter_eq, step_of}
use Rattle.rt_shape.proofs.Letters.{letter_equal}
use Rattle.rt_sketch.specs.declared.machine.Machine.{Machine}
use Rattle.rt_sketch.specs.declared.state.State.{State}
use Rattle.rt_sketch.specs.Growths.{HasNextAt, HasNextRows}
use Rattle.rt_sketch.specs.Inside.Rows.{AreEntered, AreRows}
use Rattle.rt_sketch.proofs.Occurring.{insert_good, insert_keeps}

-- rows without letters
module _ {R : Type 0} (keys : R → List Label) (rows : List R) (empty : All (λ r. keys r ≡ []) rows) where
  empty_at : (n : ℕ) → get_or (map keys rows) n [] ≡ []
  empty_at n = by (slice_get_cases rows n).1
    where
      by : ((r : R) × (n < length rows) × (slice_get rows n ≡ Some r) × (get_or rows n r ≡ r)) ⊎ ((length rows ≤ n) × (slice_get rows n ≡ None)) → get_or (map keys rows) n [] ≡ []
      by (inl (r, less, at, e)) = get_or-map keys rows n r [] less ∙ All-get_or (λ s. keys s ≡ []) rows n r less empty
      by (inr (most, e)) = get_or_past (map keys rows) n [] (omega (arith, length-map rows keys, most))

  pub entered_start : (graph : Graph) (letters : List Label) → length rows ≡ graph.count → AreEntered graph letters 0 (map keys rows)
  entered_start graph letters e = record {
    size = length-map rows keys ∙ e;
    all = λ j n l m less at c. absurd (omega (arith, less));
    good = λ n. subst (All IsLabel) (sym (empty_at n)) (All-nil IsLabel);
  }

module _ (graph : Graph) (letters : List Label) (i : ℕ) (rows : List (List Label)) (was : AreEntered graph letters i rows) (n : ℕ) (l : Label) (m : ℕ) (at : slice_get graph.edges i ≡ Some ((n, l), m)) where
  -- an edge further
  further : (new : List (List Label)) → length new ≡ length rows → ((p : ℕ) (k : Label) → Contains (get_or rows p []) k → Contains (get_or new p []) k) →
      (Contains letters l → Contains (get_or new n []) l) → ((p : ℕ) → All IsLabel (get_or new p [])) → AreEntered graph letters (i + 1) new
  further new size kept here good = record {
    size = size ∙ was.size;
    all = λ j p k q less e c. by j p k q less e c (cases_eq j i);
    good = good;
  }
    where
      by : (j p : ℕ) (k : Label) (q : ℕ) → j < i + 1 → slice_get graph.edges j ≡ Some ((p, k), q) → Contains letters k → (j ≡ i) ⊎ (j ≡ i → ⊥) → Contains (get_or new p []) k
      by j p k q less e c (inl same) =
          let one : ((n, l), m) ≡ ((p, k), q) = one_some (slice_get graph.edges i) ((n, l), m) ((p, k), q) at (ap (slice_get graph.edges) (sym same) ∙ e) in
          subst (λ (z : (ℕ × Label) × ℕ). Contains letters z.0.1 → Contains (get_or new z.0.0 []) z.0.1) one here c
      by j p k q less e c (inr other) = kept p k (was.all j p k q (omega (arith, less, other)) e c)

  -- whose letter isn't among the letters
  pub entered_none : (Contains letters l → ⊥) → AreEntered graph letters (i + 1) rows
  entered_none not = further rows refl (λ p k c. c) (λ c. absurd (not c)) was.good

  -- whose letter is entered
  pub entered_next : (new : List (List Label)) → n < length rows → IsLabel l → new ≡ set rows n (insert_key label_eq (get_or rows n []) l) → AreEntered graph letters (i + 1) new
  entered_next new less is e = further new (ap length e ∙ length-set rows n row) (λ p k c. kept p k c (cases_eq p n)) (λ c. subst (λ ks. Contains ks l) (sym here) (Contains-insert_key label_eq label_equal (get_or rows n []) l)) (λ p. good p (cases_eq p n))
    where
      row : List Label
      row = insert_key label_eq (get_or rows n []) l

      here : get_or new n [] ≡ row
      here = ap (λ rs. get_or rs n []) e ∙ get_or-set_same rows n row [] less

      there : (p : ℕ) → (p ≡ n → ⊥) → get_or new p [] ≡ get_or rows p []
      there p other = ap (λ rs. get_or rs p []) e ∙ get_or-set_other rows n p row [] other

      kept : (p : ℕ) (k : Label) → Contains (get_or rows p []) k → (p ≡ n) ⊎ (p ≡ n → ⊥) → Contains (get_or new p []) k
      kept p k c (inl same) =
          subst (λ q. Contains (get_or new q []) k) (sym same)
          (subst (λ ks. Contains ks k) (sym here) (insert_keeps (get_or rows n []) l k (subst (λ q. Contains (get_or rows q []) k) same c)))
      kept p k c (inr other) = subst (λ ks. Contains ks k) (sym (there p other)) c

      good : (p : ℕ) → (p ≡ n) ⊎ (p ≡ n → ⊥) → All IsLabel (get_or new p [])
      good p (inl same) = subst (λ q. All IsLabel (get_or new q [])) (sym same) (subst (All IsLabel) (sym here) (insert_good (get_or rows n []) l is (was.good n)))
      good p (inr other) = subst (All IsLabel) (sym (there p other)) (was.good p)

-- all edges
pub entered_all : (graph : Graph) (letters : List Label) (i : ℕ) (rows : List (List Label)) → length graph.edges ≤ i → AreEntered graph letters i rows → AreRows graph letters rows
entered_all graph letters i rows most was = record { all = all; good = was.good }
  where
    all : (n : ℕ) (l : Label) (m : ℕ) → step_of graph n l ≡ Some m → Contains letters l → Contains (get_or rows n []) l
    all n l m e c =
        let p : (j : ℕ) × (t : ℕ × Label) × (slice_get graph.edges j ≡ Some (t, m)) × (letter_eq (n, l) t ≡ true) = place_from_lookup (letter_eq (n, l)) graph.edges m e in
        let same : (n, l) ≡ p.1 = letter_equal (n, l) p.1 p.3 in
        let less : p.0 < length graph.edges = slice_get_within graph.edges p.0 (p.1, m) p.2 in
        was.all p.0 n l m (omega (arith, less, most)) (p.2 ∙ ap (λ t. Some (t, m)) (sym same)) c

-- letters that are found among others are good, and those that aren't found aren't there
pub good_among : (letters : List Label) (l : Label) → All IsLabel letters → list_any (label_eq l) letters ≡ true → IsLabel l
good_among letters l good e =
    let c : Contains letters l = Contains-list_any label_eq label_equal letters l e in
    subst IsLabel c.2 (All-get_or IsLabel letters c.0 l c.1 good)

pub not_among : (letters : List Label) (l : Label) → list_any (label_eq l) letters ≡ false → Contains letters l → ⊥
not_among letters l e c = (let h : list_any (label_eq l) letters ≡ true = list_any-from (label_eq l) letters l c (label_self l) in cc)

-- rows as the lists of their letters
module _ {R : Type 0} (keys : R → List Label) (rows : List R) (n : ℕ) where
  row_at : (r : R) → n < length rows → r ≡ get_or rows n r → keys r ≡ get_or (map keys rows) n []
  row_at r less read = ap keys read ∙ sym (get_or-map keys rows n r [] less)

  pub row_entered : (r new : R) (l : Label) → n < length rows → r ≡ get_or rows n r → keys new ≡ insert_key label_eq (keys r) l →
      map keys (set rows n new) ≡ set (map keys rows) n (insert_key label_eq (get_or (map keys rows) n []) l)
  row_entered r new l less read e = map-set keys rows n new ∙ ap (set (map keys rows) n) (e ∙ ap (λ ks. insert_key label_eq ks l) (row_at r less read))

-- what is behind the state of a number
module _ (lines : List Line) (machine : Machine) (states : List State) (n : ℕ) where
  pub next_here : (rows : List (List Label)) (letters : List Label) (t : State) → slice_get states n ≡ Some t → letters ≡ get_or rows t.node [] → HasNextRows lines machine rows →
      HasNextAt lines machine states n letters
  next_here rows letters t at is next order s x l e d v =
      subst (λ ks. Contains ks l) (sym (is ∙ ap (λ (u : State). get_or rows u.node []) (one_some (slice_get states n) t s at e))) (next order s x l d v)
