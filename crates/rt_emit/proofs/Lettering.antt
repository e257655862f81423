-- The letters that lines spell lead along each edge of their shape.
use Rattle.std.proofs.Common.{◌≡◌, ◌↔◌, ℕ, suc, ◌+◌, ◌<◌, length, get_or, drop, arith, ◌⊎◌, inl, inr, Option, Some, None, IsSome}
use Rattle.std.proofs.Common.{is_some, not, List, [], ◌∷◌, ◌++◌, Contains, Bool, true, false, ◌&&◌, cond, nat_eq, refl, sym, ap, subst}
use Rattle.std.proofs.Common.{◌∙◌}
use Rattle.std.proofs.Math.Seq.{drop-cons}
use Rattle.std.specs.Map.{lookup}
use Rattle.std.specs.BTreeMap.{BTreeMap}
use Rattle.std.proofs.lemmas.List.Elements.{Contains-append_cases, Contains-append_left, Contains-append_right}
use Rattle.std.proofs.lemmas.Bool.{eqb-true, eq-eqb}
use Rattle.rt_base.proofs.Lists.{Contains-none, Contains-here, Contains-cons_cases, Contains-push_cases}
use Rattle.rt_lines.specs.declared.label.Label.{Label}
use Rattle.rt_lines.specs.declared.label.Label.TheVariants.{Load, Store}
use Rattle.rt_lines.specs.declared.variable.Dtv.{Dtv}
use Rattle.rt_lines.specs.declared.line.Line.{Line}
use Rattle.rt_lines.specs.declared.line.Line.TheVariants.{Var, Same, Sub, Low, Up}
use Rattle.rt_lines.specs.Equality.{label_eq}
use Rattle.rt_lines.specs.Orders.{Below}
use Rattle.rt_lines.specs.contracts.label.LabelEq.TheImpl.Laws as label_laws
use Rattle.rt_lines.proofs.Equal.{label_equal}
use Rattle.rt_rules.specs.Rules.{longer, HasSide, Derivable}
use Rattle.rt_rules.specs.Rules.Derivable.{named, same_line, same_sub, sub_line, sub_pointer}
use Rattle.rt_shape.specs.Graphs.{Graph, letter_eq, base_of, step_of, walk, node_of, Has}
use Rattle.rt_shape.specs.Shapes.{IsShapeOf, Equates}
use Rattle.rt_shape.proofs.Models.{HaveOne, IsModel, holds}
use Rattle.rt_shape.proofs.Walks.{node_of-longer, node_of-back, one_node}
use Rattle.rt_emit.specs.Inside.Letters.{letters_at, with_edges, AddsLetter, AreAfter, AreEdges, AreKept, AreLettersOf, Enters, IsReached}
use Rattle.rt_base.proofs.Options.{some_of, is_some_of}

abbrev Edges : Type 0
Edges = List ((ℕ × Label) × ℕ)

true_false : (t : Bool) → t ≡ true → t ≡ false → ⊥
true_false t e f = cc

-- two nodes with their letters are equal, or aren't
letter_itself : (n : ℕ) (l : Label) → letter_eq (n, l) (n, l) ≡ true
letter_itself n l = rw (eq-eqb n n refl, (label_laws.laws-law).refl l) refl

letter_equal : (n k : ℕ) (l j : Label) → letter_eq (n, l) (k, j) ≡ true → (n ≡ k) × (l ≡ j)
letter_equal n k l j e = by (nat_eq n k) refl (label_eq l j) refl e
  where
    by : (s : Bool) → nat_eq n k ≡ s → (t : Bool) → label_eq l j ≡ t → (s && t) ≡ true → (n ≡ k) × (l ≡ j)
    by true f true g h = (eqb-true n k f, label_equal l j g)
    by true f false g h = absurd cc
    by false f t g h = absurd cc

none_is : (o : Option ℕ) → not (is_some o) ≡ true → IsSome o → ⊥
none_is None e h = cc
none_is (Some n) e h = cc

is_there : (o : Option ℕ) → not (is_some o) ≡ false → IsSome o
is_there None e = absurd cc
is_there (Some n) e = refl

module _ (n : ℕ) (l : Label) (m : ℕ) (old new : Edges) (enters : Enters n l m old new) where
  pub new_here : lookup (letter_eq (n, l)) new ≡ Some m
  new_here = enters (n, l) ∙ ap (λ t. cond t (Some m) (lookup (letter_eq (n, l)) old)) (letter_itself n l)

  -- the letter of a new edge is added
  pub entered : (letters letters' : BTreeMap ℕ (List Label)) → not (is_some (lookup (letter_eq (n, l)) old)) ≡ true →
      AreAfter old letters → AddsLetter n l letters letters' → AreAfter new letters'
  entered letters letters' none are adds k j = by (letter_eq (n, l) (k, j)) refl
    where
      out : (t : Bool) → nat_eq n k ≡ t → letter_eq (n, l) (k, j) ≡ false →
          Contains (cond t (letters_at letters k ++ l ∷ []) (letters_at letters k)) j → Contains (letters_at letters k) j
      out false e f c = c
      out true e f c = cases (Contains-push_cases (letters_at letters k) l j c)
        where
          cases : Contains (letters_at letters k) j ⊎ (l ≡ j) → Contains (letters_at letters k) j
          cases (inl d) = d
          cases (inr g) = absurd (true_false (letter_eq (n, l) (k, j)) (sym (λ i. letter_eq (n, l) (eqb-true n k e i, g i)) ∙
              letter_itself n l) f)

      into : (t : Bool) → Contains (letters_at letters k) j → Contains (cond t (letters_at letters k ++ l ∷ []) (letters_at letters k)) j
      into true c = Contains-append_left (letters_at letters k) (l ∷ []) j c
      into false c = c

      last : n ≡ k → l ≡ j → Contains (letters_at letters' k) j
      last e f = subst (λ ls. Contains ls j) (sym (adds k ∙
          ap (λ t. cond t (letters_at letters k ++ l ∷ []) (letters_at letters k)) (eq-eqb n k e)))
          (subst (Contains (letters_at letters k ++ l ∷ [])) f (Contains-append_right (letters_at letters k) (l ∷ []) l (Contains-here l
          [])))

      by : (t : Bool) → letter_eq (n, l) (k, j) ≡ t → Contains (letters_at letters' k) j ↔ IsSome (lookup (letter_eq (k, j)) new)
      by true e =
          let f : (n ≡ k) × (l ≡ j) = letter_equal n k l j e in
          let g : lookup (letter_eq (k, j)) new ≡ Some m = enters (k, j) ∙ ap (λ t. cond t (Some m) (lookup (letter_eq (k, j)) old)) e in
          (λ c. is_some_of (lookup (letter_eq (k, j)) new) m g, λ h. last f.0 f.1)
      by false e =
          let g : lookup (letter_eq (k, j)) new ≡ lookup (letter_eq (k, j)) old = enters (k, j) ∙
          ap (λ t. cond t (Some m) (lookup (letter_eq (k, j)) old)) e in (
            λ c. subst IsSome (sym g) ((are k j).0 (out (nat_eq n k) refl e (subst (λ ls. Contains ls j) (adds k) c))),
            λ h. subst (λ ls. Contains ls j) (sym (adds k)) (into (nat_eq n k) ((are k j).1 (subst IsSome g h))),
          )

  -- where the edge was there already, the letters stay
  pub entered_again : (letters : BTreeMap ℕ (List Label)) → not (is_some (lookup (letter_eq (n, l)) old)) ≡ false →
      AreAfter old letters → AreAfter new letters
  entered_again letters there are k j = by (letter_eq (n, l) (k, j)) refl
    where
      by : (t : Bool) → letter_eq (n, l) (k, j) ≡ t → Contains (letters_at letters k) j ↔ IsSome (lookup (letter_eq (k, j)) new)
      by true e =
          let f : (n ≡ k) × (l ≡ j) = letter_equal n k l j e in
          let g : lookup (letter_eq (k, j)) new ≡ Some m = enters (k, j) ∙ ap (λ t. cond t (Some m) (lookup (letter_eq (k, j)) old)) e in
          let was : IsSome (lookup (letter_eq (k, j)) old) =
          subst (λ (p : ℕ × Label). IsSome (lookup (letter_eq p) old)) (λ i. (f.0 i, f.1 i)) (is_there (lookup (letter_eq (
            n,
            l,
          )) old) there) in
          (λ c. is_some_of (lookup (letter_eq (k, j)) new) m g, λ h. (are k j).1 was)
      by false e =
          let g : lookup (letter_eq (k, j)) new ≡ lookup (letter_eq (k, j)) old = enters (k, j) ∙
          ap (λ t. cond t (Some m) (lookup (letter_eq (k, j)) old)) e in
          (λ c. subst IsSome (sym g) ((are k j).0 c), λ h. (are k j).1 (subst IsSome g h))

  module _ (graph : Graph) (step : step_of graph n l ≡ Some m) (reached : IsReached graph n) (are : AreEdges graph old) where
    pub still_edges : AreEdges graph new
    still_edges k j i e = by (letter_eq (n, l) (k, j)) refl (sym (enters (k, j)) ∙ e)
      where
        by : (t : Bool) → letter_eq (n, l) (k, j) ≡ t → cond t (Some m) (lookup (letter_eq (k, j)) old) ≡ Some i →
            (step_of graph k j ≡ Some i) × IsReached graph k
        by true f g =
            let p : (n ≡ k) × (l ≡ j) = letter_equal n k l j f in
            subst (λ (q : ℕ × Label). (step_of graph q.0 q.1 ≡ Some i) × IsReached graph q.0) (λ i. (p.0 i, p.1 i)) (step ∙ g, reached)
        by false f g = are k j i g

    pub still_there : AreKept old new
    still_there k j i e = enters (k, j) ∙ by (letter_eq (n, l) (k, j)) refl
      where
        by : (t : Bool) → letter_eq (n, l) (k, j) ≡ t → cond t (Some m) (lookup (letter_eq (k, j)) old) ≡ Some i
        by true f =
            let p : (n ≡ k) × (l ≡ j) = letter_equal n k l j f in
            sym (subst (λ (q : ℕ × Label). step_of graph q.0 q.1 ≡ Some m) (λ i. (p.0 i, p.1 i)) step) ∙ (are k j i e).0
        by false f = e

-- where edges are kept, a word leads where it led
pub walk_kept : (old new : Edges) → AreKept old new → (w : List Label) (o : Option ℕ) (n : ℕ) → walk old o w ≡ Some n →
    walk new o w ≡ Some n
walk_kept old new kept [] None n e = e
walk_kept old new kept (l ∷ w) None n e = e
walk_kept old new kept [] (Some m) n e = e
walk_kept old new kept (l ∷ w) (Some m) n e = by (lookup (letter_eq (m, l)) old) refl e (λ k g. walk_kept old new kept w (Some k) n g)
  where
    from_none : (u : List Label) → walk old None u ≡ Some n → ⊥
    from_none [] f = cc
    from_none (k ∷ u) f = cc

    by : (o : Option ℕ) → lookup (letter_eq (m, l)) old ≡ o → walk old o w ≡ Some n → ((k : ℕ) → walk old (Some k) w ≡ Some n →
        walk new (Some k) w ≡ Some n) →
        walk new (lookup (letter_eq (m, l)) new) w ≡ Some n
    by None f g rest = absurd (from_none w g)
    by (Some k) f g rest = subst (λ p. walk new p w ≡ Some n) (sym (kept m l k f)) (rest k g)

pub has_node_kept : (graph : Graph) (old new : Edges) → AreKept old new → (x : Dtv) (n : ℕ) →
    node_of (with_edges graph old) x ≡ Some n → node_of (with_edges graph new) x ≡ Some n
has_node_kept graph old new kept x n e = walk_kept old new kept x.word (base_of graph x.base) n e

pub has_kept : (graph : Graph) (old new : Edges) → AreKept old new → (x : Dtv) → Has (with_edges graph old) x → Has (with_edges graph new) x
has_kept graph old new kept x (n, e) = (n, walk_kept old new kept x.word (base_of graph x.base) n e)

-- what the edges lead to, the graph's edges do
pub in_graph : (graph : Graph) (edges : Edges) → AreEdges graph edges → (x : Dtv) (n : ℕ) →
    node_of (with_edges graph edges) x ≡ Some n → node_of graph x ≡ Some n
in_graph graph edges are x n e = walk_kept edges graph.edges (λ k l m f. (are k l m f).0) x.word (base_of graph x.base) n e

-- a graph whose edges are those that the sides of the lines spell has all edges of the shape
module _ (lines : List Line) (graph : Graph) (is_shape : IsShapeOf lines graph) (edges : Edges) (are : AreEdges graph edges)
    (spelled : (l : Line) (x : Dtv) → Contains lines l → HasSide l x → Has (with_edges graph edges) x) where
  abbrev part : Graph
  part = with_edges graph edges

  -- no order of constants is needed
  abbrev none_below : Below
  none_below = record { count = 0; cells = [] }

  in_whole : (x : Dtv) (n : ℕ) → node_of part x ≡ Some n → node_of graph x ≡ Some n
  in_whole = in_graph graph edges are

  there : (x : Dtv) (n : ℕ) → node_of graph x ≡ Some n → Derivable none_below lines (Var x)
  there x n e = (is_shape.there none_below x).0 (is_some_of (node_of graph x) n e)

  equated_same : (l : Line) (x y : Dtv) → Contains lines l → Equates l x y →
      Derivable none_below lines (Same x y) × HasSide l x × HasSide l y
  equated_same (Var z) x y c h = absurd h
  equated_same (Same u v) x y c (e, f) = (
    subst (λ z. Derivable none_below lines (Same x z)) f (subst (λ z. Derivable none_below lines
        (Same z v)) e (same_line c)),
    inl e,
    inr f,
  )
  equated_same (Sub u v) x y c (e, f) = (
    subst (λ z. Derivable none_below lines (Same x z)) f (subst (λ z. Derivable none_below lines
        (Same z v)) e (same_sub (sub_line c))),
    inl e,
    inr f,
  )
  equated_same (Low k z) x y c h = absurd h
  equated_same (Up z k) x y c h = absurd h

  equated : (l : Line) (x y : Dtv) → Contains lines l → Equates l x y → HaveOne part x y
  equated l x y c h =
      let s : Derivable none_below lines (Same x y) × HasSide l x × HasSide l y = equated_same l x y c h in
      let m : Has part x = spelled l x c s.1 in
      let n : Has part y = spelled l y c s.2 in
      let same : m.0 ≡ n.0 = (is_shape.one none_below x y m.0 n.0 (in_whole x m.0 m.1) (in_whole y n.0 n.1)).1 s.0 in
      (m.0, m.1, n.1 ∙ ap Some (sym same))

  pointers : (m i j : ℕ) → step_of part m Load ≡ Some i → step_of part m Store ≡ Some j → i ≡ j
  pointers m i j e f =
      let load : (step_of graph m Load ≡ Some i) × IsReached graph m = are m Load i e in
      let store : (step_of graph m Store ≡ Some j) × IsReached graph m = are m Store j f in
      let x : IsReached graph m = load.1 in
      let to_load : node_of graph (longer x.0 Load) ≡ Some i = node_of-longer graph x.0 Load m x.1 ∙ load.0 in
      let to_store : node_of graph (longer x.0 Store) ≡ Some j = node_of-longer graph x.0 Store m x.1 ∙ store.0 in
      let same : Derivable none_below lines (Same (longer x.0 Store) (longer x.0 Load)) =
      same_sub (sub_pointer x.0 (there (longer x.0 Load) i to_load) (there (longer x.0 Store) j to_store)) in
      sym ((is_shape.one none_below (longer x.0 Store) (longer x.0 Load) j i to_store to_load).1 same)

  model : IsModel lines part
  model = record { sides = spelled; equated = equated; pointers = pointers }

  all_edges : (n : ℕ) (l : Label) (m : ℕ) → IsReached graph n → step_of graph n l ≡ Some m → lookup (letter_eq (n, l)) edges ≡ Some m
  all_edges n l m x e =
      let d : Derivable none_below lines (Var (longer x.0 l)) = there (longer x.0 l) m (node_of-longer graph x.0 l n x.1 ∙ e) in
      let h : Has part (longer x.0 l) = holds none_below lines part model d in
      let b = node_of-back part x.0 l h.0 h.1 in
      let same : b.0 ≡ n = one_node graph x.0 b.0 n (in_whole x.0 b.0 b.1) x.1 in
      let step : lookup (letter_eq (n, l)) edges ≡ Some h.0 = subst (λ k. lookup (letter_eq (k, l)) edges ≡ Some h.0) same b.2 in
      step ∙ sym (are n l h.0 step).0 ∙ e

  pub are_letters : (letters : BTreeMap ℕ (List Label)) → AreAfter edges letters → AreLettersOf graph letters
  are_letters letters after n l x = (
    λ c. let s = some_of (lookup (letter_eq (n, l)) edges) ((after n l).0 c) in is_some_of (step_of graph n l) s.0 (are n l s.0 s.1).0,
    λ h. let s = some_of (step_of graph n l) h in (after n l).1 (is_some_of (lookup (letter_eq (n, l)) edges) s.0 (all_edges n l s.0 x s.1)),
  )

-- the sides of a line that has one, and of a line that has two
pub one_walked : (graph : Graph) (edges : Edges) (x : Dtv) → Has (with_edges graph edges) x → (z : Dtv) → x ≡ z →
    Has (with_edges graph edges) z
one_walked graph edges x h z e = subst (λ v. Has (with_edges graph edges) v) e h

pub two_walked : (graph : Graph) (between edges : Edges) → AreKept between edges → (x y : Dtv) → Has (with_edges graph between) x →
    Has (with_edges graph edges) y →
    (z : Dtv) → (x ≡ z) ⊎ (y ≡ z) → Has (with_edges graph edges) z
two_walked graph between edges kept x y h k z (inl e) =
    subst (λ v. Has (with_edges graph edges) v) e (has_kept graph between edges kept x h)
two_walked graph between edges kept x y h k z (inr e) = subst (λ v. Has (with_edges graph edges) v) e k

pub sides_walked : (l : Line) (x y : Dtv) (graph : Graph) (between edges : Edges) → (l ≡ Same x y) ⊎ (l ≡ Sub x y) → AreKept between edges →
    Has (with_edges graph between) x → Has (with_edges graph edges) y → (z : Dtv) → HasSide l z → Has (with_edges graph edges) z
sides_walked l x y graph between edges (inl e) kept h k z s = two_walked graph between edges kept x y h k z (subst (λ m. HasSide m z) e s)
sides_walked l x y graph between edges (inr e) kept h k z s = two_walked graph between edges kept x y h k z (subst (λ m. HasSide m z) e s)

-- the lines of a loop, one turn further
pub next_spelled : (lines : List Line) (l : Line) (graph : Graph) (old new : Edges) → AreKept old new →
    ((k : Line) (x : Dtv) → Contains lines k → HasSide k x → Has (with_edges graph old) x) → ((x : Dtv) → HasSide l x →
    Has (with_edges graph new) x) →
    (k : Line) (x : Dtv) → Contains (lines ++ l ∷ []) k → HasSide k x → Has (with_edges graph new) x
next_spelled lines l graph old new kept before here k x c h = by (Contains-append_cases lines (l ∷ []) k c)
  where
    last : (l ≡ k) ⊎ Contains [] k → Has (with_edges graph new) x
    last (inl e) = here x (subst (λ m. HasSide m x) (sym e) h)
    last (inr d) = absurd (Contains-none k d)

    by : Contains lines k ⊎ Contains (l ∷ []) k → Has (with_edges graph new) x
    by (inl d) = has_kept graph old new kept x (before k x d h)
    by (inr d) = last (Contains-cons_cases l [] k d)

-- the sides of a line of the list have nodes in its shape
pub side_there : (lines : List Line) (graph : Graph) → IsShapeOf lines graph → (l : Line) (x : Dtv) → Contains lines l → HasSide l x →
    Has graph x
side_there lines graph is_shape l x c h = some_of (node_of graph x) ((is_shape.there (record { count = 0; cells = [] }) x).1 (named l c h))

-- the letters that are left, one letter further
pub drop_next : (items : List Label) (i : ℕ) (d : Label) → i < length items → drop i items ≡ get_or items i d ∷ drop (i + 1) items
drop_next items i d less =
    let e : suc i ≡ i + 1 = omega arith in
    drop-cons items i d less ∙ ap (λ k. get_or items i d ∷ drop k items) e
