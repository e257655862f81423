-- Rows of numbers of lines.
use Rattle.std.proofs.Common.{◌≡◌, ℕ, ◌+◌, ◌<◌, ◌⊎◌, inl, inr, List, [], ◌∷◌, ◌++◌, Bool, true, false, Option, Some, Contains, length, get_or, set, sym, ap, subst, ◌∙◌, arith, get_or-set_same, get_or-set_other}
use Rattle.std.specs.Prelude.{slice_get, slice_index_or}
use Rattle.std.proofs.lemmas.Bool.{cases_eq}
use Rattle.std.proofs.lemmas.List.{length-set, get_or_read}
use Rattle.std.proofs.lemmas.List.Elements.{Contains-append_left}
use Rattle.std.proofs.lemmas.Option.{get_or_from_slice_get, slice_get_within}
use Rattle.rt_lines.specs.declared.variable.Dtv.{Dtv}
use Rattle.rt_lines.specs.declared.line.Line.{Line}
use Rattle.rt_lines.specs.declared.line.Line.TheVariants.{Var, Same}
use Rattle.rt_lines.specs.Orders.{Below}
use Rattle.rt_lines.specs.declared.label.Label.{Label}
use Rattle.rt_rules.specs.Rules.{longer, Derivable}
use Rattle.rt_rules.proofs.Carry.{are_there, given}
use Rattle.rt_rules.proofs.Covering.{derives_more}
use Rattle.rt_shape.specs.Graphs.{Graph, bare, node_of}
use Rattle.rt_shape.specs.Shapes.{IsFront, IsShapeOf}
use Rattle.rt_shape.proofs.Fronts.{front_of}
use Rattle.rt_witness.proofs.Fronts.{front_of_bare, front_of_longer}
use Rattle.rt_base.proofs.Lists.{Contains-push_cases}
use Rattle.rt_base.proofs.Options.{some_of}
use Rattle.rt_witness.specs.Witnesses.{AreKept, AreNoted, HasFront, HasMore, IsLeft, IsNotedAt, IsNotedIn}
use Rattle.rt_witness.proofs.There.{has_witness, HasWitness}

among : (lines left : List Line) (stands : List Bool) → IsLeft lines stands left → (l : Line) → Contains left l → Contains lines l
among lines left stands is l c =
    let r : (i : ℕ) × (slice_get lines i ≡ Some l) × (slice_index_or stands i false ≡ true) = is.only l c in
    (r.0, slice_get_within lines r.0 l r.1, get_or_from_slice_get lines r.0 l l r.1)

-- where no line that stands names a variable of the node, a variable of the node isn't there
pub none_there : (order : Below) (lines left : List Line) (stands : List Bool) (graph : Graph) (rows : List (List ℕ)) (x : Dtv) (node : ℕ) →
    IsShapeOf lines graph → AreNoted graph lines (length lines) rows → IsLeft lines stands left → node_of graph x ≡ Some node →
    node < length rows → ((i : ℕ) → Contains (slice_index_or rows node []) i → slice_index_or stands i false ≡ false) →
    Derivable order left (Var x) → ⊥
none_there order lines left stands graph rows x node shape noted is at less unset d = by (has_witness order left x d)
  where
    by : HasWitness order left x → ⊥
    by (y, (l, z, c, h, f), s) =
        let same : Derivable order lines (Same y x) =
        derives_more order left lines (λ k e. given order lines k (among lines left stands is k e)) s in
        let n : (m : ℕ) × (node_of graph y ≡ Some m) = some_of (node_of graph y) ((shape.there order y).1 (are_there order lines same).0) in
        let e : n.0 ≡ node = (shape.one order y x n.0 node n.1 at).1 same in
        let r : (i : ℕ) × (slice_get lines i ≡ Some l) × (slice_index_or stands i false ≡ true) = is.only l c in
        let k : Contains (slice_index_or rows node []) r.0 =
        noted r.0 l y (slice_get_within lines r.0 l r.1) r.1 (z, h, f) node (n.1 ∙ ap Some e) less in
        let u : slice_index_or stands r.0 false ≡ false = unset r.0 k in
        let v : slice_index_or stands r.0 false ≡ true = r.2 in
        absurd (cc)

pub AreKept-self : (rows now : List (List ℕ)) → now ≡ rows → AreKept rows now
AreKept-self rows now e = record {
  size = ap length e;
  kept = λ n i c. subst (λ (rs : List (List ℕ)). Contains (slice_index_or rs n []) i) (sym e) c;
}

pub AreKept-chain : (old between new : List (List ℕ)) → AreKept old between → AreKept between new → AreKept old new
AreKept-chain old between new first second = record {
  size = second.size ∙ first.size;
  kept = λ n i c. second.kept n i (first.kept n i c);
}

-- what is noted stays so
pub noted_kept : (graph : Graph) (old new : List (List ℕ)) (i : ℕ) (y : Dtv) → AreKept old new → IsNotedIn graph old i y → IsNotedIn graph new i y
noted_kept graph old new i y kept noted n e less =
    let h : length new ≡ length old = kept.size in
    kept.kept n i (noted n e (omega (arith, h, less)))

-- a number more in a row
pub AreKept-push : (rows : List (List ℕ)) (node i : ℕ) (row new : List ℕ) → node < length rows → row ≡ get_or rows node row → new ≡ row ++ i ∷ [] →
    AreKept rows (set rows node new)
AreKept-push rows node i row new less read e = record {
  size = length-set rows node new;
  kept = λ n j c. by n j c (cases_eq n node);
}
  where
    here : row ≡ get_or rows node []
    here = get_or_read rows node row less read []

    by : (n j : ℕ) → Contains (get_or rows n []) j → (n ≡ node) ⊎ (n ≡ node → ⊥) → Contains (get_or (set rows node new) n []) j
    by n j c (inl f) =
        let d : Contains row j = subst (λ ks. Contains ks j) (ap (λ m. get_or rows m []) f ∙ sym here) c in
        subst (λ ks. Contains ks j) (sym (ap (λ m. get_or (set rows node new) m []) f ∙ get_or-set_same rows node new [] less))
        (subst (λ ks. Contains ks j) (sym e) (Contains-append_left row (i ∷ []) j d))
    by n j c (inr ne) = subst (λ ks. Contains ks j) (sym (get_or-set_other rows node n new [] ne)) c

pub HasMore-push : (rows : List (List ℕ)) (node i : ℕ) (row new : List ℕ) → node < length rows → row ≡ get_or rows node row → new ≡ row ++ i ∷ [] →
    HasMore rows node i (set rows node new)
HasMore-push rows node i row new less read e n j c = by (cases_eq n node)
  where
    here : row ≡ get_or rows node []
    here = get_or_read rows node row less read []

    here_now : get_or (set rows node new) node [] ≡ row ++ i ∷ []
    here_now = get_or-set_same rows node new [] less ∙ e

    by : (n ≡ node) ⊎ (n ≡ node → ⊥) → Contains (get_or rows n []) j ⊎ ((n ≡ node) × (j ≡ i))
    by (inl f) = last (Contains-push_cases row i j (subst (λ ks. Contains ks j) (ap (λ m. get_or (set rows node new) m []) f ∙ here_now) c))
      where
        last : Contains row j ⊎ (i ≡ j) → Contains (get_or rows n []) j ⊎ ((n ≡ node) × (j ≡ i))
        last (inl d) = inl (subst (λ ks. Contains ks j) (here ∙ ap (λ m. get_or rows m []) (sym f)) d)
        last (inr g) = inr (f, sym g)
    by (inr ne) = inl (subst (λ ks. Contains ks j) (get_or-set_other rows node n new [] ne) c)

pub HasMore-self : (rows now : List (List ℕ)) (node i : ℕ) → now ≡ rows → HasMore rows node i now
HasMore-self rows now node i e n j c = inl (subst (λ (rs : List (List ℕ)). Contains (slice_index_or rs n []) j) e c)

-- fronts noted letter by letter
pub noted_first : (graph : Graph) (rows : List (List ℕ)) (i : ℕ) (x y : Dtv) (found : Option ℕ) → found ≡ node_of graph (bare x.base) →
    IsNotedAt rows i found → IsFront y (front_of x 0) → IsNotedIn graph rows i y
noted_first graph rows i x y found e noted f =
    subst (IsNotedIn graph rows i) (sym (front_of_bare y x.base f)) (subst (IsNotedAt rows i) e noted)

pub noted_next : (graph : Graph) (old new : List (List ℕ)) (i : ℕ) (before after : Dtv) (found : Option ℕ) (y : Dtv) (l : Label) →
    longer before l ≡ after → found ≡ node_of graph after → ((z : Dtv) → IsFront z before → IsNotedIn graph old i z) → AreKept old new →
    IsNotedAt new i found → IsFront y after → IsNotedIn graph new i y
noted_next graph old new i before after found y l more same earlier kept noted f = by (front_of_longer y before l (subst (IsFront y) (sym more) f))
  where
    by : (y ≡ longer before l) ⊎ IsFront y before → IsNotedIn graph new i y
    by (inl e) = subst (IsNotedIn graph new i) (sym more ∙ sym e) (subst (IsNotedAt new i) same noted)
    by (inr g) = noted_kept graph old new i y kept (earlier y g)

pub none_yet : (graph : Graph) (lines : List Line) (rows : List (List ℕ)) → AreNoted graph lines 0 rows
none_yet graph lines rows j l y h at f = absurd (omega (arith, h))

-- one line further
pub noted_line : (graph : Graph) (lines : List Line) (old new : List (List ℕ)) (i : ℕ) (line : Line) → line ≡ get_or lines i line →
    AreNoted graph lines i old → AreKept old new → ((y : Dtv) → HasFront line y → IsNotedIn graph new i y) →
    AreNoted graph lines (i + 1) new
noted_line graph lines old new i line is earlier kept noted j l y h at f = by (cases_eq j i)
  where
    by : (j ≡ i) ⊎ (j ≡ i → ⊥) → IsNotedIn graph new j y
    by (inl e) =
        let same : line ≡ l =
        is ∙ ap (λ k. get_or lines k line) (sym e) ∙ get_or_from_slice_get lines j l line at in
        subst (λ k. IsNotedIn graph new k y) (sym e) (noted y (subst (λ m. HasFront m y) (sym same) f))
    by (inr ne) = noted_kept graph old new j y kept (earlier j l y (omega (arith, h, ne)) at f)
