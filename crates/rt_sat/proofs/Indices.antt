-- Indices of edges, entered one by one.
use Rattle.std.proofs.Common.{◌≡◌, ℕ, ◌+◌, ◌-◌, ◌<◌, ◌⊎◌, inl, inr, List, [], ◌∷◌, ◌++◌, Contains, length, get_or, set, take, drop, add-one, refl, sym, ap, subst, ◌∙◌, arith, get_or-set_same, get_or-set_other}
use Rattle.std.proofs.Math.ListN.{length-append}
use Rattle.std.proofs.Math.Seq.{drop-append_seam, take-suc}
use Rattle.std.proofs.lemmas.Bool.{cases_eq}
use Rattle.std.proofs.lemmas.List.{get_or_push, get_or_append_left, get_or_past, length_push, length-drop, length-take-le, drop-append-le}
use Rattle.std.proofs.lemmas.List.Elements.{Contains-append_left, Contains-push, Contains-push_cases}
use Rattle.rt_rules.proofs.Lists.{Contains-none}
use Rattle.rt_sat.specs.declared.layers.Layers.{Layers}
use Rattle.rt_sat.specs.declared.state.Edge.{Edge}
use Rattle.rt_sat.specs.declared.state.State.{State}
use Rattle.rt_sat.specs.Pushes.{AreIndexed}
use Rattle.rt_sat.specs.Reached.{key_of}
use Rattle.rt_sat.specs.Searches.{IsEntered, IsIndexed}
use Rattle.rt_sat.proofs.Places.{key_one}

-- no edge yet
pub indexed_none : IsIndexed [] []
indexed_none = record {
  within = λ s k c. absurd (Contains-none k (subst (λ xs. Contains xs k) (get_or_past [] (key_of s) [] (omega arith)) c));
  all = λ e c. absurd (Contains-none e c);
}

-- an index is put down
pub entered : (old mid : List (List ℕ)) (key index : ℕ) (now : List ℕ) → ((v : ℕ) → get_or mid v [] ≡ get_or old v []) → key < length mid → now ≡ get_or mid key [] ++ index ∷ [] → IsEntered key index old (set mid key now)
entered old mid key index now same room grown = record {
  here = get_or-set_same mid key now [] room ∙ grown ∙ ap (λ xs. xs ++ index ∷ []) (same key);
  others = λ v n. get_or-set_other mid key v now [] n ∙ same v;
}

-- the index of an edge that leaves the state
abbrev IsLeaving : List Edge → State → ℕ → Type 0
IsLeaving edges s k = (k < length edges) × ((e : Edge) → (get_or edges k e).from ≡ s)

-- an edge more
pub indexed_push : (edges : List Edge) (out new : List (List ℕ)) (edge : Edge) → IsIndexed edges out → IsEntered (key_of edge.from) (length edges) out new → IsIndexed (edges ++ edge ∷ []) new
indexed_push edges out new edge are enters = record {
  within = λ s k c. within s k c (cases_eq (key_of s) (key_of edge.from));
  all = λ e c. all e (Contains-push_cases edges edge e c);
}
  where
    longer : length (edges ++ edge ∷ []) ≡ length edges + 1
    longer = length_push edges edge

    before : (s : State) (k : ℕ) → Contains (get_or out (key_of s) []) k → IsLeaving (edges ++ edge ∷ []) s k
    before s k c =
        let a : (k < length edges) × ((e : Edge) → (get_or edges k e).from ≡ s) = are.within s k c in
        (omega (arith, longer, a.0), λ e. ap (λ (z : Edge). z.from) (get_or_append_left edges (edge ∷ []) e k a.0) ∙ a.1 e)

    within : (s : State) (k : ℕ) → Contains (get_or new (key_of s) []) k → (key_of s ≡ key_of edge.from) ⊎ (key_of s ≡ key_of edge.from → ⊥) → IsLeaving (edges ++ edge ∷ []) s k
    within s k c (inl e) =
        elim (Contains-push_cases (get_or out (key_of edge.from) []) (length edges) k (subst (λ xs. Contains xs k) (ap (λ u. get_or new u []) e ∙ enters.here) c)) [
          | inl d ↦ before s k (subst (λ u. Contains (get_or out u []) k) (sym e) d)
          | inr f ↦ (omega (arith, longer, f), λ x. ap (λ (z : Edge). z.from) (get_or_push edges edge x k f) ∙ sym (key_one s edge.from e))
        ]
    within s k c (inr n) = before s k (subst (λ xs. Contains xs k) (enters.others (key_of s) n) c)

    kept : (v k : ℕ) → Contains (get_or out v []) k → (v ≡ key_of edge.from) ⊎ (v ≡ key_of edge.from → ⊥) → Contains (get_or new v []) k
    kept v k c (inl e) =
        subst (λ xs. Contains xs k) (sym (ap (λ u. get_or new u []) e ∙ enters.here))
        (Contains-append_left (get_or out (key_of edge.from) []) (length edges ∷ []) k (subst (λ u. Contains (get_or out u []) k) e c))
    kept v k c (inr n) = subst (λ xs. Contains xs k) (sym (enters.others v n)) c

    all : (e : Edge) → Contains edges e ⊎ (edge ≡ e) → (i : ℕ) × Contains (get_or new (key_of e.from) []) i × (i < length (edges ++ edge ∷ [])) × (get_or (edges ++ edge ∷ []) i e ≡ e)
    all e (inl d) =
        let a : (i : ℕ) × Contains (get_or out (key_of e.from) []) i × (i < length edges) × (get_or edges i e ≡ e) = are.all e d in
        (a.0, kept (key_of e.from) a.0 a.1 (cases_eq (key_of e.from) (key_of edge.from)), omega (arith, longer, a.2), get_or_append_left edges (edge ∷ []) e a.0 a.2 ∙ a.3)
    all e (inr f) = (
      length edges,
      subst (λ (z : Edge). Contains (get_or new (key_of z.from) []) (length edges)) f (subst (λ xs. Contains xs (length edges)) (sym enters.here) (Contains-push (get_or out (key_of edge.from) []) (length edges))),
      omega (arith, longer),
      get_or_push edges edge e (length edges) refl ∙ f,
    )

-- the edges before an index, and one more
pub indexed_step : (edges : List Edge) (i : ℕ) (out new : List (List ℕ)) (edge : Edge) → i < length edges → edge ≡ get_or edges i edge → IsEntered (key_of edge.from) i out new → IsIndexed (take i edges) out → IsIndexed (take (i + 1) edges) new
indexed_step edges i out new edge h is enters are = subst (λ xs. IsIndexed xs new) (sym taken) (indexed_push (take i edges) out new edge are (subst (λ n. IsEntered (key_of edge.from) n out new) (sym long) enters))
  where
    taken : take (i + 1) edges ≡ take i edges ++ edge ∷ []
    taken = ap (λ n. take n edges) (add-one i) ∙ take-suc edges i edge h ∙ ap (λ e. take i edges ++ e ∷ []) (sym is)

    long : length (take i edges) ≡ i
    long = length-take-le i edges (omega (arith, h))

-- edges of lines, and pushed ones behind them
pub layers_new : (new : Layers) (lines pushed : List Edge) → new.edges.items ≡ lines ++ pushed → new.lines ≡ length lines → IsIndexed new.edges.items new.out.items → IsIndexed pushed new.out_pushed.items → AreIndexed new
layers_new new lines pushed is count all behind = record {
  few = omega (arith, count, ap length is, length-append lines pushed);
  all = all;
  pushed = subst (λ xs. IsIndexed xs new.out_pushed.items) (sym (ap (λ n. drop n new.edges.items) count ∙ ap (drop (length lines)) is ∙ drop-append_seam lines pushed)) behind;
}

-- a pushed edge more
pub layers_push : (old new : Layers) (edge : Edge) → AreIndexed old → new.edges.items ≡ old.edges.items ++ edge ∷ [] → new.lines ≡ old.lines → IsEntered (key_of edge.from) (length old.edges.items) old.out.items new.out.items →
    IsEntered (key_of edge.from) (length old.edges.items - old.lines) old.out_pushed.items new.out_pushed.items → AreIndexed new
layers_push old new edge are is lines all pushed = record {
  few = omega (arith, are.few, lines, ap length is, length_push old.edges.items edge);
  all = subst (λ xs. IsIndexed xs new.out.items) (sym is) (indexed_push old.edges.items old.out.items new.out.items edge are.all all);
  pushed = subst (λ xs. IsIndexed xs new.out_pushed.items) (sym behind)
      (indexed_push (drop old.lines old.edges.items) old.out_pushed.items new.out_pushed.items edge are.pushed
      (subst (λ n. IsEntered (key_of edge.from) n old.out_pushed.items new.out_pushed.items) (sym (length-drop old.lines old.edges.items)) pushed));
}
  where
    behind : drop new.lines new.edges.items ≡ drop old.lines old.edges.items ++ edge ∷ []
    behind = ap (λ n. drop n new.edges.items) lines ∙ ap (drop old.lines) is ∙ drop-append-le old.lines old.edges.items (edge ∷ []) are.few
