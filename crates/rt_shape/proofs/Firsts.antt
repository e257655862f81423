-- The first node for each class and label, edge by edge.
use Rattle.std.proofs.Common.{◌≡◌, ℕ, ◌+◌, ◌<◌, ◌⊎◌, inl, inr, Bool, true, false, cond, Option, None, Some, List, [], length, Contains, refl, sym, ap, subst, ◌∙◌, arith}
use Rattle.std.specs.Prelude.{slice_get, slice_index}
use Rattle.std.specs.Map.{lookup}
use Rattle.std.proofs.lemmas.Bool.{cases_eq}
use Rattle.std.proofs.lemmas.Option.{slice_get-get_or, none-some}
use Rattle.std.proofs.lemmas.Map.Views.{Contains-from_lookup}
use Rattle.rt_lines.specs.declared.label.Label.{Label}
use Rattle.rt_shape.specs.Graphs.{Graph, letter_eq, step_of}
use Rattle.rt_shape.specs.Inside.Classes.{pointed, AreStepsOne, AreApart}
use Rattle.rt_shape.proofs.Letters.{letter_equal, letter_self}

-- an edge at a place
abbrev pub EdgeAt : Graph → ℕ → ℕ → Label → ℕ → Type 0
EdgeAt graph i m l n = ◌≡◌ {A = Option ((ℕ × Label) × ℕ)} (slice_get graph.edges i) (Some ((m, l), n))

edge_place : (es : List ((ℕ × Label) × ℕ)) (e : (ℕ × Label) × ℕ) → Contains es e → (j : ℕ) × (j < length es) × (slice_get es j ≡ Some e)
edge_place es e (j, less, at) = (j, less, slice_get-get_or es j e less ∙ ap Some at)

-- each edge before place i leads to the class of the first node for its class and label, and each first node is one
pub record IsGoing (graph : Graph) (class : List ℕ) (i : ℕ) (first : List ((ℕ × Label) × ℕ)) : Type 0 where
  pub done : (j m : ℕ) (l : Label) (n : ℕ) → j < i → EdgeAt graph j m l n → (t : ℕ) × (lookup (letter_eq (slice_index class m, pointed l)) first ≡ Some t) × (slice_index class t ≡ slice_index class n)
  pub from : (a : ℕ) (k : Label) (t : ℕ) → lookup (letter_eq (a, k)) first ≡ Some t → (m : ℕ) × (l : Label) × (m < graph.count) × (slice_index class m ≡ a) × (pointed l ≡ k) × (step_of graph m l ≡ Some t) × (t < graph.count)

module _ (graph : Graph) (class : List ℕ) where
  pub begins : IsGoing graph class 0 []
  begins = record {
    done = λ j m l n less e. absurd (omega arith);
    from = λ a k t e. absurd (none-some t e);
  }

  module _ (i : ℕ) (first : List ((ℕ × Label) × ℕ)) (going : IsGoing graph class i first) (m : ℕ) (l : Label) (n : ℕ) (edge : EdgeAt graph i m l n) where
    same_edge : (p : ℕ) (k : Label) (q : ℕ) → EdgeAt graph i p k q → ◌≡◌ {A = (ℕ × Label) × ℕ} ((m, l), n) ((p, k), q)
    same_edge p k q e = some_same (sym edge ∙ e)
      where
        some_same : ◌≡◌ {A = Option ((ℕ × Label) × ℕ)} (Some ((m, l), n)) (Some ((p, k), q)) → ◌≡◌ {A = (ℕ × Label) × ℕ} ((m, l), n) ((p, k), q)
        some_same f = cc

    -- where the first node for the edge's class and label has the class of the edge's end
    pub passes : (t : ℕ) → lookup (letter_eq (slice_index class m, pointed l)) first ≡ Some t → slice_index class t ≡ slice_index class n → IsGoing graph class (i + 1) first
    passes t e one = record { done = done; from = going.from }
      where
        done : (j p : ℕ) (k : Label) (q : ℕ) → j < i + 1 → EdgeAt graph j p k q → (s : ℕ) × (lookup (letter_eq (slice_index class p, pointed k)) first ≡ Some s) × (slice_index class s ≡ slice_index class q)
        done j p k q less f = by (cases_eq j i)
          where
            by : (j ≡ i) ⊎ (j ≡ i → ⊥) → (s : ℕ) × (lookup (letter_eq (slice_index class p, pointed k)) first ≡ Some s) × (slice_index class s ≡ slice_index class q)
            by (inl same) =
                let whole = same_edge p k q (subst (λ h. EdgeAt graph h p k q) same f) in
                subst (λ (x : (ℕ × Label) × ℕ). (s : ℕ) × (lookup (letter_eq (slice_index class x.0.0, pointed x.0.1)) first ≡ Some s) × (slice_index class s ≡ slice_index class x.1)) whole (t, e, one)
            by (inr other) = going.done j p k q (omega arith) f

    -- where there is no first node yet
    module _ (within : (m < graph.count) × (n < graph.count)) (step : step_of graph m l ≡ Some n)
        (absent : lookup (letter_eq (slice_index class m, pointed l)) first ≡ None) (after : List ((ℕ × Label) × ℕ))
        (updates : (q : ℕ × Label) → lookup (letter_eq q) after ≡ cond (letter_eq (slice_index class m, pointed l) q) (Some n) (lookup (letter_eq q) first)) where
      here : lookup (letter_eq (slice_index class m, pointed l)) after ≡ Some n
      here = updates (slice_index class m, pointed l) ∙ ap (λ b. cond b (Some n) (lookup (letter_eq (slice_index class m, pointed l)) first)) (letter_self (slice_index class m, pointed l))

      stays : (q : ℕ × Label) (t : ℕ) → lookup (letter_eq q) first ≡ Some t → lookup (letter_eq q) after ≡ Some t
      stays q t e = by (letter_eq (slice_index class m, pointed l) q) refl
        where
          clash : None ≡ Some t → ⊥
          clash f = cc

          by : (b : Bool) → letter_eq (slice_index class m, pointed l) q ≡ b → lookup (letter_eq q) after ≡ Some t
          by true f = absurd (clash (sym absent ∙ subst (λ p. lookup (letter_eq p) first ≡ Some t) (sym (letter_equal (slice_index class m, pointed l) q f)) e))
          by false f = updates q ∙ ap (λ b. cond b (Some n) (lookup (letter_eq q) first)) f ∙ e

      from : (a : ℕ) (k : Label) (t : ℕ) → lookup (letter_eq (a, k)) after ≡ Some t → (p : ℕ) × (j : Label) × (p < graph.count) × (slice_index class p ≡ a) × (pointed j ≡ k) × (step_of graph p j ≡ Some t) × (t < graph.count)
      from a k t e = by (letter_eq (slice_index class m, pointed l) (a, k)) refl
        where
          some_same : Some n ≡ Some t → n ≡ t
          some_same f = cc

          by : (b : Bool) → letter_eq (slice_index class m, pointed l) (a, k) ≡ b → (p : ℕ) × (j : Label) × (p < graph.count) × (slice_index class p ≡ a) × (pointed j ≡ k) × (step_of graph p j ≡ Some t) × (t < graph.count)
          by true f =
              let same = letter_equal (slice_index class m, pointed l) (a, k) f in
              let end : n ≡ t = some_same (sym (updates (a, k) ∙ ap (λ b. cond b (Some n) (lookup (letter_eq (a, k)) first)) f) ∙ e) in
              (m, l, within.0, ap (λ p. p.0) same, ap (λ p. p.1) same, step ∙ ap Some end, subst (λ h. h < graph.count) end within.1)
          by false f = going.from a k t (sym (updates (a, k) ∙ ap (λ b. cond b (Some n) (lookup (letter_eq (a, k)) first)) f) ∙ e)

      kept : IsGoing graph class i after
      kept = record {
        done = λ j p k q less e. let d = going.done j p k q less e in (d.0, stays (slice_index class p, pointed k) d.0 d.1, d.2);
        from = from;
      }

      pub begins_letter : IsGoing graph class i after × (lookup (letter_eq (slice_index class m, pointed l)) after ≡ Some n)
      begins_letter = (kept, here)

    -- where the first node for the edge's class and label has another class than the edge's end
    pub apart : (within : (m < graph.count) × (n < graph.count)) → step_of graph m l ≡ Some n → (t : ℕ) → lookup (letter_eq (slice_index class m, pointed l)) first ≡ Some t → (slice_index class t ≡ slice_index class n → ⊥) → AreApart graph class t n
    apart within step t e ne =
        let f = going.from (slice_index class m) (pointed l) t e in
        record { from = (f.0, m, f.1, l, f.2, within.0, f.4, f.3, f.5, step); within = (f.6, within.1); apart = ne }

  -- all edges gone through
  pub ends : (i : ℕ) (first : List ((ℕ × Label) × ℕ)) → IsGoing graph class i first → length graph.edges ≡ i → AreStepsOne graph class
  ends i first going all p q m n l k same classes e f =
      let a = place p l m e in
      let b = place q k n f in
      let da = going.done a.0 p l m (subst (λ h. a.0 < h) all a.1) a.2 in
      let db = going.done b.0 q k n (subst (λ h. b.0 < h) all b.1) b.2 in
      let key : ◌≡◌ {A = ℕ × Label} (slice_index class p, pointed l) (slice_index class q, pointed k) = λ j. (classes j, same j) in
      let one : da.0 ≡ db.0 = some_same da.0 db.0 (sym da.1 ∙ ap (λ (x : ℕ × Label). lookup (letter_eq x) first) key ∙ db.1) in
      sym da.2 ∙ ap (slice_index class) one ∙ db.2
    where
      some_same : (s t : ℕ) → Some s ≡ Some t → s ≡ t
      some_same s t g = cc

      place : (m : ℕ) (l : Label) (n : ℕ) → step_of graph m l ≡ Some n → (j : ℕ) × (j < length graph.edges) × EdgeAt graph j m l n
      place m l n g = edge_place graph.edges ((m, l), n) (Contains-from_lookup letter_equal (m, l) n graph.edges g)
