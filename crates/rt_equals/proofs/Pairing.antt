-- Pairs that edges of count nought lead between, one by one.
use Rattle.std.proofs.Common.{◌≡◌, ℕ, inl, inr, List, [], ◌∷◌, ◌++◌, Contains, sym, ap, subst, ◌∙◌}
use Rattle.std.proofs.lemmas.List.Elements.{Contains-append_left, Contains-push, Contains-push_cases}
use Rattle.rt_base.proofs.Lists.{Contains-none}
use Rattle.rt_sat.specs.declared.state.Edge.{Edge}
use Rattle.rt_equals.specs.Plain.{ArePlainPairs, HasPlain, IsPlain}

pub pairs_none : (pairs : List (ℕ × ℕ)) → pairs ≡ [] → ArePlainPairs [] pairs
pairs_none pairs e = record {
  all = λ v w h. absurd (Contains-none h.edge h.listed);
  only = λ v w c. absurd (Contains-none (v, w) (subst (λ ps. Contains ps (v, w)) e c));
}

-- such an edge is one of more edges
pub had : (seen : List Edge) (e : Edge) (v w : ℕ) → HasPlain seen v w → HasPlain (seen ++ e ∷ []) v w
had seen e v w h = record {
  edge = h.edge;
  listed = Contains-append_left seen (e ∷ []) h.edge h.listed;
  plain = h.plain;
  start = h.start;
  end = h.end;
}

-- an edge that isn't plain adds no pair
pub pairs_same : (seen : List Edge) (e : Edge) (pairs : List (ℕ × ℕ)) → (IsPlain e → ⊥) → ArePlainPairs seen pairs →
    ArePlainPairs (seen ++ e ∷ []) pairs
pairs_same seen e pairs not are = record {
  all = λ v w h. (elim (Contains-push_cases seen e h.edge h.listed) [
    | inl c ↦ are.all v w (record { edge = h.edge; listed = c; plain = h.plain; start = h.start; end = h.end })
    | inr f ↦ absurd (not (subst IsPlain (sym f) h.plain))
  ]);
  only = λ v w c. had seen e v w (are.only v w c);
}

-- a plain one adds its own
pub pairs_more : (seen : List Edge) (e : Edge) (pairs : List (ℕ × ℕ)) → IsPlain e → ArePlainPairs seen pairs →
    ArePlainPairs (seen ++ e ∷ []) (pairs ++ (e.from.variable, e.to.variable) ∷ [])
pairs_more seen e pairs plain are = record {
  all = λ v w h. (elim (Contains-push_cases seen e h.edge h.listed) [
    | inl c ↦ Contains-append_left pairs ((e.from.variable, e.to.variable) ∷ []) (v, w)
        (are.all v w (record { edge = h.edge; listed = c; plain = h.plain; start = h.start; end = h.end }))
    | inr f ↦ own v w (ap (λ (x : Edge). x.from.variable) f ∙ h.start) (ap (λ (x : Edge). x.to.variable) f ∙ h.end)
  ]);
  only = λ v w c. (elim (Contains-push_cases pairs (e.from.variable, e.to.variable) (v, w) c) [
    | inl d ↦ had seen e v w (are.only v w d)
    | inr f ↦ record {
      edge = e;
      listed = Contains-push seen e;
      plain = plain;
      start = ap (λ (p : ℕ × ℕ). p.0) f;
      end = ap (λ (p : ℕ × ℕ). p.1) f;
    }
  ]);
}
  where
    own : (v w : ℕ) → e.from.variable ≡ v → e.to.variable ≡ w →
        Contains (pairs ++ (e.from.variable, e.to.variable) ∷ []) (v, w)
    own v w f g =
        subst (λ (p : ℕ × ℕ). Contains (pairs ++ (e.from.variable, e.to.variable) ∷ []) p) (λ i. (f i, g i))
        (Contains-push pairs (e.from.variable, e.to.variable))
