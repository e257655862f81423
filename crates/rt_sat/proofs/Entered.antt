-- Edges of lines, entered one by one.
use Rattle.std.proofs.Common.{◌≡◌, ℕ, ◌<◌, ◌⊎◌, inl, inr, Bool, true, false, List, [], ◌∷◌, ◌++◌, Contains, Some, length, sym, ap, subst, ◌∙◌}
use Rattle.std.specs.Prelude.{slice_get}
use Rattle.std.proofs.lemmas.List.Elements.{Contains-append_left, Contains-push, Contains-push_cases}
use Rattle.std.proofs.lemmas.Option.{get_or_from_slice_get, slice_get_within}
use Rattle.rt_lines.specs.declared.label.Variance.TheVariants.{Co, Contra}
use Rattle.rt_lines.specs.declared.variable.Dtv.{Dtv}
use Rattle.rt_lines.specs.declared.line.Line.{Line}
use Rattle.rt_lines.specs.declared.line.Line.TheVariants.{Sub}
use Rattle.rt_rules.proofs.Lists.{Contains-none}
use Rattle.rt_bridge.specs.Growing.{vd}
use Rattle.rt_bridge.specs.Counted.{st}
use Rattle.rt_named.specs.Origins.{no_variable}
use Rattle.rt_sat.specs.declared.state.State.{State as Place}
use Rattle.rt_sat.specs.declared.state.Edge.{Edge}
use Rattle.rt_sat.specs.Numbered.{sign_of, state_of, AreWithin}
use Rattle.rt_sat.specs.Closings.{IsEdgeOf, IsLineEdge, AreLineEdges, IsLineEntered}

module _ (known : List Dtv) where
  place_of : (x : Dtv) (i : ℕ) (b : Bool) → slice_get known i ≡ Some x → state_of known (record { variable = i; contra = b }) ≡ st (vd x) (sign_of b)
  place_of x i b e = ap (λ (z : Dtv). st (vd z) (sign_of b)) (get_or_from_slice_get known i x no_variable e)

  edge_at : (x y : Dtv) (i j : ℕ) (b : Bool) (e : Edge) → slice_get known i ≡ Some x → slice_get known j ≡ Some y → e.from ≡ record { variable = i; contra = b } → e.to ≡ record { variable = j; contra = b } → e.count ≡ 0 → IsEdgeOf known e (st (vd x) (sign_of b)) (st (vd y) (sign_of b))
  edge_at x y i j b e f g s t n = record { start = ap (state_of known) s ∙ place_of x i b f; end = ap (state_of known) t ∙ place_of y j b g; none = n }

  inside : (x y : Dtv) (i j : ℕ) (b c : Bool) (e : Edge) → slice_get known i ≡ Some x → slice_get known j ≡ Some y → e.from ≡ record { variable = i; contra = b } → e.to ≡ record { variable = j; contra = c } → (e.from.variable < length known) × (e.to.variable < length known)
  inside x y i j b c e f g s t = (
    subst (λ (z : Place). z.variable < length known) (sym s) (slice_get_within known i x f),
    subst (λ (z : Place). z.variable < length known) (sym t) (slice_get_within known j y g),
  )

  pub line_entered : (x y : Dtv) (i j : ℕ) (a b : Edge) (old mid new : List Edge) → slice_get known i ≡ Some x → slice_get known j ≡ Some y →
      a.from ≡ record { variable = i; contra = false } → a.to ≡ record { variable = j; contra = false } → a.count ≡ 0 →
      b.from ≡ record { variable = j; contra = true } → b.to ≡ record { variable = i; contra = true } → b.count ≡ 0 →
      mid ≡ old ++ a ∷ [] → new ≡ mid ++ b ∷ [] → IsLineEntered known x y old new
  line_entered x y i j a b old mid new f g fa ta na fb tb nb p q = record {
    kept = λ e c. there e (first e (Contains-append_left old (a ∷ []) e c));
    forth = (a, there a (first a (Contains-push old a)), edge_at x y i j false a f g fa ta na);
    back = (b, subst (λ (xs : List Edge). Contains xs b) (sym q) (Contains-push mid b), edge_at y x j i true b g f fb tb nb);
    only = λ e c. only e (cases e c);
    within = λ w e c. within w e (cases e c);
  }
    where
      first : (e : Edge) → Contains (old ++ a ∷ []) e → Contains mid e
      first e c = subst (λ (xs : List Edge). Contains xs e) (sym p) c

      there : (e : Edge) → Contains mid e → Contains new e
      there e c = subst (λ (xs : List Edge). Contains xs e) (sym q) (Contains-append_left mid (b ∷ []) e c)

      cases : (e : Edge) → Contains new e → Contains old e ⊎ ((e ≡ a) ⊎ (e ≡ b))
      cases e c = elim (Contains-push_cases mid b e (subst (λ (xs : List Edge). Contains xs e) q c)) [
        | inl d ↦ elim (Contains-push_cases old a e (subst (λ (xs : List Edge). Contains xs e) p d)) [ inl h ↦ inl h | inr h ↦ inr (inl (sym h)) ]
        | inr d ↦ inr (inr (sym d))
      ]

      only : (e : Edge) → Contains old e ⊎ ((e ≡ a) ⊎ (e ≡ b)) → Contains old e ⊎ IsLineEdge known x y e
      only e (inl c) = inl c
      only e (inr (inl h)) = inr (inl (subst (λ z. IsEdgeOf known z (st (vd x) Co) (st (vd y) Co)) (sym h) (edge_at x y i j false a f g fa ta na)))
      only e (inr (inr h)) = inr (inr (subst (λ z. IsEdgeOf known z (st (vd y) Contra) (st (vd x) Contra)) (sym h) (edge_at y x j i true b g f fb tb nb)))

      within : AreWithin known old → (e : Edge) → Contains old e ⊎ ((e ≡ a) ⊎ (e ≡ b)) → (e.from.variable < length known) × (e.to.variable < length known)
      within w e (inl c) = w e c
      within w e (inr (inl h)) = subst (λ (z : Edge). (z.from.variable < length known) × (z.to.variable < length known)) (sym h) (inside x y i j false false a f g fa ta)
      within w e (inr (inr h)) = subst (λ (z : Edge). (z.from.variable < length known) × (z.to.variable < length known)) (sym h) (inside y x j i true true b g f fb tb)

  -- a line more
  pub lines_sub : (before : List Line) (x y : Dtv) (old new : List Edge) → IsLineEntered known x y old new → AreLineEdges before known old → AreLineEdges (before ++ Sub x y ∷ []) known new
  lines_sub before x y old new n are = record {
    forth = λ u v c. (elim (Contains-push_cases before (Sub x y) (Sub u v) c) [
      | inl d ↦ (let r : (e : Edge) × Contains old e × IsEdgeOf known e (st (vd u) Co) (st (vd v) Co) = are.forth u v d in (r.0, n.kept r.0 r.1, r.2))
      | inr e ↦ (let p : x ≡ u = cc in let q : y ≡ v = cc in
          (n.forth.0, n.forth.1, subst (λ z. IsEdgeOf known n.forth.0 (st (vd z) Co) (st (vd v) Co)) p (subst (λ z. IsEdgeOf known n.forth.0 (st (vd x) Co) (st (vd z) Co)) q n.forth.2)))
    ]);
    back = λ u v c. (elim (Contains-push_cases before (Sub x y) (Sub u v) c) [
      | inl d ↦ (let r : (e : Edge) × Contains old e × IsEdgeOf known e (st (vd v) Contra) (st (vd u) Contra) = are.back u v d in (r.0, n.kept r.0 r.1, r.2))
      | inr e ↦ (let p : x ≡ u = cc in let q : y ≡ v = cc in
          (n.back.0, n.back.1, subst (λ z. IsEdgeOf known n.back.0 (st (vd v) Contra) (st (vd z) Contra)) p (subst (λ z. IsEdgeOf known n.back.0 (st (vd z) Contra) (st (vd x) Contra)) q n.back.2)))
    ]);
    only = λ e c. (elim (n.only e c) [
      | inl d ↦ (let r : (u : Dtv) × (v : Dtv) × Contains before (Sub u v) × IsLineEdge known u v e = are.only e d in (r.0, r.1, Contains-append_left before (Sub x y ∷ []) (Sub r.0 r.1) r.2, r.3))
      | inr h ↦ (x, y, Contains-push before (Sub x y), h)
    ]);
    within = n.within are.within;
  }

  pub lines_other : (before : List Line) (l : Line) (edges : List Edge) → ((x y : Dtv) → Sub x y ≡ l → ⊥) → AreLineEdges before known edges → AreLineEdges (before ++ l ∷ []) known edges
  lines_other before l edges none are = record {
    forth = λ u v c. (elim (Contains-push_cases before l (Sub u v) c) [ inl d ↦ are.forth u v d | inr e ↦ absurd (none u v (sym e)) ]);
    back = λ u v c. (elim (Contains-push_cases before l (Sub u v) c) [ inl d ↦ are.back u v d | inr e ↦ absurd (none u v (sym e)) ]);
    only = λ e c. (let r : (u : Dtv) × (v : Dtv) × Contains before (Sub u v) × IsLineEdge known u v e = are.only e c in (r.0, r.1, Contains-append_left before (l ∷ []) (Sub r.0 r.1) r.2, r.3));
    within = are.within;
  }

  pub lines_none : (edges : List Edge) → edges ≡ [] → AreLineEdges [] known edges
  lines_none edges e = record {
    forth = λ u v c. absurd (Contains-none (Sub u v) c);
    back = λ u v c. absurd (Contains-none (Sub u v) c);
    only = λ g c. absurd (Contains-none g (subst (λ (xs : List Edge). Contains xs g) e c));
    within = λ g c. absurd (Contains-none g (subst (λ (xs : List Edge). Contains xs g) e c));
  }
