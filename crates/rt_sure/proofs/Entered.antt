-- Arcs of lines and of edges, entered one by one.
use Rattle.std.proofs.Common.{◌≡◌, ℕ, ◌+◌, ◌-◌, ◌<◌, ◌≤◌, inl, inr, List, [], ◌∷◌, ◌++◌, None, Some, drop, take, length, get_or, sym, ap, subst, ◌∙◌, arith}
use Rattle.std.specs.Prelude.{slice_get}
use Rattle.std.proofs.lemmas.List.{get_or-drop, length-drop}
use Rattle.std.proofs.lemmas.List.Elements.{Contains-push, Contains-push_cases}
use Rattle.rt_base.proofs.Lists.{take-next}
use Rattle.rt_lines.specs.declared.variable.Dtv.{Dtv}
use Rattle.rt_lines.specs.declared.line.Line.{Line}
use Rattle.rt_lines.specs.declared.line.Line.TheVariants.{Sub}
use Rattle.rt_outline.specs.declared.arc.Arc.{Arc}
use Rattle.rt_outline.specs.Arcs.{HasArc, IsAdded}
use Rattle.rt_outline.specs.Lines.{AreLineArcs, IsNumber}
use Rattle.rt_outline.proofs.Entered.{lines_more}
use Rattle.rt_sat.specs.declared.state.Edge.{Edge}
use Rattle.rt_equals.specs.Plain.{IsPlain}
use Rattle.rt_equals.proofs.Pairing.{had}
use Rattle.rt_sure.specs.Arcs.{AreArcs}

module _ (lines : List Line) (named : List Dtv) (edges : List Edge) where
  as_lines : (count : ℕ) (arcs : List (List Arc)) → AreArcs lines count named edges arcs → AreLineArcs lines count named arcs
  as_lines count arcs are = record { all = are.all; only = are.only }

  -- the arc of a line more
  pub line_more : (i : ℕ) (x y : Dtv) (v w : ℕ) (arcs new : List (List Arc)) → slice_get lines i ≡ Some (Sub x y) →
      IsNumber named v x → IsNumber named w y → IsAdded v (record { to = w; line = Some i }) arcs new →
      AreArcs lines i named edges arcs → AreArcs lines (i + 1) named edges new
  line_more i x y v w arcs new here from to n are =
      let m : AreLineArcs lines (i + 1) named new = lines_more lines named i x y v w arcs new here from to n (as_lines i arcs are) in
      record {
        each = n.each ∙ are.each;
        all = m.all;
        only = m.only;
        pushed = λ u z h. n.kept u z None (are.pushed u z h);
        pushed_only = λ u z c. (elim (n.only u z None c) [ inl d ↦ are.pushed_only u z d | inr e ↦ absurd (let f = e.2 in cc) ]);
      }

module _ (lines : List Line) (count : ℕ) (named : List Dtv) (seen : List Edge) (e : Edge) where
  -- the arc of a plain edge more
  pub edge_more : (arcs new : List (List Arc)) → IsPlain e → IsAdded e.from.variable (record { to = e.to.variable; line = None }) arcs new →
      AreArcs lines count named seen arcs → AreArcs lines count named (seen ++ e ∷ []) new
  edge_more arcs new plain n are = record {
    each = n.each ∙ are.each;
    all = λ i x y h f. (
        let r : (v : ℕ) × (w : ℕ) × IsNumber named v x × IsNumber named w y × HasArc arcs v w (Some i) = are.all i x y h f in
        (r.0, r.1, r.2, r.3, n.kept r.0 r.1 (Some i) r.4));
    only = λ v w i c. (elim (n.only v w (Some i) c) [ inl d ↦ are.only v w i d | inr f ↦ absurd (let g = f.2 in cc) ]);
    pushed = λ v w h. (elim (Contains-push_cases seen e h.edge h.listed) [
      | inl c ↦ n.kept v w None (are.pushed v w (record { edge = h.edge; listed = c; plain = h.plain; start = h.start; end = h.end }))
      | inr f ↦ own v w (ap (λ (x : Edge). x.from.variable) f ∙ h.start) (ap (λ (x : Edge). x.to.variable) f ∙ h.end)
    ]);
    pushed_only = λ v w c. (elim (n.only v w None c) [
      | inl d ↦ had seen e v w (are.pushed_only v w d)
      | inr f ↦ record { edge = e; listed = Contains-push seen e; plain = plain; start = sym f.0; end = sym f.1 }
    ]);
  }
    where
      own : (v w : ℕ) → e.from.variable ≡ v → e.to.variable ≡ w → HasArc new v w None
      own v w f g = subst (λ u. HasArc new u w None) f (subst (λ u. HasArc new e.from.variable u None) g n.added)

  -- an edge that isn't plain has none
  pub edge_other : (arcs : List (List Arc)) → (IsPlain e → ⊥) → AreArcs lines count named seen arcs →
      AreArcs lines count named (seen ++ e ∷ []) arcs
  edge_other arcs not are = record {
    each = are.each;
    all = are.all;
    only = are.only;
    pushed = λ v w h. (elim (Contains-push_cases seen e h.edge h.listed) [
      | inl c ↦ are.pushed v w (record { edge = h.edge; listed = c; plain = h.plain; start = h.start; end = h.end })
      | inr f ↦ absurd (not (subst IsPlain (sym f) h.plain))
    ]);
    pushed_only = λ v w c. had seen e v w (are.pushed_only v w c);
  }

-- one more of what lies behind the first ones
pub behind_next : {X : Type 0} (xs : List X) (count i : ℕ) (x : X) → count ≤ i → i < length xs → x ≡ get_or xs i x →
    take (i + 1 - count) (drop count xs) ≡ take (i - count) (drop count xs) ++ x ∷ []
behind_next xs count i x h k e =
    let many : length (drop count xs) ≡ length xs - count = length-drop count xs in
    let less : i - count < length (drop count xs) = omega (arith, h, k, many) in
    let there : count + (i - count) ≡ i = omega (arith, h) in
    let next : i + 1 - count ≡ (i - count) + 1 = omega (arith, h) in
    ap (λ n. take n (drop count xs)) next ∙
    take-next (drop count xs) (i - count) x less (e ∙ ap (λ n. get_or xs n x) (sym there) ∙ sym (get_or-drop count xs (i - count) x))
