-- Arcs, entered one by one.
use Rattle.std.proofs.Common.{◌≡◌, ℕ, ◌+◌, ◌<◌, ◌⊎◌, inl, inr, List, [], ◌∷◌, ◌++◌, Contains, Option, Some, length, get_or, set, refl, sym, ap, subst, ◌∙◌, arith, get_or-set_same, get_or-set_other}
use Rattle.std.specs.Prelude.{slice_get}
use Rattle.std.proofs.Math.ListN.{length-set}
use Rattle.std.proofs.lemmas.Bool.{cases_eq}
use Rattle.std.proofs.lemmas.List.Elements.{Contains-append_left, Contains-push, Contains-push_cases}
use Rattle.rt_lines.specs.declared.variable.Dtv.{Dtv}
use Rattle.rt_lines.specs.declared.line.Line.{Line}
use Rattle.rt_lines.specs.declared.line.Line.TheVariants.{Sub}
use Rattle.rt_base.proofs.Lists.{Contains-none}
use Rattle.rt_outline.specs.declared.arc.Arc.{Arc}
use Rattle.rt_outline.specs.Arcs.{HasArc, IsAdded}
use Rattle.rt_outline.specs.Lines.{IsNumber, AreNumbers, AreLineArcs}

module _ (from : ℕ) (arc : Arc) (old : List (List Arc)) (now : List Arc) (room : from < length old) (grown : now ≡ get_or old from [] ++ arc ∷ []) where
  here : get_or (set old from now) from [] ≡ get_or old from [] ++ arc ∷ []
  here = get_or-set_same old from now [] room ∙ grown

  there : (v : ℕ) → (v ≡ from → ⊥) → get_or (set old from now) v [] ≡ get_or old v []
  there v n = get_or-set_other old from v now [] n

  at : (v : ℕ) → v ≡ from → get_or (set old from now) v [] ≡ get_or old from [] ++ arc ∷ []
  at v e = ap (λ u. get_or (set old from now) u []) e ∙ here

  kept : (v w : ℕ) (line : Option ℕ) → HasArc old v w line → (v ≡ from) ⊎ (v ≡ from → ⊥) → HasArc (set old from now) v w line
  kept v w line c (inl e) =
      subst (λ (xs : List Arc). Contains xs (record { to = w; line = line })) (sym (at v e)) (Contains-append_left (get_or old from []) (arc ∷ []) (record { to = w; line = line })
      (subst (λ u. Contains (get_or old u []) (record { to = w; line = line })) e c))
  kept v w line c (inr n) = subst (λ (xs : List Arc). Contains xs (record { to = w; line = line })) (sym (there v n)) c

  only : (v w : ℕ) (line : Option ℕ) → HasArc (set old from now) v w line → (v ≡ from) ⊎ (v ≡ from → ⊥) → HasArc old v w line ⊎ ((v ≡ from) × (w ≡ arc.to) × (line ≡ arc.line))
  only v w line c (inl e) =
      elim (Contains-push_cases (get_or old from []) arc (record { to = w; line = line }) (subst (λ (xs : List Arc). Contains xs (record { to = w; line = line })) (at v e) c)) [
        | inl d ↦ inl (subst (λ u. Contains (get_or old u []) (record { to = w; line = line })) (sym e) d)
        | inr f ↦ inr (e, ap (λ (a : Arc). a.to) (sym f), ap (λ (a : Arc). a.line) (sym f))
      ]
  only v w line c (inr n) = inl (subst (λ (xs : List Arc). Contains xs (record { to = w; line = line })) (there v n) c)

  pub arc_added : IsAdded from arc old (set old from now)
  arc_added = record {
    each = length-set old from now;
    kept = λ v w line c. kept v w line c (cases_eq v from);
    added = subst (λ (xs : List Arc). Contains xs arc) (sym here) (Contains-push (get_or old from []) arc);
    only = λ v w line c. only v w line c (cases_eq v from);
  }

module _ (lines : List Line) (named : List Dtv) where
  pub lines_none : (arcs : List (List Arc)) → ((v w : ℕ) (line : Option ℕ) → HasArc arcs v w line → ⊥) → AreLineArcs lines 0 named arcs
  lines_none arcs none = record { all = λ i x y h f. absurd (omega (arith, h)); only = λ v w i c. absurd (none v w (Some i) c) }

  -- the arc of a line more
  pub lines_more : (i : ℕ) (x y : Dtv) (v w : ℕ) (arcs new : List (List Arc)) → slice_get lines i ≡ Some (Sub x y) → IsNumber named v x → IsNumber named w y → IsAdded v (record { to = w; line = Some i }) arcs new →
      AreLineArcs lines i named arcs → AreLineArcs lines (i + 1) named new
  lines_more i x y v w arcs new here from to n are = record {
    all = λ j a b less f. line_in j a b less f (cases_eq j i);
    only = λ u z j c. (elim (n.only u z (Some j) c) [
      | inl d ↦ are.only u z j d
      | inr d ↦ (let s : j ≡ i = cc in record {
        left = x;
        right = y;
        line = ap (slice_get lines) s ∙ here;
        from = ap (slice_get named) d.0 ∙ from;
        to = ap (slice_get named) d.1 ∙ to;
      })
    ]);
  }
    where
      line_in : (j : ℕ) (a b : Dtv) → j < i + 1 → slice_get lines j ≡ Some (Sub a b) → (j ≡ i) ⊎ (j ≡ i → ⊥) → (u : ℕ) × (z : ℕ) × IsNumber named u a × IsNumber named z b × HasArc new u z (Some j)
      line_in j a b less f (inl e) =
          let s : Some (Sub x y) ≡ Some (Sub a b) = sym here ∙ ap (slice_get lines) (sym e) ∙ f in
          let p : x ≡ a = cc in
          let q : y ≡ b = cc in
          (v, w, from ∙ ap Some p, to ∙ ap Some q, subst (λ k. HasArc new v w (Some k)) (sym e) n.added)
      line_in j a b less f (inr m) =
          let r : (u : ℕ) × (z : ℕ) × IsNumber named u a × IsNumber named z b × HasArc arcs u z (Some j) = are.all j a b (omega (arith, less, m)) f in
          (r.0, r.1, r.2, r.3, n.kept r.0 r.1 (Some j) r.4)

  -- a line without one
  pub lines_other : (i : ℕ) (l : Line) (arcs : List (List Arc)) → slice_get lines i ≡ Some l → ((x y : Dtv) → Sub x y ≡ l → ⊥) → AreLineArcs lines i named arcs → AreLineArcs lines (i + 1) named arcs
  lines_other i l arcs here not are = record {
    all = λ j a b less f. line_in j a b less f (cases_eq j i);
    only = are.only;
  }
    where
      line_in : (j : ℕ) (a b : Dtv) → j < i + 1 → slice_get lines j ≡ Some (Sub a b) → (j ≡ i) ⊎ (j ≡ i → ⊥) → (u : ℕ) × (z : ℕ) × IsNumber named u a × IsNumber named z b × HasArc arcs u z (Some j)
      line_in j a b less f (inl e) = let s : Some (Sub a b) ≡ Some l = sym f ∙ ap (slice_get lines) e ∙ here in absurd (not a b (cc))
      line_in j a b less f (inr m) = are.all j a b (omega (arith, less, m)) f

-- numbers of variables
module _ (named : List Dtv) where
  pub numbers_none : (numbers : List ℕ) → numbers ≡ [] → AreNumbers named [] numbers
  numbers_none numbers e = record { only = λ n c. absurd (Contains-none n (subst (λ xs. Contains xs n) e c)); all = λ x c. absurd (Contains-none x c) }

  pub numbers_next : (before after : List Dtv) (x : Dtv) (number : ℕ) (old new : List ℕ) → after ≡ before ++ x ∷ [] → new ≡ old ++ number ∷ [] → IsNumber named number x → AreNumbers named before old → AreNumbers named after new
  numbers_next before after x number old new e f is are = record {
    only = λ n c. (elim (Contains-push_cases old number n (subst (λ xs. Contains xs n) f c)) [
      | inl d ↦ (let r : (y : Dtv) × Contains before y × IsNumber named n y = are.only n d in (r.0, subst (λ xs. Contains xs r.0) (sym e) (Contains-append_left before (x ∷ []) r.0 r.1), r.2))
      | inr g ↦ (x, subst (λ xs. Contains xs x) (sym e) (Contains-push before x), subst (λ m. IsNumber named m x) g is)
    ]);
    all = λ y c. (elim (Contains-push_cases before x y (subst (λ xs. Contains xs y) e c)) [
      | inl d ↦ (let r : (n : ℕ) × Contains old n × IsNumber named n y = are.all y d in (r.0, subst (λ xs. Contains xs r.0) (sym f) (Contains-append_left old (number ∷ []) r.0 r.1), r.2))
      | inr g ↦ (number, subst (λ xs. Contains xs number) (sym f) (Contains-push old number), subst (λ z. IsNumber named number z) g is)
    ]);
  }

  pub numbers_one : (x : Dtv) (number : ℕ) (numbers : List ℕ) → numbers ≡ number ∷ [] → IsNumber named number x → AreNumbers named (x ∷ []) numbers
  numbers_one x number numbers e is = numbers_next [] (x ∷ []) x number [] numbers refl e is (numbers_none [] refl)
