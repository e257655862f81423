-- The variables of bounds, entered one by one.
use Rattle.std.proofs.Common.{◌≡◌, ℕ, inl, inr, List, [], ◌∷◌, ◌++◌, Contains, sym, subst}
use Rattle.std.proofs.lemmas.List.Elements.{Contains-append_left, Contains-push, Contains-push_cases}
use Rattle.rt_base.proofs.Lists.{Contains-none}
use Rattle.rt_lines.specs.declared.variable.Dtv.{Dtv}
use Rattle.rt_lines.specs.declared.line.Line.{Line}
use Rattle.rt_lines.specs.declared.line.Line.TheVariants.{Low, Up}
use Rattle.rt_lines.specs.Orders.{Below, IsAtOrBelow}
use Rattle.rt_reduce.specs.Inside.Deciding.{AreAbove, AreBelow}

module _ (order : Below) (k : ℕ) where
  pub above_none : AreAbove order [] k []
  above_none = record { only = λ z c. absurd (Contains-none z c); all = λ b z c h. absurd (Contains-none (Low b z) c) }

  pub below_none : AreBelow order [] k []
  below_none = record { only = λ z c. absurd (Contains-none z c); all = λ b z c h. absurd (Contains-none (Up z b) c) }

  pub above_more : (before : List Line) (bound : ℕ) (x : Dtv) (old new : List Dtv) → IsAtOrBelow order k bound → new ≡ old ++ x ∷ [] →
      AreAbove order before k old → AreAbove order (before ++ Low bound x ∷ []) k new
  above_more before bound x old new at is are = record {
    only = λ z c. (elim (Contains-push_cases old x z (subst (λ xs. Contains xs z) is c)) [
      | inl d ↦ (let r : (b : ℕ) × Contains before (Low b z) × IsAtOrBelow order k b = are.only z d in
          (r.0, Contains-append_left before (Low bound x ∷ []) (Low r.0 z) r.1, r.2))
      | inr f ↦ (bound, subst (λ v. Contains (before ++ Low bound x ∷ []) (Low bound v)) f (Contains-push before (Low bound x)), at)
    ]);
    all = λ b z c h. (elim (Contains-push_cases before (Low bound x) (Low b z) c) [
      | inl d ↦ subst (λ xs. Contains xs z) (sym is) (Contains-append_left old (x ∷ []) z (are.all b z d h))
      | inr f ↦ (let p : x ≡ z = cc in subst (λ xs. Contains xs z) (sym is) (subst (Contains (old ++ x ∷ [])) p (Contains-push old x)))
    ]);
  }

  pub below_more : (before : List Line) (bound : ℕ) (x : Dtv) (old new : List Dtv) → IsAtOrBelow order bound k → new ≡ old ++ x ∷ [] →
      AreBelow order before k old → AreBelow order (before ++ Up x bound ∷ []) k new
  below_more before bound x old new at is are = record {
    only = λ z c. (elim (Contains-push_cases old x z (subst (λ xs. Contains xs z) is c)) [
      | inl d ↦ (let r : (b : ℕ) × Contains before (Up z b) × IsAtOrBelow order b k = are.only z d in
          (r.0, Contains-append_left before (Up x bound ∷ []) (Up z r.0) r.1, r.2))
      | inr f ↦ (bound, subst (λ v. Contains (before ++ Up x bound ∷ []) (Up v bound)) f (Contains-push before (Up x bound)), at)
    ]);
    all = λ b z c h. (elim (Contains-push_cases before (Up x bound) (Up z b) c) [
      | inl d ↦ subst (λ xs. Contains xs z) (sym is) (Contains-append_left old (x ∷ []) z (are.all b z d h))
      | inr f ↦ (let p : x ≡ z = cc in subst (λ xs. Contains xs z) (sym is) (subst (Contains (old ++ x ∷ [])) p (Contains-push old x)))
    ]);
  }

  pub above_other : (before : List Line) (l : Line) (found : List Dtv) → ((b : ℕ) (z : Dtv) → Low b z ≡ l → IsAtOrBelow order k b → ⊥) →
      AreAbove order before k found → AreAbove order (before ++ l ∷ []) k found
  above_other before l found none are = record {
    only = λ z c. (let r : (b : ℕ) × Contains before (Low b z) × IsAtOrBelow order k b = are.only z c in
        (r.0, Contains-append_left before (l ∷ []) (Low r.0 z) r.1, r.2));
    all = λ b z c h. (elim (Contains-push_cases before l (Low b z) c) [ inl d ↦ are.all b z d h | inr f ↦ absurd (none b z (sym f) h) ]);
  }

  pub below_other : (before : List Line) (l : Line) (found : List Dtv) → ((b : ℕ) (z : Dtv) → Up z b ≡ l → IsAtOrBelow order b k → ⊥) →
      AreBelow order before k found → AreBelow order (before ++ l ∷ []) k found
  below_other before l found none are = record {
    only = λ z c. (let r : (b : ℕ) × Contains before (Up z b) × IsAtOrBelow order b k = are.only z c in
        (r.0, Contains-append_left before (l ∷ []) (Up z r.0) r.1, r.2));
    all = λ b z c h. (elim (Contains-push_cases before l (Up z b) c) [ inl d ↦ are.all b z d h | inr f ↦ absurd (none b z (sym f) h) ]);
  }
