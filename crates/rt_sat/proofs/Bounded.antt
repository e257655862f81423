-- Bounds of lines that reach a constant, entered one by one.
use Rattle.std.proofs.Common.{◌≡◌, ℕ, ◌<◌, inl, inr, List, [], ◌∷◌, ◌++◌, Contains, Some, length, sym, ap, subst, ◌∙◌}
use Rattle.std.specs.Prelude.{slice_get}
use Rattle.std.proofs.lemmas.List.Elements.{Contains-append_left, Contains-push, Contains-push_cases}
use Rattle.std.proofs.lemmas.Option.{slice_get_within}
use Rattle.rt_lines.specs.declared.variable.Dtv.{Dtv}
use Rattle.rt_lines.specs.declared.line.Line.{Line}
use Rattle.rt_lines.specs.declared.line.Line.TheVariants.{Low, Up}
use Rattle.rt_lines.specs.Orders.{Below, IsAtOrBelow}
use Rattle.rt_rules.proofs.Lists.{Contains-none}
use Rattle.rt_sat.specs.Tables.{AreLows, AreUps}

module _ (order : Below) (known : List Dtv) (k : ℕ) where
  pub lows_none : AreLows order [] known k []
  lows_none = record { only = λ n c. absurd (Contains-none n c); all = λ b z c h. absurd (Contains-none (Low b z) c) }

  pub ups_none : AreUps order [] known k []
  ups_none = record { only = λ n c. absurd (Contains-none n c); all = λ b z c h. absurd (Contains-none (Up z b) c) }

  pub lows_more : (before : List Line) (bound : ℕ) (x : Dtv) (n : ℕ) (old new : List ℕ) → IsAtOrBelow order k bound → slice_get known n ≡ Some x →
      new ≡ old ++ n ∷ [] → AreLows order before known k old → AreLows order (before ++ Low bound x ∷ []) known k new
  lows_more before bound x n old new at e is are = record {
    only = λ m c. (elim (Contains-push_cases old n m (subst (λ xs. Contains xs m) is c)) [
      | inl d ↦ (let r : (b : ℕ) × (z : Dtv) × Contains before (Low b z) × IsAtOrBelow order k b × (slice_get known m ≡ Some z) = are.only m d in
          (r.0, r.1, Contains-append_left before (Low bound x ∷ []) (Low r.0 r.1) r.2, r.3, r.4))
      | inr f ↦ (bound, x, Contains-push before (Low bound x), at, subst (λ i. slice_get known i ≡ Some x) f e)
    ]);
    all = λ b z c h. (elim (Contains-push_cases before (Low bound x) (Low b z) c) [
      | inl d ↦ (let r : (m : ℕ) × Contains old m × (slice_get known m ≡ Some z) = are.all b z d h in
          (r.0, subst (λ xs. Contains xs r.0) (sym is) (Contains-append_left old (n ∷ []) r.0 r.1), r.2))
      | inr f ↦ (let p : x ≡ z = cc in (n, subst (λ xs. Contains xs n) (sym is) (Contains-push old n), e ∙ ap Some p))
    ]);
  }

  pub ups_more : (before : List Line) (bound : ℕ) (x : Dtv) (n : ℕ) (old new : List ℕ) → IsAtOrBelow order bound k → slice_get known n ≡ Some x →
      new ≡ old ++ n ∷ [] → AreUps order before known k old → AreUps order (before ++ Up x bound ∷ []) known k new
  ups_more before bound x n old new at e is are = record {
    only = λ m c. (elim (Contains-push_cases old n m (subst (λ xs. Contains xs m) is c)) [
      | inl d ↦ (let r : (b : ℕ) × (z : Dtv) × Contains before (Up z b) × IsAtOrBelow order b k × (slice_get known m ≡ Some z) = are.only m d in
          (r.0, r.1, Contains-append_left before (Up x bound ∷ []) (Up r.1 r.0) r.2, r.3, r.4))
      | inr f ↦ (bound, x, Contains-push before (Up x bound), at, subst (λ i. slice_get known i ≡ Some x) f e)
    ]);
    all = λ b z c h. (elim (Contains-push_cases before (Up x bound) (Up z b) c) [
      | inl d ↦ (let r : (m : ℕ) × Contains old m × (slice_get known m ≡ Some z) = are.all b z d h in
          (r.0, subst (λ xs. Contains xs r.0) (sym is) (Contains-append_left old (n ∷ []) r.0 r.1), r.2))
      | inr f ↦ (let p : x ≡ z = cc in (n, subst (λ xs. Contains xs n) (sym is) (Contains-push old n), e ∙ ap Some p))
    ]);
  }

  pub lows_other : (before : List Line) (l : Line) (numbers : List ℕ) → ((b : ℕ) (z : Dtv) → Low b z ≡ l → IsAtOrBelow order k b → ⊥) →
      AreLows order before known k numbers → AreLows order (before ++ l ∷ []) known k numbers
  lows_other before l numbers none are = record {
    only = λ m c. (let r : (b : ℕ) × (z : Dtv) × Contains before (Low b z) × IsAtOrBelow order k b × (slice_get known m ≡ Some z) = are.only m c in
        (r.0, r.1, Contains-append_left before (l ∷ []) (Low r.0 r.1) r.2, r.3, r.4));
    all = λ b z c h. (elim (Contains-push_cases before l (Low b z) c) [ inl d ↦ are.all b z d h | inr f ↦ absurd (none b z (sym f) h) ]);
  }

  pub ups_other : (before : List Line) (l : Line) (numbers : List ℕ) → ((b : ℕ) (z : Dtv) → Up z b ≡ l → IsAtOrBelow order b k → ⊥) →
      AreUps order before known k numbers → AreUps order (before ++ l ∷ []) known k numbers
  ups_other before l numbers none are = record {
    only = λ m c. (let r : (b : ℕ) × (z : Dtv) × Contains before (Up z b) × IsAtOrBelow order b k × (slice_get known m ≡ Some z) = are.only m c in
        (r.0, r.1, Contains-append_left before (l ∷ []) (Up r.1 r.0) r.2, r.3, r.4));
    all = λ b z c h. (elim (Contains-push_cases before l (Up z b) c) [ inl d ↦ are.all b z d h | inr f ↦ absurd (none b z (sym f) h) ]);
  }

  -- their numbers are those of named variables
  pub lows_within : (lines : List Line) (numbers : List ℕ) → AreLows order lines known k numbers → (n : ℕ) → Contains numbers n → n < length known
  lows_within lines numbers are n c =
      let r : (b : ℕ) × (z : Dtv) × Contains lines (Low b z) × IsAtOrBelow order k b × (slice_get known n ≡ Some z) = are.only n c in slice_get_within known n r.1 r.4

  pub ups_within : (lines : List Line) (numbers : List ℕ) → AreUps order lines known k numbers → (n : ℕ) → Contains numbers n → n < length known
  ups_within lines numbers are n c =
      let r : (b : ℕ) × (z : Dtv) × Contains lines (Up z b) × IsAtOrBelow order b k × (slice_get known n ≡ Some z) = are.only n c in slice_get_within known n r.1 r.4
