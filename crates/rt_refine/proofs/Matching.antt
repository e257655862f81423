-- The lines of a refinement, for each variable that becomes one of their sides.
use Rattle.std.proofs.Common.{◌≡◌, ℕ, ◌⊎◌, inl, inr, List, Contains, refl, sym, subst}
use Rattle.rt_lines.specs.declared.variable.Dtv.{Dtv}
use Rattle.rt_lines.specs.declared.line.Line.{Line}
use Rattle.rt_lines.specs.declared.line.Line.TheVariants.{Sub, Low, Up}
use Rattle.rt_refine.specs.Refinements.{of_exist, move, IsRefinement}
use Rattle.rt_refine.proofs.Classmates.{AreTwo, variable_cases}

module _ (lines : List Line) (class : ℕ → ℕ) (is : IsRefinement lines class) where
  pub match_above : (x y a : Dtv) → Contains lines (Sub x y) → move class a ≡ move class x →
      (b : Dtv) × Contains lines (Sub a b) × (move class b ≡ move class y)
  match_above x y a c e = by (variable_cases class x a (sym e))
    where
      by : (x ≡ a) ⊎ AreTwo class x a → (b : Dtv) × Contains lines (Sub a b) × (move class b ≡ move class y)
      by (inl f) = (y, subst (λ z. Contains lines (Sub z y)) f c, refl)
      by (inr t) =
          let s : (z : Dtv) × Contains lines (Sub (of_exist t.w t.word) z) × (move class z ≡ move class y) =
          (is.matched t.v t.w t.one).left t.word y (subst (λ z. Contains lines (Sub z y)) t.first c) in
          (s.0, subst (λ z. Contains lines (Sub z s.0)) (sym t.second) s.1, s.2)

  pub match_beneath : (x y b : Dtv) → Contains lines (Sub x y) → move class b ≡ move class y →
      (a : Dtv) × Contains lines (Sub a b) × (move class a ≡ move class x)
  match_beneath x y b c e = by (variable_cases class y b (sym e))
    where
      by : (y ≡ b) ⊎ AreTwo class y b → (a : Dtv) × Contains lines (Sub a b) × (move class a ≡ move class x)
      by (inl f) = (x, subst (λ z. Contains lines (Sub x z)) f c, refl)
      by (inr t) =
          let s : (z : Dtv) × Contains lines (Sub z (of_exist t.w t.word)) × (move class z ≡ move class x) =
          (is.matched t.v t.w t.one).right x t.word (subst (λ z. Contains lines (Sub x z)) t.first c) in
          (s.0, subst (λ z. Contains lines (Sub s.0 z)) (sym t.second) s.1, s.2)

  pub match_low : (k : ℕ) (x a : Dtv) → Contains lines (Low k x) → move class a ≡ move class x → Contains lines (Low k a)
  match_low k x a c e = by (variable_cases class x a (sym e))
    where
      by : (x ≡ a) ⊎ AreTwo class x a → Contains lines (Low k a)
      by (inl f) = subst (λ z. Contains lines (Low k z)) f c
      by (inr t) = subst (λ z. Contains lines (Low k z)) (sym t.second)
          ((is.matched t.v t.w t.one).low k t.word (subst (λ z. Contains lines (Low k z)) t.first c))

  pub match_up : (x : Dtv) (k : ℕ) (a : Dtv) → Contains lines (Up x k) → move class a ≡ move class x → Contains lines (Up a k)
  match_up x k a c e = by (variable_cases class x a (sym e))
    where
      by : (x ≡ a) ⊎ AreTwo class x a → Contains lines (Up a k)
      by (inl f) = subst (λ z. Contains lines (Up z k)) f c
      by (inr t) = subst (λ z. Contains lines (Up z k)) (sym t.second)
          ((is.matched t.v t.w t.one).up t.word k (subst (λ z. Contains lines (Up z k)) t.first c))
