-- The lines of twins, for each variable that becomes one of their sides.
use Rattle.std.proofs.Common.{◌≡◌, ℕ, ◌⊎◌, inl, inr, List, [], Contains, refl, ap, sym, subst}
use Rattle.rt_lines.specs.declared.label.Variance.{Variance}
use Rattle.rt_lines.specs.declared.label.Variance.TheVariants.{Co, Contra}
use Rattle.rt_lines.specs.declared.variable.Dtv.{Dtv}
use Rattle.rt_lines.specs.declared.line.Line.{Line}
use Rattle.rt_lines.specs.declared.line.Line.TheVariants.{Sub, Low, Up}
use Rattle.rt_lines.specs.Words.{variance_of_word}
use Rattle.rt_rules.specs.Put.{use_of}
use Rattle.rt_refine.specs.Refinements.{of_exist, move}
use Rattle.rt_refine.proofs.Classmates.{AreTwo, variable_cases}
use Rattle.rt_twins.specs.Twinnings.{IsLeftUse, IsRightUse, AreOne, IsTwinning}

pub same_one : (class : ℕ → ℕ) (exactly : Type 0) (x : Dtv) → AreOne class exactly x x
same_one class exactly x = record { but_for = refl; exact = λ e. refl }

module _ (sign : Variance) (lines : List Line) (class : ℕ → ℕ) (is : IsTwinning sign lines class) where
  pub match_above : (x y a : Dtv) → IsLeftUse sign x.word → Contains lines (Sub x y) → move class a ≡ move class x →
      (b : Dtv) × Contains lines (Sub a b) × AreOne class (IsRightUse sign y.word) b y
  match_above x y a u c e = by (variable_cases class x a (sym e))
    where
      by : (x ≡ a) ⊎ AreTwo class x a → (b : Dtv) × Contains lines (Sub a b) × AreOne class (IsRightUse sign y.word) b y
      by (inl f) = (y, subst (λ z. Contains lines (Sub z y)) f c, same_one class (IsRightUse sign y.word) y)
      by (inr t) =
          let s : (z : Dtv) × Contains lines (Sub (of_exist t.w t.word) z) × AreOne class (IsRightUse sign y.word) z y =
          (is.matched t.v t.w t.one).left t.word y (subst (λ z. IsLeftUse sign z.word) t.first u)
          (subst (λ z. Contains lines (Sub z y)) t.first c) in
          (s.0, subst (λ z. Contains lines (Sub z s.0)) (sym t.second) s.1, s.2)

  pub match_beneath : (x y b : Dtv) → IsRightUse sign y.word → Contains lines (Sub x y) → move class b ≡ move class y →
      (a : Dtv) × Contains lines (Sub a b) × AreOne class (IsLeftUse sign x.word) a x
  match_beneath x y b u c e = by (variable_cases class y b (sym e))
    where
      by : (y ≡ b) ⊎ AreTwo class y b → (a : Dtv) × Contains lines (Sub a b) × AreOne class (IsLeftUse sign x.word) a x
      by (inl f) = (x, subst (λ z. Contains lines (Sub x z)) f c, same_one class (IsLeftUse sign x.word) x)
      by (inr t) =
          let s : (z : Dtv) × Contains lines (Sub z (of_exist t.w t.word)) × AreOne class (IsLeftUse sign x.word) z x =
          (is.matched t.v t.w t.one).right x t.word (subst (λ z. IsRightUse sign z.word) t.first u)
          (subst (λ z. Contains lines (Sub x z)) t.first c) in
          (s.0, subst (λ z. Contains lines (Sub s.0 z)) (sym t.second) s.1, s.2)

  -- what is so used on both sides stands in the line with each of the one class and each of the other
  pub match_both : (x y a b : Dtv) → IsLeftUse sign x.word → IsRightUse sign y.word → Contains lines (Sub x y) →
      move class a ≡ move class x → move class b ≡ move class y → Contains lines (Sub a b)
  match_both x y a b u v c e f =
      let s : (z : Dtv) × Contains lines (Sub a z) × AreOne class (IsRightUse sign y.word) z y = match_above x y a u c e in
      let words : a.word ≡ x.word = ap (λ z. z.word) e in
      let w : IsLeftUse sign a.word = subst (IsLeftUse sign) (sym words) u in
      let d : Contains lines (Sub a y) = subst (λ z. Contains lines (Sub a z)) (s.2.exact v) s.1 in
      let t : (z : Dtv) × Contains lines (Sub z b) × AreOne class (IsLeftUse sign a.word) z a = match_beneath a y b v d f in
      subst (λ z. Contains lines (Sub z b)) (t.2.exact w) t.1

  pub match_low : (k : ℕ) (x a : Dtv) → IsRightUse sign x.word → Contains lines (Low k x) → move class a ≡ move class x →
      Contains lines (Low k a)
  match_low k x a u c e = by (variable_cases class x a (sym e))
    where
      by : (x ≡ a) ⊎ AreTwo class x a → Contains lines (Low k a)
      by (inl f) = subst (λ z. Contains lines (Low k z)) f c
      by (inr t) = subst (λ z. Contains lines (Low k z)) (sym t.second)
          ((is.matched t.v t.w t.one).low k t.word (subst (λ z. IsRightUse sign z.word) t.first u)
          (subst (λ z. Contains lines (Low k z)) t.first c))

  pub match_up : (x : Dtv) (k : ℕ) (a : Dtv) → IsLeftUse sign x.word → Contains lines (Up x k) → move class a ≡ move class x →
      Contains lines (Up a k)
  match_up x k a u c e = by (variable_cases class x a (sym e))
    where
      by : (x ≡ a) ⊎ AreTwo class x a → Contains lines (Up a k)
      by (inl f) = subst (λ z. Contains lines (Up z k)) f c
      by (inr t) = subst (λ z. Contains lines (Up z k)) (sym t.second)
          ((is.matched t.v t.w t.one).up t.word k (subst (λ z. IsLeftUse sign z.word) t.first u)
          (subst (λ z. Contains lines (Up z k)) t.first c))

-- what stands beside an existential without a letter stands beside each of its class, but for classes
pub match_bare : (sign : Variance) (lines : List Line) (class : ℕ → ℕ) (is : IsTwinning sign lines class) (v w : ℕ) (z : Dtv) →
    class v ≡ class w → Contains lines (use_of sign v z) →
    (y : Dtv) × Contains lines (use_of sign w y) × AreOne class (variance_of_word z.word ≡ Contra) y z
match_bare Co lines class is v w z e c = (is.matched v w e).right z [] refl c
match_bare Contra lines class is v w z e c = (is.matched v w e).left [] z refl c
