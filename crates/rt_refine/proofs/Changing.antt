-- Whether a split gave other classes.
use Rattle.std.proofs.Common.{◌≡◌, ◌≢◌, ℕ, ◌⊎◌, inl, inr, List, Bool, true, false, cond, Option, Some, None, unwrap_or, refl, sym, ap, ◌∙◌}
use Rattle.std.specs.Ordering.{is_eq, nat_cmp}
use Rattle.rt_base.proofs.Numbers.{equal_number}
use Rattle.rt_refine.specs.Groups.{class_of, IsPut}
use Rattle.rt_refine.proofs.Leading.{AreLed}
use Rattle.rt_refine.proofs.Noting.{number_self}

module _ (class : ℕ → ℕ) (w v : ℕ) (place place' : ℕ → Option ℕ) (puts : IsPut w v place place') where
  -- all that were placed stay where they were, and so does this one
  pub same_more : v ≡ class w → ((n u : ℕ) → place n ≡ Some u → u ≡ class n) → (n u : ℕ) → place' n ≡ Some u → u ≡ class n
  same_more own same n u e = by (is_eq (nat_cmp w n)) refl (sym (puts n) ∙ e)
    where
      by : (t : Bool) → is_eq (nat_cmp w n) ≡ t → cond t (Some v) (place n) ≡ Some u → u ≡ class n
      by true f g =
          let h : v ≡ u = cc in
          let i : w ≡ n = equal_number w n f in
          sym h ∙ own ∙ ap class i
      by false f g = same n u g

  put_here : place' w ≡ Some v
  put_here = puts w ∙ ap (λ (t : Bool). cond t (Some v) (place w)) (number_self w)

  -- this one does not
  pub differs_here : v ≢ class w → (n : ℕ) × (u : ℕ) × (place' n ≡ Some u) × (u ≢ class n)
  differs_here apart = (w, v, put_here, apart)

  -- one did not before
  pub differs_more : (place w ≡ None) → (n : ℕ) × (u : ℕ) × (place n ≡ Some u) × (u ≢ class n) →
      (n : ℕ) × (u : ℕ) × (place' n ≡ Some u) × (u ≢ class n)
  differs_more fresh (n, u, e, apart) = (n, u, puts n ∙ by (is_eq (nat_cmp w n)) refl, apart)
    where
      by : (t : Bool) → is_eq (nat_cmp w n) ≡ t → cond t (Some v) (place n) ≡ Some u
      by true f =
          let g : w ≡ n = equal_number w n f in
          let h : None ≡ Some u = sym fresh ∙ ap place g ∙ e in
          absurd (cc)
      by false f = e

  pub differs_now : place w ≡ None → (changed : Bool) (c : ℕ) → c ≡ class w →
      (changed ≡ true → (n : ℕ) × (u : ℕ) × (place n ≡ Some u) × (u ≢ class n)) → (changed ≡ true) ⊎ (v ≢ c) →
      (n : ℕ) × (u : ℕ) × (place' n ≡ Some u) × (u ≢ class n)
  differs_now fresh changed c e before (inl f) = differs_more fresh (before f)
  differs_now fresh changed c e before (inr apart) = differs_here (λ f. apart (f ∙ sym e))

-- where all were placed
module _ (key : ℕ → List ℕ) (named : ℕ → Type 0) (class : ℕ → ℕ) (pending : ℕ → Bool) (leaders : List ℕ → ℕ → Type 0)
    (place : ℕ → Option ℕ) (are : AreLed key named pending leaders place) where
  class_some : (n u : ℕ) → place n ≡ Some u → class_of place n ≡ u
  class_some n u e = ap (λ (o : Option ℕ). unwrap_or o n) e

  -- the one that is taken next has no place
  pub fresh_place : (w : ℕ) → pending w ≡ true → place w ≡ None
  fresh_place w h = by (place w) refl
    where
      by : (o : Option ℕ) → place w ≡ o → place w ≡ None
      by (Some u) e = absurd ((are.source w u e).1 h)
      by None e = e

  pub stays_last : ((n : ℕ) → pending n ≡ true → ⊥) → ((n u : ℕ) → place n ≡ Some u → u ≡ class n) →
      (n : ℕ) → (class_of place n ≡ class n) ⊎ (named n → ⊥)
  stays_last none same n = by (place n) refl
    where
      by : (o : Option ℕ) → place n ≡ o → (class_of place n ≡ class n) ⊎ (named n → ⊥)
      by (Some u) e = inl (class_some n u e ∙ same n u e)
      by None e = inr (λ a. let s = are.placed n a (none n) in let f : None ≡ Some s.0 = sym e ∙ s.1 in cc)

  pub differs_last : (n : ℕ) × (u : ℕ) × (place n ≡ Some u) × (u ≢ class n) → (n : ℕ) × named n × (class_of place n ≢ class n)
  differs_last (n, u, e, apart) = (n, (are.source n u e).0, λ f. apart (sym (class_some n u e) ∙ f))
