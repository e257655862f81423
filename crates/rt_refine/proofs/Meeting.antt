-- Existentials with the first ones of their classes.
use Rattle.std.proofs.Common.{◌≡◌, ◌≢◌, ℕ, ◌⊎◌, inl, inr, List, [], ◌∷◌, ◌++◌, Contains, Bool, true, false, cond, Option, Some, None}
use Rattle.std.proofs.Common.{refl, sym, ap, subst, ◌∙◌}
use Rattle.std.proofs.lemmas.List.Elements.{Contains-push_cases, Contains-append_left, Contains-append_right}
use Rattle.std.specs.Ordering.{is_eq, nat_cmp}
use Rattle.rt_base.proofs.Lists.{Contains-here, Contains-none}
use Rattle.rt_base.proofs.Numbers.{equal_number}
use Rattle.rt_refine.specs.Groups.{AreMet, AreNoted, AreShared}
use Rattle.rt_refine.proofs.Noting.{noted_one, number_self}

module _ (class : ℕ → ℕ) (met : List ℕ) (v c : ℕ) (firsts : ℕ → Option ℕ) (own : class v ≡ c) where
  wider : (n : ℕ) → Contains met n → Contains (met ++ v ∷ []) n
  wider n h = Contains-append_left met (v ∷ []) n h

  last : Contains (met ++ v ∷ []) v
  last = Contains-append_right met (v ∷ []) v (Contains-here v [])

  -- one that has a first one of its class
  pub met_again : (one : ℕ) (old mid new : ℕ → Bool) → firsts c ≡ Some one →
      ((q : ℕ) → mid q ≡ cond (is_eq (nat_cmp one q)) true (old q)) →
      ((q : ℕ) → new q ≡ cond (is_eq (nat_cmp v q)) true (mid q)) → AreMet class met firsts old →
      AreMet class (met ++ v ∷ []) firsts new
  met_again one old mid new is first_updates own_updates are = record {
    each = λ n h. each n (Contains-push_cases met v n h);
    first = λ k n e. wider n (are.first k n e);
    noted = λ n h. noted n (noted_own.source n h);
  }
    where
      noted_first : AreNoted (λ n. n ≡ one) old mid
      noted_first = noted_one (λ n. n ≡ one) one old mid first_updates refl (λ n p. p)

      noted_own : AreNoted (λ n. n ≡ v) mid new
      noted_own = noted_one (λ n. n ≡ v) v mid new own_updates refl (λ n p. p)

      kept : (q : ℕ) → old q ≡ true → new q ≡ true
      kept q g = noted_own.kept q (noted_first.kept q g)

      before : (a n : ℕ) → (a ≡ n) ⊎ ((old a ≡ true) × (old n ≡ true)) → (a ≡ n) ⊎ ((new a ≡ true) × (new n ≡ true))
      before a n (inl e) = inl e
      before a n (inr (p, q)) = inr (kept a p, kept n q)

      each : (n : ℕ) → Contains met n ⊎ (v ≡ n) →
          (a : ℕ) × (firsts (class n) ≡ Some a) × ((a ≡ n) ⊎ ((new a ≡ true) × (new n ≡ true)))
      each n (inl d) = let s = are.each n d in (s.0, s.1, before s.0 n s.2)
      each n (inr e) = (
        one,
        ap firsts (sym (ap class e) ∙ own) ∙ is,
        inr (noted_own.kept one (noted_first.added one refl), noted_own.added n (sym e)),
      )

      noted_mid : (n : ℕ) → (old n ≡ true) ⊎ (n ≡ one) → Contains (met ++ v ∷ []) n
      noted_mid n (inl h) = wider n (are.noted n h)
      noted_mid n (inr e) = wider n (are.first c n (is ∙ ap Some (sym e)))

      noted : (n : ℕ) → (mid n ≡ true) ⊎ (n ≡ v) → Contains (met ++ v ∷ []) n
      noted n (inl h) = noted_mid n (noted_first.source n h)
      noted n (inr e) = subst (Contains (met ++ v ∷ [])) (sym e) last

  -- one that is the first of its class
  pub met_first : (next : ℕ → Option ℕ) (shared : ℕ → Bool) → firsts c ≡ None →
      ((q : ℕ) → next q ≡ cond (is_eq (nat_cmp c q)) (Some v) (firsts q)) → AreMet class met firsts shared →
      AreMet class (met ++ v ∷ []) next shared
  met_first next shared absent puts are = record {
    each = λ n h. each n (Contains-push_cases met v n h);
    first = λ k n e. first k n (is_eq (nat_cmp c k)) refl (sym (puts k) ∙ e);
    noted = λ n h. wider n (are.noted n h);
  }
    where
      stays : (n a : ℕ) → firsts (class n) ≡ Some a → (t : Bool) → is_eq (nat_cmp c (class n)) ≡ t →
          cond t (Some v) (firsts (class n)) ≡ Some a
      stays n a e true f =
          let g : None ≡ Some a = sym absent ∙ ap firsts (equal_number c (class n) f) ∙ e in absurd (cc)
      stays n a e false f = e

      each : (n : ℕ) → Contains met n ⊎ (v ≡ n) →
          (a : ℕ) × (next (class n) ≡ Some a) × ((a ≡ n) ⊎ ((shared a ≡ true) × (shared n ≡ true)))
      each n (inl d) =
          let s = are.each n d in (s.0, puts (class n) ∙ stays n s.0 s.1 (is_eq (nat_cmp c (class n))) refl, s.2)
      each n (inr e) =
          let f : c ≡ class n = sym own ∙ ap class e in
          let g : is_eq (nat_cmp c (class n)) ≡ true = ap (λ (q : ℕ). is_eq (nat_cmp c q)) (sym f) ∙ number_self c in
          (v, puts (class n) ∙ ap (λ (t : Bool). cond t (Some v) (firsts (class n))) g, inl e)

      first : (k n : ℕ) (t : Bool) → is_eq (nat_cmp c k) ≡ t → cond t (Some v) (firsts k) ≡ Some n → Contains (met ++ v ∷ []) n
      first k n true f e = let g : v ≡ n = cc in subst (Contains (met ++ v ∷ [])) g last
      first k n false f e = wider n (are.first k n e)

-- where all were met
pub met_all : (class : ℕ → ℕ) (met : List ℕ) (firsts : ℕ → Option ℕ) (shared : ℕ → Bool) → AreMet class met firsts shared →
    AreShared (Contains met) class shared
met_all class met firsts shared are = record { all = λ v w a b e apart. all v w e apart (are.each v a) (are.each w b); among = are.noted }
  where
    all : (v w : ℕ) → class v ≡ class w → v ≢ w →
        (f : ℕ) × (firsts (class v) ≡ Some f) × ((f ≡ v) ⊎ ((shared f ≡ true) × (shared v ≡ true))) →
        (g : ℕ) × (firsts (class w) ≡ Some g) × ((g ≡ w) ⊎ ((shared g ≡ true) × (shared w ≡ true))) → shared v ≡ true
    all v w e apart (f, i, inr (p, q)) second = q
    all v w e apart (f, i, inl p) (g, j, inl q) =
        let h : Some f ≡ Some g = sym i ∙ ap firsts e ∙ j in
        let k : f ≡ g = cc in
        absurd (apart (sym p ∙ k ∙ q))
    all v w e apart (f, i, inl p) (g, j, inr (q, r)) =
        let h : Some f ≡ Some g = sym i ∙ ap firsts e ∙ j in
        let k : f ≡ g = cc in
        subst (λ (n : ℕ). shared n ≡ true) (sym k ∙ p) q

-- where none was met
pub met_none : (class : ℕ → ℕ) (firsts : ℕ → Option ℕ) (shared : ℕ → Bool) → ((c : ℕ) → firsts c ≡ None) →
    ((n : ℕ) → shared n ≡ true → ⊥) → AreMet class [] firsts shared
met_none class firsts shared no_first no_shared = record {
  each = λ n h. absurd (Contains-none n h);
  first = λ c n e. let f : None ≡ Some n = sym (no_first c) ∙ e in absurd (cc);
  noted = λ n h. absurd (no_shared n h);
}
