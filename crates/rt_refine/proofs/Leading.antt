-- The existentials that lead those of their key, and those that follow.
use Rattle.std.proofs.Common.{◌≡◌, ◌≢◌, ℕ, ◌<◌, ◌≤◌, ◌⊎◌, inl, inr, List, Bool, true, false, cond, Option, Some, None, unwrap_or, refl, sym}
use Rattle.std.proofs.Common.{ap, subst, ◌∙◌, arith}
use Rattle.std.specs.Ordering.{is_eq, nat_cmp}
use Rattle.rt_polar.proofs.Holding.{same_or_apart}
use Rattle.rt_base.proofs.Numbers.{equal_number}
use Rattle.rt_refine.specs.Numbers.{IsNumbered}
use Rattle.rt_refine.specs.Groups.{class_of, IsPut, IsGrouped}
use Rattle.rt_refine.proofs.Noting.{number_self}

-- what is known of the existentials that are no longer pending
pub record AreLed (key : ℕ → List ℕ) (named : ℕ → Type 0) (pending : ℕ → Bool) (leaders : List ℕ → ℕ → Type 0)
    (place : ℕ → Option ℕ) : Type 0 where
  pub within : (n : ℕ) → pending n ≡ true → named n
  pub order : (m n : ℕ) → named m → (pending m ≡ true → ⊥) → pending n ≡ true → m < n
  pub placed : (n : ℕ) → named n → (pending n ≡ true → ⊥) → (v : ℕ) × (place n ≡ Some v) × leaders (key n) v
  pub source : (n v : ℕ) → place n ≡ Some v → named n × (pending n ≡ true → ⊥) × leaders (key n) v × (v ≤ n)
  pub leader : (list : List ℕ) (v : ℕ) → leaders list v → (place v ≡ Some v) × (list ≡ key v)
  pub one : (list : List ℕ) (j k : ℕ) → leaders list j → leaders list k → j ≡ k

module _ (key : ℕ → List ℕ) (named : ℕ → Type 0) where
  -- none was taken yet
  pub led_first : (pending : ℕ → Bool) (leaders : List ℕ → ℕ → Type 0) (place : ℕ → Option ℕ) →
      ((n : ℕ) → pending n ≡ true → named n) → ((n : ℕ) → named n → pending n ≡ true) →
      ((list : List ℕ) (v : ℕ) → leaders list v → ⊥) → ((n : ℕ) → place n ≡ None) → AreLed key named pending leaders place
  led_first pending leaders place within all no_leader no_place = record {
    within = within;
    order = λ m n may done h. absurd (done (all m may));
    placed = λ n may done. absurd (done (all n may));
    source = λ n v e. let f : None ≡ Some v = sym (no_place n) ∙ e in absurd (cc);
    leader = λ list v h. absurd (no_leader list v h);
    one = λ list j k h g. absurd (no_leader list j h);
  }

  -- all were taken
  pub led_last : (pending : ℕ → Bool) (leaders : List ℕ → ℕ → Type 0) (place : ℕ → Option ℕ) → ((n : ℕ) → pending n ≡ true → ⊥) →
      AreLed key named pending leaders place → IsGrouped key named (class_of place)
  led_last pending leaders place none are = record {
    least = λ v. least v (place v) refl;
    own = λ v. own v (place v) refl;
    alone = λ v no_name. alone v no_name (place v) refl;
    one = λ v w a b e. one v w e (are.placed v a (none v)) (are.placed w b (none w));
    same = λ v. same v (place v) refl;
    within = λ v a. within v (are.placed v a (none v));
  }
    where
      class_some : (v c : ℕ) → place v ≡ Some c → class_of place v ≡ c
      class_some v c e = ap (λ (o : Option ℕ). unwrap_or o v) e

      class_none : (v : ℕ) → place v ≡ None → class_of place v ≡ v
      class_none v e = ap (λ (o : Option ℕ). unwrap_or o v) e

      least : (v : ℕ) (o : Option ℕ) → place v ≡ o → class_of place v ≤ v
      least v (Some c) e = let f = class_some v c e in let g : c ≤ v = (are.source v c e).3 in omega (arith, f, g)
      least v None e = let f = class_none v e in omega (arith, f)

      own : (v : ℕ) (o : Option ℕ) → place v ≡ o → class_of place (class_of place v) ≡ class_of place v
      own v (Some c) e =
          let f : class_of place v ≡ c = class_some v c e in
          let g : place c ≡ Some c = (are.leader (key v) c (are.source v c e).2).0 in
          ap (class_of place) f ∙ class_some c c g ∙ sym f
      own v None e = ap (class_of place) (class_none v e)

      alone : (v : ℕ) → (named v → ⊥) → (o : Option ℕ) → place v ≡ o → class_of place v ≡ v
      alone v no_name (Some c) e = absurd (no_name (are.source v c e).0)
      alone v no_name None e = class_none v e

      one : (v w : ℕ) → key v ≡ key w → (a : ℕ) × (place v ≡ Some a) × leaders (key v) a →
          (b : ℕ) × (place w ≡ Some b) × leaders (key w) b → class_of place v ≡ class_of place w
      one v w e (a, f, g) (b, h, i) =
          let j : a ≡ b = are.one (key w) a b (subst (λ (list : List ℕ). leaders list a) e g) i in
          class_some v a f ∙ j ∙ sym (class_some w b h)

      within : (v : ℕ) → (c : ℕ) × (place v ≡ Some c) × leaders (key v) c → named (class_of place v)
      within v (c, e, h) = subst named (sym (class_some v c e)) (are.source c c (are.leader (key v) c h).0).0

      same : (v : ℕ) (o : Option ℕ) → place v ≡ o → (class_of place v ≡ v) ⊎ (named v × (key (class_of place v) ≡ key v))
      same v (Some c) e =
          let s = are.source v c e in inr (s.0, ap key (class_some v c e) ∙ sym (are.leader (key v) c s.2).1)
      same v None e = inl (class_none v e)

  -- one more was taken
  module _ (w : ℕ) (old new : ℕ → Bool) (leaders leaders' : List ℕ → ℕ → Type 0) (place place' : ℕ → Option ℕ) (was : old w ≡ true)
      (least : (n : ℕ) → old n ≡ true → w ≤ n) (updates : (n : ℕ) → new n ≡ cond (is_eq (nat_cmp w n)) false (old n))
      (are : AreLed key named old leaders place) (v : ℕ) (numbered : IsNumbered (key w) w v leaders leaders')
      (puts : IsPut w v place place') where
    was_pending : (n : ℕ) → new n ≡ true → (old n ≡ true) × (n ≢ w)
    was_pending n h = by (is_eq (nat_cmp w n)) refl (sym (updates n) ∙ h)
      where
        by : (t : Bool) → is_eq (nat_cmp w n) ≡ t → cond t false (old n) ≡ true → (old n ≡ true) × (n ≢ w)
        by true e g = absurd (cc)
        by false e g = (
          g,
          λ f. let s : is_eq (nat_cmp w n) ≡ true =
              subst (λ (m : ℕ). is_eq (nat_cmp w m) ≡ true) (sym f) (number_self w) in cc,
        )

    still : (n : ℕ) → old n ≡ true → n ≢ w → new n ≡ true
    still n h apart = updates n ∙ by (is_eq (nat_cmp w n)) refl
      where
        by : (t : Bool) → is_eq (nat_cmp w n) ≡ t → cond t false (old n) ≡ true
        by true e = absurd (apart (sym (equal_number w n e)))
        by false e = h

    was_done : (n : ℕ) → (new n ≡ true → ⊥) → n ≢ w → old n ≡ true → ⊥
    was_done n done apart h = done (still n h apart)

    is_done : (n : ℕ) → (old n ≡ true → ⊥) → new n ≡ true → ⊥
    is_done n done h = done (was_pending n h).0

    own_done : new w ≡ true → ⊥
    own_done h = (was_pending w h).1 refl

    order : (m n : ℕ) → named m → (new m ≡ true → ⊥) → new n ≡ true → m < n
    order m n may done h = by (same_or_apart m w)
      where
        p : (old n ≡ true) × (n ≢ w)
        p = was_pending n h

        by : (m ≡ w) ⊎ (m ≢ w) → m < n
        by (inl e) = let le : w ≤ n = least n p.0 in let apart : n ≢ w = p.1 in omega (arith, e, le, apart)
        by (inr apart) = are.order m n may (was_done m done apart) p.0

    put_own : place' w ≡ Some v
    put_own = puts w ∙ ap (λ (t : Bool). cond t (Some v) (place w)) (number_self w)

    put_other : (n : ℕ) → n ≢ w → place' n ≡ place n
    put_other n apart = puts n ∙ by (is_eq (nat_cmp w n)) refl
      where
        by : (t : Bool) → is_eq (nat_cmp w n) ≡ t → cond t (Some v) (place n) ≡ place n
        by true e = absurd (apart (sym (equal_number w n e)))
        by false e = refl

    abbrev IsNew : List ℕ → ℕ → Type 0
    IsNew list k = (list ≡ key w) × (k ≡ w) × (v ≡ w) × ((j : ℕ) → leaders (key w) j → ⊥)

    placed : (n : ℕ) → named n → (new n ≡ true → ⊥) → (n ≡ w) ⊎ (n ≢ w) → (u : ℕ) × (place' n ≡ Some u) × leaders' (key n) u
    placed n may done (inl e) =
        (v, subst (λ (m : ℕ). place' m ≡ Some v) (sym e) put_own, subst (λ (m : ℕ). leaders' (key m) v) (sym e) numbered.is)
    placed n may done (inr apart) =
        let s = are.placed n may (was_done n done apart) in (s.0, put_other n apart ∙ s.1, numbered.kept (key n) s.0 s.2)

    -- a leader was taken before
    led_before : (list : List ℕ) (k : ℕ) → leaders list k → k < w
    led_before list k h =
        let s = are.source k k (are.leader list k h).0 in
        are.order k w s.0 s.1 was

    above : leaders (key w) v ⊎ IsNew (key w) v → v ≤ w
    above (inl h) = let lt = led_before (key w) v h in omega (arith, lt)
    above (inr n) = let e : v ≡ w = n.2 in omega (arith, e)

    source : (n u : ℕ) → place' n ≡ Some u → (n ≡ w) ⊎ (n ≢ w) → named n × (new n ≡ true → ⊥) × leaders' (key n) u × (u ≤ n)
    source n u e (inl f) =
        let g : place' w ≡ Some u = subst (λ (m : ℕ). place' m ≡ Some u) f e in
        let h : Some v ≡ Some u = sym put_own ∙ g in
        let i : v ≡ u = cc in
        subst (λ (m : ℕ). named m × (new m ≡ true → ⊥) × leaders' (key m) u × (u ≤ m)) (sym f)
        (subst (λ (k : ℕ). named w × (new w ≡ true → ⊥) × leaders' (key w) k × (k ≤ w)) i
        (are.within w was, own_done, numbered.is, above (numbered.source (key w) v numbered.is)))
    source n u e (inr apart) =
        let s = are.source n u (sym (put_other n apart) ∙ e) in (s.0, is_done n s.1, numbered.kept (key n) u s.2, s.3)

    leader : (list : List ℕ) (k : ℕ) → leaders list k ⊎ IsNew list k → (place' k ≡ Some k) × (list ≡ key k)
    leader list k (inl h) =
        let s = are.leader list k h in
        let lt : k < w = led_before list k h in
        (put_other k (λ e. omega (arith, lt, e)) ∙ s.0, s.1)
    leader list k (inr (e, f, g, none)) =
        subst (λ (m : ℕ). (place' m ≡ Some m) × (list ≡ key m)) (sym f) (put_own ∙ ap Some g, e)

    pub led_more : AreLed key named new leaders' place'
    led_more = record {
      within = λ n h. are.within n (was_pending n h).0;
      order = order;
      placed = λ n may done. placed n may done (same_or_apart n w);
      source = λ n u e. source n u e (same_or_apart n w);
      leader = λ list k h. leader list k (numbered.source list k h);
      one = numbered.one;
    }
