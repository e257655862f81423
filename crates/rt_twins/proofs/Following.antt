-- Arrows that are followed from what is known to lead out.
use Rattle.std.proofs.Common.{◌≡◌, ℕ, ◌⊎◌, inl, inr, List, [], Contains, Bool, true, false, cond, refl, sym, ap, subst, ◌∙◌}
use Rattle.std.specs.List.{list_any}
use Rattle.std.specs.Ordering.{is_eq, nat_cmp, ordering_then}
use Rattle.rt_base.proofs.Numbers.{equal_number}
use Rattle.rt_lines.specs.declared.label.Variance.{Variance}
use Rattle.rt_lines.specs.declared.variable.Base.{Base}
use Rattle.rt_lines.specs.declared.variable.Base.TheVariants.{Proc, Global, Exist, Outer}
use Rattle.rt_lines.specs.declared.variable.Dtv.{Dtv}
use Rattle.rt_lines.specs.declared.line.Line.{Line}
use Rattle.rt_polar.proofs.Pairs.{pair_equal}
use Rattle.rt_rules.specs.Put.{use_of}
use Rattle.rt_twins.specs.Inside.Leading.{AreArrows, AreOfLines, DoLead, IsBare, IsBareBut, is_in}
use Rattle.rt_twins.specs.Twinnings.{IsEnd, LeadsOut}
use Rattle.rt_twins.specs.Twinnings.LeadsOut.{ends, goes_on}

pub is_in_none : (known : ℕ → Bool) → ((n : ℕ) → known n ≡ true → ⊥) → (b : Base) → is_in known b ≡ false
is_in_none known none (Proc n) = refl
is_in_none known none (Global n) = refl
is_in_none known none (Exist n) = by (known n) refl
  where
    by : (t : Bool) → known n ≡ t → known n ≡ false
    by true e = absurd (none n e)
    by false e = e
is_in_none known none (Outer n) = refl

-- what is empty has nothing at which a test passes
pub none_there : {K : Type 0} (test : K → Bool) (keys : List K) → keys ≡ [] → list_any test keys ≡ true → ⊥
none_there {K} test keys e h = let f : list_any test keys ≡ false = ap (λ (ks : List K). list_any test ks) e in cc

-- a test of two numbers that passes
stays_on : (t b : Bool) → b ≡ true → cond t true b ≡ true
stays_on true b h = refl
stays_on false b h = h

was_on : (t b : Bool) → cond t false b ≡ true → b ≡ true
was_on true b h = cc
was_on false b h = h

module _ (sign : Variance) (lines : List Line) where
  -- such a use of n stands beside a variable of the existential m
  abbrev pub StandsBeside : ℕ → ℕ → Type 0
  StandsBeside m n = (z : Dtv) × Contains lines (use_of sign n z) × (z.base ≡ Exist m)

  -- What is known to lead out is followed, or pending. What stands beside it is known too, or there is an arrow to it and the one that
  -- it stands beside isn't followed yet.
  pub record AreFollowed (out pending : ℕ → Bool) (arrows : ℕ → ℕ → Bool) : Type 0 where
    pub arrow : (m n : ℕ) → arrows m n ≡ true → StandsBeside m n
    pub leads : (n : ℕ) → (out n ≡ true) ⊎ (pending n ≡ true) → LeadsOut sign lines n
    pub ended : (n : ℕ) (z : Dtv) → Contains lines (use_of sign n z) → IsEnd sign lines z.base → (out n ≡ true) ⊎ (pending n ≡ true)
    pub closed : (m n : ℕ) → StandsBeside m n →
        ((out n ≡ true) ⊎ (pending n ≡ true)) ⊎ ((arrows m n ≡ true) × (out m ≡ true → ⊥))

  -- at first what stands beside an end is pending
  module _ (none bare pending : ℕ → Bool) (empty : (n : ℕ) → none n ≡ true → ⊥) (bares : AreOfLines (IsBareBut sign none) lines bare)
      (others : AreOfLines (IsBareBut sign bare) lines pending) where
    has_bare : (n : ℕ) (z : Dtv) → Contains lines (use_of sign n z) → bare n ≡ true
    has_bare n z c = (bares n).1 (use_of sign n z, c, (z.base, (z, refl, refl), is_in_none none empty z.base))

    end_out : (b : Base) → IsEnd sign lines b → is_in bare b ≡ false
    end_out (Proc n) end = refl
    end_out (Global n) end = refl
    end_out (Exist n) end = by (bare n) refl
      where
        by : (t : Bool) → bare n ≡ t → bare n ≡ false
        by true e =
            let s : (l : Line) × Contains lines l × IsBareBut sign none n l = (bares n).0 e in
            let is : IsBare sign n s.2.0 s.0 = s.2.1 in
            absurd (end n is.0 refl (subst (λ (l : Line). Contains lines l) is.1 s.1))
        by false e = e
    end_out (Outer n) end = refl

    out_end : (b : Base) → is_in bare b ≡ false → IsEnd sign lines b
    out_end b e n z f c =
        let g : bare n ≡ false = subst (λ a. is_in bare a ≡ false) f e in
        let h : bare n ≡ true = has_bare n z c in
        absurd (cc)

    pub followed_first : (out : ℕ → Bool) (arrows : ℕ → ℕ → Bool) → ((n : ℕ) → out n ≡ true → ⊥) → AreArrows sign lines arrows →
        AreFollowed out pending arrows
    followed_first out arrows start are = record {
      arrow = arrow;
      leads = λ n. leads n;
      ended = λ n z c end. inr ((others n).1 (use_of sign n z, c, (z.base, (z, refl, refl), end_out z.base end)));
      closed = λ m n s. inr ((are m n).1 (use_of sign n s.0, s.1, (s.0, refl, s.2)), start m);
    }
      where
        arrow : (m n : ℕ) → arrows m n ≡ true → StandsBeside m n
        arrow m n h =
            let s : (l : Line) × Contains lines l × IsBare sign n (Exist m) l = (are m n).0 h in
            (s.2.0, subst (λ (l : Line). Contains lines l) s.2.1 s.1, s.2.2)

        leads : (n : ℕ) → (out n ≡ true) ⊎ (pending n ≡ true) → LeadsOut sign lines n
        leads n (inl h) = absurd (start n h)
        leads n (inr h) =
            let s : (l : Line) × Contains lines l × IsBareBut sign bare n l = (others n).0 h in
            let is : IsBare sign n s.2.0 s.0 = s.2.1 in
            ends is.0 (subst (λ (l : Line). Contains lines l) is.1 s.1)
            (subst (IsEnd sign lines) (sym is.2) (out_end s.2.0 s.2.2))

  -- an arrow is followed from one that is pending
  module _ (out old new : ℕ → Bool) (arrows later : ℕ → ℕ → Bool) (m n : ℕ) (are : AreFollowed out old arrows) (waits : old m ≡ true)
      (there : arrows m n ≡ true) (more : (q : ℕ) → new q ≡ cond (is_eq (nat_cmp n q)) true (old q))
      (fewer : (a b : ℕ) → later a b ≡ cond (is_eq (ordering_then (nat_cmp m a) (nat_cmp n b))) false (arrows a b)) where
    lift : (q : ℕ) → (out q ≡ true) ⊎ (old q ≡ true) → (out q ≡ true) ⊎ (new q ≡ true)
    lift q (inl h) = inl h
    lift q (inr h) = inr (more q ∙ stays_on (is_eq (nat_cmp n q)) (old q) h)

    added : (q : ℕ) → is_eq (nat_cmp n q) ≡ true → new q ≡ true
    added q e = more q ∙ ap (λ t. cond t true (old q)) e

    next : LeadsOut sign lines n
    next = let s : StandsBeside m n = are.arrow m n there in goes_on s.0 m s.1 s.2 (are.leads m (inr waits))

    pub followed_more : is_eq (nat_cmp n n) ≡ true → AreFollowed out new later
    followed_more self = record {
      arrow = λ a b h. are.arrow a b (was_on (is_eq (ordering_then (nat_cmp m a) (nat_cmp n b))) (arrows a b) (sym (fewer a b) ∙ h));
      leads = λ q. leads q;
      ended = λ q z c end. lift q (are.ended q z c end);
      closed = λ a b s. closed a b (are.closed a b s);
    }
      where
        leads : (q : ℕ) → (out q ≡ true) ⊎ (new q ≡ true) → LeadsOut sign lines q
        leads q (inl h) = are.leads q (inl h)
        leads q (inr h) = by (is_eq (nat_cmp n q)) refl (sym (more q) ∙ h)
          where
            by : (t : Bool) → is_eq (nat_cmp n q) ≡ t → cond t true (old q) ≡ true → LeadsOut sign lines q
            by true e f = subst (LeadsOut sign lines) (equal_number n q e) next
            by false e f = are.leads q (inr f)

        closed : (a b : ℕ) → ((out b ≡ true) ⊎ (old b ≡ true)) ⊎ ((arrows a b ≡ true) × (out a ≡ true → ⊥)) →
            ((out b ≡ true) ⊎ (new b ≡ true)) ⊎ ((later a b ≡ true) × (out a ≡ true → ⊥))
        closed a b (inl h) = inl (lift b h)
        closed a b (inr (h, not)) = by (is_eq (ordering_then (nat_cmp m a) (nat_cmp n b))) refl
          where
            by : (t : Bool) → is_eq (ordering_then (nat_cmp m a) (nat_cmp n b)) ≡ t →
                ((out b ≡ true) ⊎ (new b ≡ true)) ⊎ ((later a b ≡ true) × (out a ≡ true → ⊥))
            by true e =
                let p : (m ≡ a) × (n ≡ b) = pair_equal m n a b e in
                inl (inr (subst (λ q. new q ≡ true) p.1 (added n self)))
            by false e = inr (fewer a b ∙ ap (λ t. cond t false (arrows a b)) e ∙ h, not)

  -- one from which no arrow goes any more is followed
  module _ (out after old new : ℕ → Bool) (arrows : ℕ → ℕ → Bool) (m : ℕ) (are : AreFollowed out old arrows) (waits : old m ≡ true)
      (no_arrow : (n : ℕ) → arrows m n ≡ true → ⊥) (more : (q : ℕ) → after q ≡ cond (is_eq (nat_cmp m q)) true (out q))
      (fewer : (q : ℕ) → new q ≡ cond (is_eq (nat_cmp m q)) false (old q)) where
    forth : (q : ℕ) → (out q ≡ true) ⊎ (old q ≡ true) → (after q ≡ true) ⊎ (new q ≡ true)
    forth q (inl h) = inl (more q ∙ stays_on (is_eq (nat_cmp m q)) (out q) h)
    forth q (inr h) = by (is_eq (nat_cmp m q)) refl
      where
        by : (t : Bool) → is_eq (nat_cmp m q) ≡ t → (after q ≡ true) ⊎ (new q ≡ true)
        by true e = inl (more q ∙ ap (λ t. cond t true (out q)) e)
        by false e = inr (fewer q ∙ ap (λ t. cond t false (old q)) e ∙ h)

    now_out : (q : ℕ) → after q ≡ true → (q ≡ m) ⊎ (out q ≡ true)
    now_out q h = by (is_eq (nat_cmp m q)) refl (sym (more q) ∙ h)
      where
        by : (t : Bool) → is_eq (nat_cmp m q) ≡ t → cond t true (out q) ≡ true → (q ≡ m) ⊎ (out q ≡ true)
        by true e f = inl (sym (equal_number m q e))
        by false e f = inr f

    back : (q : ℕ) → (after q ≡ true) ⊎ (new q ≡ true) → (out q ≡ true) ⊎ (old q ≡ true)
    back q (inl h) = by (now_out q h)
      where
        by : (q ≡ m) ⊎ (out q ≡ true) → (out q ≡ true) ⊎ (old q ≡ true)
        by (inl e) = inr (subst (λ a. old a ≡ true) (sym e) waits)
        by (inr f) = inl f
    back q (inr h) = inr (was_on (is_eq (nat_cmp m q)) (old q) (sym (fewer q) ∙ h))

    pub followed_all : AreFollowed after new arrows
    followed_all = record {
      arrow = are.arrow;
      leads = λ q h. are.leads q (back q h);
      ended = λ q z c end. forth q (are.ended q z c end);
      closed = λ a b s. closed a b (are.closed a b s);
    }
      where
        closed : (a b : ℕ) → ((out b ≡ true) ⊎ (old b ≡ true)) ⊎ ((arrows a b ≡ true) × (out a ≡ true → ⊥)) →
            ((after b ≡ true) ⊎ (new b ≡ true)) ⊎ ((arrows a b ≡ true) × (after a ≡ true → ⊥))
        closed a b (inl h) = inl (forth b h)
        closed a b (inr (h, not)) = inr (h, λ f. by (now_out a f))
          where
            by : (a ≡ m) ⊎ (out a ≡ true) → ⊥
            by (inl e) = no_arrow b (subst (λ q. arrows q b ≡ true) e h)
            by (inr g) = not g

  -- where nothing is pending, all that lead out are followed
  pub followed_last : (out pending : ℕ → Bool) (arrows : ℕ → ℕ → Bool) → AreFollowed out pending arrows →
      ((n : ℕ) → pending n ≡ true → ⊥) → DoLead sign lines out
  followed_last out pending arrows are none n = (λ h. are.leads n (inl h), λ l. led n l)
    where
      known : (q : ℕ) → (out q ≡ true) ⊎ (pending q ≡ true) → out q ≡ true
      known q (inl h) = h
      known q (inr h) = absurd (none q h)

      led : (q : ℕ) → LeadsOut sign lines q → out q ≡ true
      led q (ends z c end) = known q (are.ended q z c end)
      led q (goes_on z m c e l) = by (led m l) (are.closed m q (z, c, e))
        where
          by : out m ≡ true → ((out q ≡ true) ⊎ (pending q ≡ true)) ⊎ ((arrows m q ≡ true) × (out m ≡ true → ⊥)) → out q ≡ true
          by h (inl k) = known q k
          by h (inr (a, not)) = absurd (not h)
