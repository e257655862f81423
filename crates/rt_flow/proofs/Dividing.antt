-- Blocks of sites, site by site.
use Rattle.std.proofs.Common.{◌≡◌, ◌+◌, ◌-◌, ◌<◌, ◌≤◌, ◌⊎◌, inl, inr, ℕ, List, [], ◌∷◌, ◌++◌, length, refl, sym, ap, subst, ◌∙◌, arith}
use Rattle.std.specs.Prelude.{slice_index}
use Rattle.std.proofs.lemmas.Bool.{cases_eq, cases_lt}
use Rattle.std.proofs.lemmas.List.{get_or_append_left, get_or_push, get_or_past, length_push}
use Rattle.rt_flow.specs.Bodies.{Body}
use Rattle.rt_flow.specs.Blocks.{IsJoined, AreBlocks}
use Rattle.rt_base.proofs.Numbers.{before_or}

-- the blocks of the first sites, so many
pub record IsDividing (body : Body) (i count : ℕ) (block firsts : List ℕ) : Type 0 where
  pub each : length block ≡ i
  pub all : length firsts ≡ count
  pub few : count ≤ i
  pub some : 0 < i → 0 < count
  pub ascending : (b : ℕ) → b + 1 < count → slice_index firsts b ≤ slice_index firsts (b + 1)
  pub below : (b : ℕ) → b < count → slice_index firsts b < i
  pub within : (s : ℕ) → s < i → slice_index block s < count
  pub top : (s : ℕ) → s + 1 ≡ i → slice_index block s + 1 ≡ count
  pub begin : (s : ℕ) → s < i → (slice_index firsts (slice_index block s) ≡ s) ⊎ (IsJoined body s × ((p : ℕ) × (p + 1 ≡ s) × (slice_index block p ≡ slice_index block s)))
  pub last : (s : ℕ) → s + 1 < i → (slice_index firsts (slice_index block s + 1) ≡ s + 1) ⊎ (slice_index block (s + 1) ≡ slice_index block s)

-- one more number behind a list changes none before it
pub at_before : (xs : List ℕ) (y k : ℕ) → k < length xs → slice_index (xs ++ y ∷ []) k ≡ slice_index xs k
at_before xs y k less = get_or_append_left xs (y ∷ []) 0 k less

pub at_end : (xs : List ℕ) (y k : ℕ) → length xs ≡ k → slice_index (xs ++ y ∷ []) k ≡ y
at_end xs y k e = get_or_push xs y 0 k e

module _ (body : Body) where
  pub starts : IsDividing body 0 0 [] []
  starts = record {
    each = refl;
    all = refl;
    few = omega arith;
    some = λ h. absurd (omega arith);
    ascending = λ b h. absurd (omega arith);
    below = λ b h. absurd (omega arith);
    within = λ s h. absurd (omega arith);
    top = λ s e. absurd (omega arith);
    begin = λ s h. absurd (omega arith);
    last = λ s h. absurd (omega arith);
  }

  module _ (i count : ℕ) (block firsts : List ℕ) (is : IsDividing body i count block firsts) where
    block_before : (y s : ℕ) → s < i → slice_index (block ++ y ∷ []) s ≡ slice_index block s
    block_before y s less = at_before block y s (omega (arith, is.each))

    block_here : (y : ℕ) → slice_index (block ++ y ∷ []) i ≡ y
    block_here y = at_end block y i is.each

    first_before : (y b : ℕ) → b < count → slice_index (firsts ++ y ∷ []) b ≡ slice_index firsts b
    first_before y b less = at_before firsts y b (omega (arith, is.all))

    first_here : (y : ℕ) → slice_index (firsts ++ y ∷ []) count ≡ y
    first_here y = at_end firsts y count is.all

    -- one more number behind the first sites keeps what is known of them
    first_kept : (y b n : ℕ) → slice_index firsts b ≡ n + 1 → slice_index (firsts ++ y ∷ []) b ≡ n + 1
    first_kept y b n e = by (cases_lt b (length firsts))
      where
        by : (b < length firsts) ⊎ (length firsts ≤ b) → slice_index (firsts ++ y ∷ []) b ≡ n + 1
        by (inl less) = at_before firsts y b less ∙ e
        by (inr past) = let none : slice_index firsts b ≡ 0 = get_or_past firsts b 0 past in absurd (omega arith)

    begin_kept : (xs ys : List ℕ) → ((s : ℕ) → s < i → slice_index xs s ≡ slice_index block s) → ((b : ℕ) → b < count → slice_index ys b ≡ slice_index firsts b) → (s : ℕ) → s < i
        → (slice_index ys (slice_index xs s) ≡ s) ⊎ (IsJoined body s × ((p : ℕ) × (p + 1 ≡ s) × (slice_index xs p ≡ slice_index xs s)))
    begin_kept xs ys same kept s less = by (is.begin s less)
      where
        by : (slice_index firsts (slice_index block s) ≡ s) ⊎ (IsJoined body s × ((p : ℕ) × (p + 1 ≡ s) × (slice_index block p ≡ slice_index block s)))
            → (slice_index ys (slice_index xs s) ≡ s) ⊎ (IsJoined body s × ((p : ℕ) × (p + 1 ≡ s) × (slice_index xs p ≡ slice_index xs s)))
        by (inl e) = inl (ap (slice_index ys) (same s less) ∙ kept (slice_index block s) (is.within s less) ∙ e)
        by (inr (joined, (p, e, one))) = inr (joined, (p, e, same p (omega arith) ∙ one ∙ sym (same s less)))

    -- a site that begins a block
    pub opens : IsDividing body (i + 1) (count + 1) (block ++ count ∷ []) (firsts ++ i ∷ [])
    opens = record {
      each = length_push block count ∙ ap (λ n. n + 1) is.each;
      all = length_push firsts i ∙ ap (λ n. n + 1) is.all;
      few = omega (arith, is.few);
      some = λ h. omega arith;
      ascending = ascending;
      below = below;
      within = within;
      top = λ s e. let here : s ≡ i = omega arith in subst (λ s. slice_index (block ++ count ∷ []) s + 1 ≡ count + 1) (sym here) (ap (λ n. n + 1) (block_here count));
      begin = begin;
      last = last;
    }
      where
        ascending : (b : ℕ) → b + 1 < count + 1 → slice_index (firsts ++ i ∷ []) b ≤ slice_index (firsts ++ i ∷ []) (b + 1)
        ascending b less = by (before_or count (b + 1) less)
          where
            by : (b + 1 < count) ⊎ (b + 1 ≡ count) → slice_index (firsts ++ i ∷ []) b ≤ slice_index (firsts ++ i ∷ []) (b + 1)
            by (inl h) = omega (arith, first_before i b (omega arith), first_before i (b + 1) h, is.ascending b h)
            by (inr e) = subst (λ c. slice_index (firsts ++ i ∷ []) b ≤ slice_index (firsts ++ i ∷ []) c) (sym e) (omega (arith, first_before i b (omega arith), first_here i, is.below b (omega arith)))

        below : (b : ℕ) → b < count + 1 → slice_index (firsts ++ i ∷ []) b < i + 1
        below b less = by (before_or count b less)
          where
            by : (b < count) ⊎ (b ≡ count) → slice_index (firsts ++ i ∷ []) b < i + 1
            by (inl h) = omega (arith, first_before i b h, is.below b h)
            by (inr e) = subst (λ c. slice_index (firsts ++ i ∷ []) c < i + 1) (sym e) (omega (arith, first_here i))

        within : (s : ℕ) → s < i + 1 → slice_index (block ++ count ∷ []) s < count + 1
        within s less = by (before_or i s less)
          where
            by : (s < i) ⊎ (s ≡ i) → slice_index (block ++ count ∷ []) s < count + 1
            by (inl h) = omega (arith, block_before count s h, is.within s h)
            by (inr e) = subst (λ c. slice_index (block ++ count ∷ []) c < count + 1) (sym e) (omega (arith, block_here count))

        begin : (s : ℕ) → s < i + 1 → (slice_index (firsts ++ i ∷ []) (slice_index (block ++ count ∷ []) s) ≡ s) ⊎ (IsJoined body s × ((p : ℕ) × (p + 1 ≡ s) × (slice_index (block ++ count ∷ []) p ≡ slice_index (block ++ count ∷ []) s)))
        begin s less = by (before_or i s less)
          where
            by : (s < i) ⊎ (s ≡ i) → (slice_index (firsts ++ i ∷ []) (slice_index (block ++ count ∷ []) s) ≡ s) ⊎ (IsJoined body s × ((p : ℕ) × (p + 1 ≡ s) × (slice_index (block ++ count ∷ []) p ≡ slice_index (block ++ count ∷ []) s)))
            by (inl h) = begin_kept (block ++ count ∷ []) (firsts ++ i ∷ []) (block_before count) (first_before i) s h
            by (inr e) = inl (ap (slice_index (firsts ++ i ∷ [])) (ap (slice_index (block ++ count ∷ [])) e ∙ block_here count) ∙ first_here i ∙ sym e)

        last : (s : ℕ) → s + 1 < i + 1 → (slice_index (firsts ++ i ∷ []) (slice_index (block ++ count ∷ []) s + 1) ≡ s + 1) ⊎ (slice_index (block ++ count ∷ []) (s + 1) ≡ slice_index (block ++ count ∷ []) s)
        last s less = by (before_or i (s + 1) less)
          where
            same : slice_index (block ++ count ∷ []) s ≡ slice_index block s
            same = block_before count s (omega arith)

            old : s + 1 < i → (slice_index firsts (slice_index block s + 1) ≡ s + 1) ⊎ (slice_index block (s + 1) ≡ slice_index block s)
                → (slice_index (firsts ++ i ∷ []) (slice_index (block ++ count ∷ []) s + 1) ≡ s + 1) ⊎ (slice_index (block ++ count ∷ []) (s + 1) ≡ slice_index (block ++ count ∷ []) s)
            old h (inl e) = inl (ap (λ b. slice_index (firsts ++ i ∷ []) (b + 1)) same ∙ first_kept i (slice_index block s + 1) s e)
            old h (inr e) = inr (block_before count (s + 1) h ∙ e ∙ sym same)

            by : (s + 1 < i) ⊎ (s + 1 ≡ i) → (slice_index (firsts ++ i ∷ []) (slice_index (block ++ count ∷ []) s + 1) ≡ s + 1) ⊎ (slice_index (block ++ count ∷ []) (s + 1) ≡ slice_index (block ++ count ∷ []) s)
            by (inl h) = old h (is.last s h)
            by (inr e) = inl (ap (slice_index (firsts ++ i ∷ [])) (ap (λ b. b + 1) same ∙ is.top s e) ∙ first_here i ∙ sym e)

    -- a site that goes on in the block of the one before
    pub follows : 0 < count → IsJoined body i → IsDividing body (i + 1) count (block ++ (count - 1) ∷ []) firsts
    follows more joined = record {
      each = length_push block (count - 1) ∙ ap (λ n. n + 1) is.each;
      all = is.all;
      few = omega (arith, is.few);
      some = λ h. more;
      ascending = is.ascending;
      below = λ b h. omega (arith, is.below b h);
      within = within;
      top = λ s e. let here : s ≡ i = omega arith in subst (λ s. slice_index (block ++ (count - 1) ∷ []) s + 1 ≡ count) (sym here) (omega (arith, block_here (count - 1)));
      begin = begin;
      last = last;
    }
      where
        before : (s : ℕ) → s + 1 ≡ i → slice_index (block ++ (count - 1) ∷ []) s ≡ count - 1
        before s e = omega (arith, block_before (count - 1) s (omega arith), is.top s e)

        within : (s : ℕ) → s < i + 1 → slice_index (block ++ (count - 1) ∷ []) s < count
        within s less = by (before_or i s less)
          where
            by : (s < i) ⊎ (s ≡ i) → slice_index (block ++ (count - 1) ∷ []) s < count
            by (inl h) = omega (arith, block_before (count - 1) s h, is.within s h)
            by (inr e) = subst (λ c. slice_index (block ++ (count - 1) ∷ []) c < count) (sym e) (omega (arith, block_here (count - 1)))

        begin : (s : ℕ) → s < i + 1 → (slice_index firsts (slice_index (block ++ (count - 1) ∷ []) s) ≡ s) ⊎ (IsJoined body s × ((p : ℕ) × (p + 1 ≡ s) × (slice_index (block ++ (count - 1) ∷ []) p ≡ slice_index (block ++ (count - 1) ∷ []) s)))
        begin s less = by (before_or i s less)
          where
            by : (s < i) ⊎ (s ≡ i) → (slice_index firsts (slice_index (block ++ (count - 1) ∷ []) s) ≡ s) ⊎ (IsJoined body s × ((p : ℕ) × (p + 1 ≡ s) × (slice_index (block ++ (count - 1) ∷ []) p ≡ slice_index (block ++ (count - 1) ∷ []) s)))
            by (inl h) = begin_kept (block ++ (count - 1) ∷ []) firsts (block_before (count - 1)) (λ b h. refl) s h
            by (inr e) = inr (subst (IsJoined body) (sym e) joined, (i - 1, omega (arith, is.few), before (i - 1) (omega (arith, is.few)) ∙ sym (ap (slice_index (block ++ (count - 1) ∷ [])) e ∙ block_here (count - 1))))

        last : (s : ℕ) → s + 1 < i + 1 → (slice_index firsts (slice_index (block ++ (count - 1) ∷ []) s + 1) ≡ s + 1) ⊎ (slice_index (block ++ (count - 1) ∷ []) (s + 1) ≡ slice_index (block ++ (count - 1) ∷ []) s)
        last s less = by (before_or i (s + 1) less)
          where
            same : slice_index (block ++ (count - 1) ∷ []) s ≡ slice_index block s
            same = block_before (count - 1) s (omega arith)

            old : s + 1 < i → (slice_index firsts (slice_index block s + 1) ≡ s + 1) ⊎ (slice_index block (s + 1) ≡ slice_index block s)
                → (slice_index firsts (slice_index (block ++ (count - 1) ∷ []) s + 1) ≡ s + 1) ⊎ (slice_index (block ++ (count - 1) ∷ []) (s + 1) ≡ slice_index (block ++ (count - 1) ∷ []) s)
            old h (inl e) = inl (ap (λ b. slice_index firsts (b + 1)) same ∙ e)
            old h (inr e) = inr (block_before (count - 1) (s + 1) h ∙ e ∙ sym same)

            by : (s + 1 < i) ⊎ (s + 1 ≡ i) → (slice_index firsts (slice_index (block ++ (count - 1) ∷ []) s + 1) ≡ s + 1) ⊎ (slice_index (block ++ (count - 1) ∷ []) (s + 1) ≡ slice_index (block ++ (count - 1) ∷ []) s)
            by (inl h) = old h (is.last s h)
            by (inr e) = inr (ap (slice_index (block ++ (count - 1) ∷ [])) e ∙ block_here (count - 1) ∙ sym (before s e))

    -- behind the last block stands the number of sites
    pub ends : i ≡ body.sites → AreBlocks body block (firsts ++ i ∷ [])
    ends whole = record {
      each = is.each ∙ whole;
      within = λ s less. omega (arith, length_push firsts i, is.all, is.within s (omega arith));
      ascending = ascending;
      begin = λ s less. begin_kept block (firsts ++ i ∷ []) (λ s h. refl) (first_before i) s (omega arith);
      last = λ s less. last s (omega arith) (cases_eq (s + 1) i);
    }
      where
        ascending : (b : ℕ) → b + 1 < length (firsts ++ i ∷ []) → slice_index (firsts ++ i ∷ []) b ≤ slice_index (firsts ++ i ∷ []) (b + 1)
        ascending b less = by (before_or count (b + 1) (omega (arith, length_push firsts i, is.all)))
          where
            by : (b + 1 < count) ⊎ (b + 1 ≡ count) → slice_index (firsts ++ i ∷ []) b ≤ slice_index (firsts ++ i ∷ []) (b + 1)
            by (inl h) = omega (arith, first_before i b (omega arith), first_before i (b + 1) h, is.ascending b h)
            by (inr e) = subst (λ c. slice_index (firsts ++ i ∷ []) b ≤ slice_index (firsts ++ i ∷ []) c) (sym e) (omega (arith, first_before i b (omega arith), first_here i, is.below b (omega arith)))

        last : (s : ℕ) → s < i → (s + 1 ≡ i) ⊎ (s + 1 ≡ i → ⊥) → (slice_index (firsts ++ i ∷ []) (slice_index block s + 1) ≡ s + 1) ⊎ ((s + 1 < body.sites) × (slice_index block (s + 1) ≡ slice_index block s))
        last s less (inl e) = inl (ap (slice_index (firsts ++ i ∷ [])) (is.top s e) ∙ first_here i ∙ sym e)
        last s less (inr other) = by (is.last s (omega arith))
          where
            by : (slice_index firsts (slice_index block s + 1) ≡ s + 1) ⊎ (slice_index block (s + 1) ≡ slice_index block s) → (slice_index (firsts ++ i ∷ []) (slice_index block s + 1) ≡ s + 1) ⊎ ((s + 1 < body.sites) × (slice_index block (s + 1) ≡ slice_index block s))
            by (inl e) = inl (first_kept i (slice_index block s + 1) s e)
            by (inr e) = inr (omega (arith, whole), e)

    pub opened : (block' firsts' : List ℕ) (count' : ℕ) → count' ≡ count + 1 → block' ≡ block ++ (count' - 1) ∷ [] → firsts' ≡ firsts ++ i ∷ [] → IsDividing body (i + 1) count' block' firsts'
    opened block' firsts' count' more blocked begun =
        let one : count' - 1 ≡ count = omega arith in
        subst (λ n. IsDividing body (i + 1) n block' firsts') (sym more) (subst (λ ys. IsDividing body (i + 1) (count + 1) block' ys) (sym begun) (subst (λ xs. IsDividing body (i + 1) (count + 1) xs (firsts ++ i ∷ [])) (sym (blocked ∙ ap (λ n. block ++ n ∷ []) one)) opens))

    pub followed : (block' firsts' : List ℕ) (count' : ℕ) → count' ≡ count → block' ≡ block ++ (count' - 1) ∷ [] → firsts' ≡ firsts → 0 < count → IsJoined body i → IsDividing body (i + 1) count' block' firsts'
    followed block' firsts' count' same blocked begun more joined =
        subst (λ n. IsDividing body (i + 1) n block' firsts') (sym same) (subst (λ ys. IsDividing body (i + 1) count block' ys) (sym begun) (subst (λ xs. IsDividing body (i + 1) count xs firsts) (sym (blocked ∙ ap (λ n. block ++ (n - 1) ∷ []) same)) (follows more joined)))
