-- What arrives at blocks, one last definition after the other.
use Rattle.std.proofs.Common.{◌≡◌, ◌+◌, ◌<◌, ◌≤◌, ◌⊎◌, ◌↔◌, inl, inr, ℕ, List, [], ◌∷◌, length, replicate, Option, None, Some, refl, sym, ap, subst, ◌∙◌, arith}
use Rattle.std.specs.Prelude.{AllPairs, Contains, slice_index_or}
use Rattle.std.proofs.lemmas.Bool.{cases_eq, cases_lt}
use Rattle.std.proofs.lemmas.List.{get_or_past, length-replicate}
use Rattle.rt_flow.specs.declared.def.Def.{Def}
use Rattle.rt_flow.specs.declared.def.Def.TheVariants.{Entry, At}
use Rattle.rt_flow.specs.Bodies.{Precedes}
use Rattle.rt_flow.specs.Blocks.{Run, Arrives}
use Rattle.rt_flow.specs.Inside.Spreading.{AreAscending, AreRows, Spreads}
use Rattle.rt_flow.proofs.Targeting.{nothing_replicated, replicated_none}

module _ (targets : List (List ℕ)) (lasts : List (Option ℕ)) (entry : ℕ) where
  -- Entry, or the last definition of one of the first blocks, so many
  abbrev pub IsBefore : ℕ → Def → Type 0
  IsBefore i y = (y ≡ Entry) ⊎ ((a : ℕ) × (d : ℕ) × (a < i) × (slice_index_or lasts a None ≡ Some d) × (y ≡ At d))

  -- the rows have what arrives of those
  pub record IsDone (i : ℕ) (rows : List (List Def)) : Type 0 where
    pub each : length rows ≡ length targets
    pub order : (b : ℕ) → AllPairs Precedes (slice_index_or rows b [])
    pub arriving : (b : ℕ) (y : Def) → Contains (slice_index_or rows b []) y ↔ (IsBefore i y × Arrives targets lasts entry y b)

  later : (i : ℕ) (y : Def) → IsBefore i y → IsBefore (i + 1) y
  later i y (inl e) = inl e
  later i y (inr (a, d, less, e, f)) = inr (a, d, omega arith, e, f)

  -- rows without a definition
  pub empty_order : (rows : List (List Def)) → rows ≡ replicate (length targets) [] → (b : ℕ) → AllPairs Precedes (slice_index_or rows b [])
  empty_order rows e b = subst (λ rs. AllPairs Precedes (slice_index_or rs b [])) (sym e) (subst (AllPairs Precedes) (sym (replicated_none (length targets) b)) (λ i j d less within. absurd (omega arith)))

  pub empty_before : (x : Def) (rows : List (List Def)) → rows ≡ replicate (length targets) [] → (b : ℕ) (y : Def) → Contains (slice_index_or rows b []) y → Precedes y x
  empty_before x rows e b y c = nothing_replicated (length targets) b y (subst (λ rs. Contains (slice_index_or rs b []) y) e c)

  -- Entry is everywhere
  pub starts : (rows rows' : List (List Def)) → rows ≡ replicate (length targets) [] → Spreads targets lasts (entry ∷ []) Entry rows rows' → IsDone 0 rows'
  starts rows rows' e spreads = record {
    each = spreads.each ∙ ap length e ∙ length-replicate (length targets) [];
    order = spreads.order;
    arriving = λ b y. (λ c. there b y ((spreads.cases b y).0 c), back b y);
  }
    where
      there : (b : ℕ) (y : Def) → Contains (slice_index_or rows b []) y ⊎ ((y ≡ Entry) × Run targets lasts (entry ∷ []) b) → IsBefore 0 y × Arrives targets lasts entry y b
      there b y (inl c) = nothing_replicated (length targets) b y (subst (λ rs. Contains (slice_index_or rs b []) y) e c)
      there b y (inr (f, run)) = (inl f, subst (λ z. Arrives targets lasts entry z b) (sym f) run)

      back : (b : ℕ) (y : Def) → IsBefore 0 y × Arrives targets lasts entry y b → Contains (slice_index_or rows' b []) y
      back b y (inl f, arrives) = (spreads.cases b y).1 (inr (f, subst (λ z. Arrives targets lasts entry z b) f arrives))
      back b y (inr (a, d, less, f, g), arrives) = absurd (omega arith)

  module _ (ascending : AreAscending lasts) (i : ℕ) (rows : List (List Def)) (is : IsDone i rows) where
    -- a block without a definition
    pub none : slice_index_or lasts i None ≡ None → IsDone (i + 1) rows
    none here = record {
      each = is.each;
      order = is.order;
      arriving = λ b y. (λ c. let h = (is.arriving b y).0 c in (later i y h.0, h.1), λ h. (is.arriving b y).1 (before y h.0, h.1));
    }
      where
        clash : (d : ℕ) → None ≡ Some d → ⊥
        clash d e = cc

        before : (y : Def) → IsBefore (i + 1) y → IsBefore i y
        before y (inl e) = inl e
        before y (inr (a, d, less, e, f)) = by (cases_eq a i)
          where
            by : (a ≡ i) ⊎ (a ≡ i → ⊥) → IsBefore i y
            by (inl g) = absurd (clash d (sym here ∙ ap (λ n. slice_index_or lasts n None) (sym g) ∙ e))
            by (inr other) = inr (a, d, omega arith, e, f)

    module _ (d : ℕ) (here : slice_index_or lasts i None ≡ Some d) where
      -- what is in the rows comes before the definition of the block
      pub comes_before : (b : ℕ) (y : Def) → Contains (slice_index_or rows b []) y → Precedes y (At d)
      comes_before b y c = by ((is.arriving b y).0 c).0
        where
          by : IsBefore i y → Precedes y (At d)
          by (inl e) = subst (λ z. Precedes z (At d)) (sym e) tt
          by (inr (a, k, less, e, f)) = subst (λ z. Precedes z (At d)) (sym f) (ascending a i k d less e here)

      one_block : (a : ℕ) → slice_index_or lasts a None ≡ Some d → a ≡ i
      one_block a e = by (cases_lt a i) (cases_lt i a)
        where
          by : (a < i) ⊎ (i ≤ a) → (i < a) ⊎ (a ≤ i) → a ≡ i
          by (inl less) g = let no : d < d = ascending a i d d less e here in absurd (omega arith)
          by (inr h) (inl less) = let no : d < d = ascending i a d d less here e in absurd (omega arith)
          by (inr h) (inr g) = omega arith

      same_site : (k : ℕ) → Some k ≡ Some d → k ≡ d
      same_site k e = cc

      -- a block with one
      pub some : (starts : List ℕ) → starts ≡ slice_index_or targets i [] → (rows' : List (List Def)) → Spreads targets lasts starts (At d) rows rows' → IsDone (i + 1) rows'
      some starts starts_is rows' spreads = record {
        each = spreads.each ∙ is.each;
        order = spreads.order;
        arriving = λ b y. (λ c. there b y ((spreads.cases b y).0 c), λ h. (spreads.cases b y).1 (back b y h.0 h.1));
      }
        where
          there : (b : ℕ) (y : Def) → Contains (slice_index_or rows b []) y ⊎ ((y ≡ At d) × Run targets lasts starts b) → IsBefore (i + 1) y × Arrives targets lasts entry y b
          there b y (inl c) = let h = (is.arriving b y).0 c in (later i y h.0, h.1)
          there b y (inr (e, run)) = (inr (i, d, omega arith, here, e), subst (λ z. Arrives targets lasts entry z b) (sym e) (i, here, subst (λ ss. Run targets lasts ss b) starts_is run))

          from_here : (b : ℕ) → Arrives targets lasts entry (At d) b → Run targets lasts starts b
          from_here b (a, e, run) = subst (λ ss. Run targets lasts ss b) (sym starts_is) (subst (λ n. Run targets lasts (slice_index_or targets n []) b) (one_block a e) run)

          back : (b : ℕ) (y : Def) → IsBefore (i + 1) y → Arrives targets lasts entry y b → Contains (slice_index_or rows b []) y ⊎ ((y ≡ At d) × Run targets lasts starts b)
          back b y (inl e) arrives = inl ((is.arriving b y).1 (inl e, arrives))
          back b y (inr (a, k, less, e, f)) arrives = by (cases_eq a i)
            where
              by : (a ≡ i) ⊎ (a ≡ i → ⊥) → Contains (slice_index_or rows b []) y ⊎ ((y ≡ At d) × Run targets lasts starts b)
              by (inl g) =
                  let same : k ≡ d = same_site k (sym e ∙ ap (λ n. slice_index_or lasts n None) g ∙ here) in
                  let is_d : y ≡ At d = f ∙ ap At same in
                  inr (is_d, from_here b (subst (λ z. Arrives targets lasts entry z b) is_d arrives))
              by (inr other) = inl ((is.arriving b y).1 (inr (a, k, omega arith, e, f), arrives))

  -- all blocks are done
  pub ends : length lasts ≡ length targets → (i : ℕ) → length targets ≤ i → (rows : List (List Def)) → IsDone i rows → AreRows targets lasts entry rows
  ends whole i all rows is = record {
    each = is.each;
    order = is.order;
    arriving = λ b y. (λ c. ((is.arriving b y).0 c).1, λ arrives. (is.arriving b y).1 (before b y arrives, arrives));
  }
    where
      none_some : {A : Type 0} (d : ℕ) → None ≡ Some d → A
      none_some d e = absurd cc

      within : (a d : ℕ) → slice_index_or lasts a None ≡ Some d → a < length lasts
      within a d e = by (cases_lt a (length lasts))
        where
          by : (a < length lasts) ⊎ (length lasts ≤ a) → a < length lasts
          by (inl less) = less
          by (inr past) = none_some d (sym (get_or_past lasts a None past) ∙ e)

      before : (b : ℕ) (y : Def) → Arrives targets lasts entry y b → IsBefore i y
      before b Entry arrives = inl refl
      before b (At d) (a, e, run) = let less = within a d e in inr (a, d, omega arith, e, refl)
