-- A definition is added to the rows of blocks, block by block.
use Rattle.std.proofs.Common.{◌≡◌, ◌+◌, ◌<◌, ◌⊎◌, inl, inr, ℕ, Bool, true, false, if◌then◌else◌, List, [], ◌∷◌, ◌++◌, length, refl, sym, subst, ◌∙◌, arith}
use Rattle.std.specs.Prelude.{AllPairs, Contains, slice_index_or}
use Rattle.std.proofs.lemmas.Bool.{cases_eq, cases_lt}
use Rattle.std.proofs.lemmas.List.{get_or_default, get_or_past, get_or_read, length-set, length_push}
use Rattle.std.proofs.lemmas.List.Elements.{Contains-append_left, Contains-get_or, Contains-push, Contains-push_cases}
use Rattle.std.proofs.lemmas.List.Quantifiers.{all_pairs_push}
use Rattle.std.proofs.lemmas.List.Sums.{sum_by-set}
use Rattle.rt_flow.specs.declared.def.Def.{Def}
use Rattle.rt_flow.specs.Bodies.{Precedes}
use Rattle.rt_flow.specs.Inside.Spreading.{has_def, lacks, rows_without, AreReady, Marks, MarksAll}
use Rattle.rt_flow.proofs.Definitions.{has_here, has_not}
use Rattle.rt_flow.proofs.Pushed.{pushed, pushed_at, pushed_other, pushed_kept, pushed_here, pushed_cases}
use Rattle.rt_flow.proofs.Targeting.{nothing_in}

-- what is in rows, some list of which a block has, is in rows of which there are that many
pub within_rows : {X : Type 0} (rows : List (List X)) (b : ℕ) (y : X) → Contains (slice_index_or rows b []) y → b < length rows
within_rows rows b y c = elim (cases_lt b (length rows)) [
  | inl less ↦ less
  | inr past ↦ nothing_in y (subst (λ xs. Contains xs y) (get_or_past rows b [] past) c)
]

lacks_one : (b : Bool) → b ≡ false → ◌≡◌ {A = ℕ} (if b then 0 else 1) 1
lacks_one true e = cc
lacks_one false e = refl

lacks_none : (b : Bool) → b ≡ true → ◌≡◌ {A = ℕ} (if b then 0 else 1) 0
lacks_none true e = refl
lacks_none false e = cc

module _ (x : Def) where
  -- each block of none is marked
  pub starts : (rows : List (List Def)) (work : List ℕ) → AreReady x rows → MarksAll x [] rows work rows work
  starts rows work ready = record {
    each = refl;
    ready = ready;
    kept = λ b y c. c;
    only = λ b y c. inl c;
    marked = λ b c. nothing_in b c;
    work_kept = λ b c. c;
    work_only = λ b c. inl c;
    found = λ b c. inl c;
    room = omega arith;
  }

  module _ (blocks : List ℕ) (rows : List (List Def)) (work : List ℕ) (rows' : List (List Def)) (work' : List ℕ) (is : MarksAll x blocks rows work rows' work') (b : ℕ) where
    -- a block whose row has the definition
    pub has : Contains (slice_index_or rows' b []) x → MarksAll x (blocks ++ b ∷ []) rows work rows' work'
    has here = record {
      each = is.each;
      ready = is.ready;
      kept = is.kept;
      only = λ c y h. only c y (is.only c y h);
      marked = λ c h. marked c (Contains-push_cases blocks b c h);
      work_kept = is.work_kept;
      work_only = λ c h. work_only c (is.work_only c h);
      found = is.found;
      room = is.room;
    }
      where
        only : (c : ℕ) (y : Def) → Contains (slice_index_or rows c []) y ⊎ ((y ≡ x) × Contains blocks c) → Contains (slice_index_or rows c []) y ⊎ ((y ≡ x) × Contains (blocks ++ b ∷ []) c)
        only c y (inl h) = inl h
        only c y (inr (e, h)) = inr (e, Contains-append_left blocks (b ∷ []) c h)

        marked : (c : ℕ) → Contains blocks c ⊎ (b ≡ c) → Contains (slice_index_or rows' c []) x
        marked c (inl h) = is.marked c h
        marked c (inr e) = subst (λ n. Contains (slice_index_or rows' n []) x) e here

        work_only : (c : ℕ) → Contains work c ⊎ Contains blocks c → Contains work c ⊎ Contains (blocks ++ b ∷ []) c
        work_only c (inl h) = inl h
        work_only c (inr h) = inr (Contains-append_left blocks (b ∷ []) c h)

    -- a block to whose row it is added
    module _ (within : b < length rows') (free : Contains (slice_index_or rows' b []) x → ⊥) where
      abbrev more : List (List Def)
      more = pushed rows' b within x

      order : (c : ℕ) → AllPairs Precedes (slice_index_or (pushed rows' b within x) c [])
      order c = elim (cases_eq c b) [
        | inl e ↦ subst (λ n. AllPairs Precedes (slice_index_or (pushed rows' b within x) n [])) (sym e) (subst (AllPairs Precedes) (sym (pushed_at rows' b within x)) (all_pairs_push Precedes (slice_index_or rows' b []) x (is.ready.order b) before))
        | inr other ↦ subst (AllPairs Precedes) (sym (pushed_other rows' b within x c other)) (is.ready.order c)
      ]
        where
          before : (k : ℕ) (d : Def) → k < length (slice_index_or rows' b []) → Precedes (slice_index_or (slice_index_or rows' b []) k d) x
          before k d less = by (is.ready.upto b (slice_index_or (slice_index_or rows' b []) k d) (Contains-get_or (slice_index_or rows' b []) k d less))
            where
              by : (slice_index_or (slice_index_or rows' b []) k d ≡ x) ⊎ Precedes (slice_index_or (slice_index_or rows' b []) k d) x → Precedes (slice_index_or (slice_index_or rows' b []) k d) x
              by (inl e) = absurd (free (k, less, get_or_default (slice_index_or rows' b []) k x d less ∙ e))
              by (inr h) = h

      upto : (c : ℕ) (y : Def) → Contains (slice_index_or (pushed rows' b within x) c []) y → (y ≡ x) ⊎ Precedes y x
      upto c y h = by (pushed_cases rows' b within x c y h)
        where
          by : Contains (slice_index_or rows' c []) y ⊎ ((c ≡ b) × (x ≡ y)) → (y ≡ x) ⊎ Precedes y x
          by (inl g) = is.ready.upto c y g
          by (inr (e, f)) = inl (sym f)

      fewer : rows_without x (pushed rows' b within x) + 1 ≡ rows_without x rows'
      fewer =
          let sum : rows_without x (pushed rows' b within x) + lacks x (slice_index_or rows' b []) ≡ rows_without x rows' + lacks x (slice_index_or rows' b [] ++ x ∷ []) =
          sum_by-set (lacks x) rows' b (slice_index_or rows' b [] ++ x ∷ []) [] within in
          let old : lacks x (slice_index_or rows' b []) ≡ 1 = lacks_one (has_def x (slice_index_or rows' b [])) (has_not x (slice_index_or rows' b []) free) in
          let new : lacks x (slice_index_or rows' b [] ++ x ∷ []) ≡ 0 = lacks_none (has_def x (slice_index_or rows' b [] ++ x ∷ [])) (has_here x (slice_index_or rows' b [])) in
          omega (arith, sum, old, new)

      pub adds : MarksAll x (blocks ++ b ∷ []) rows work (pushed rows' b within x) (work' ++ b ∷ [])
      adds = record {
        each = length-set rows' b (slice_index_or rows' b [] ++ x ∷ []) ∙ is.each;
        ready = record { order = order; upto = upto };
        kept = λ c y h. pushed_kept rows' b within x c y (is.kept c y h);
        only = λ c y h. only c y (pushed_cases rows' b within x c y h);
        marked = λ c h. marked c (Contains-push_cases blocks b c h);
        work_kept = λ c h. Contains-append_left work' (b ∷ []) c (is.work_kept c h);
        work_only = λ c h. work_only c (Contains-push_cases work' b c h);
        found = λ c h. found c (pushed_cases rows' b within x c x h);
        room = omega (arith, fewer, length_push work' b, is.room);
      }
        where
          only : (c : ℕ) (y : Def) → Contains (slice_index_or rows' c []) y ⊎ ((c ≡ b) × (x ≡ y)) → Contains (slice_index_or rows c []) y ⊎ ((y ≡ x) × Contains (blocks ++ b ∷ []) c)
          only c y (inr (e, f)) = inr (sym f, subst (Contains (blocks ++ b ∷ [])) (sym e) (Contains-push blocks b))
          only c y (inl h) = old (is.only c y h)
            where
              old : Contains (slice_index_or rows c []) y ⊎ ((y ≡ x) × Contains blocks c) → Contains (slice_index_or rows c []) y ⊎ ((y ≡ x) × Contains (blocks ++ b ∷ []) c)
              old (inl g) = inl g
              old (inr (e, g)) = inr (e, Contains-append_left blocks (b ∷ []) c g)

          marked : (c : ℕ) → Contains blocks c ⊎ (b ≡ c) → Contains (slice_index_or (pushed rows' b within x) c []) x
          marked c (inl h) = pushed_kept rows' b within x c x (is.marked c h)
          marked c (inr e) = subst (λ n. Contains (slice_index_or (pushed rows' b within x) n []) x) e (pushed_here rows' b within x)

          work_only : (c : ℕ) → Contains work' c ⊎ (b ≡ c) → Contains work c ⊎ Contains (blocks ++ b ∷ []) c
          work_only c (inr e) = inr (subst (Contains (blocks ++ b ∷ [])) e (Contains-push blocks b))
          work_only c (inl h) = old (is.work_only c h)
            where
              old : Contains work c ⊎ Contains blocks c → Contains work c ⊎ Contains (blocks ++ b ∷ []) c
              old (inl g) = inl g
              old (inr g) = inr (Contains-append_left blocks (b ∷ []) c g)

          found : (c : ℕ) → Contains (slice_index_or rows' c []) x ⊎ ((c ≡ b) × (x ≡ x)) → Contains (slice_index_or rows c []) x ⊎ Contains (work' ++ b ∷ []) c
          found c (inr (e, f)) = inr (subst (Contains (work' ++ b ∷ [])) (sym e) (Contains-push work' b))
          found c (inl h) = old (is.found c h)
            where
              old : Contains (slice_index_or rows c []) x ⊎ Contains work' c → Contains (slice_index_or rows c []) x ⊎ Contains (work' ++ b ∷ []) c
              old (inl g) = inl g
              old (inr g) = inr (Contains-append_left work' (b ∷ []) c g)

    -- one more block is marked
    pub marks : (within : b < length rows') (rows'' : List (List Def)) (work'' : List ℕ) → Marks x b rows' work' rows'' work'' → MarksAll x (blocks ++ b ∷ []) rows work rows'' work''
    marks within rows'' work'' (inl (here, e, f)) = subst (λ ws. MarksAll x (blocks ++ b ∷ []) rows work rows'' ws) (sym f) (subst (λ rs. MarksAll x (blocks ++ b ∷ []) rows work rs work') (sym e) (has here))
    marks within rows'' work'' (inr (free, e, f)) = subst (λ ws. MarksAll x (blocks ++ b ∷ []) rows work rows'' ws) (sym f) (subst (λ rs. MarksAll x (blocks ++ b ∷ []) rows work rs (work' ++ b ∷ [])) (sym e) (adds within free))

-- a row as a program reads it
pub row_read : {X : Type 0} (rows : List (List X)) (b : ℕ) (row items : List X) → b < length rows → row ≡ slice_index_or rows b row → items ≡ row → items ≡ slice_index_or rows b []
row_read rows b row items less read same = same ∙ get_or_read rows b row less read []
