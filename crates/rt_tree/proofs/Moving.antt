-- Blocks that are split by what leads to one of them.
use Rattle.std.proofs.Common.{◌≡◌, ℕ, true, flat_map, filter, zero, suc, ◌+◌, ◌<◌, ◌≤◌, ◌⊎◌, inl, inr, List, [], ◌∷◌, ◌++◌, Contains, length, get_or, set, refl, sym, ap, subst, ◌∙◌, arith, length-append, get_or-set_same, get_or-set_other}
use Rattle.std.specs.Prelude.{slice_index, slice_index_or, nat_eq}
use Rattle.std.proofs.Math.ListN.{length-set}
use Rattle.std.proofs.lemmas.Bool.{cases_eq, eqb-true, eq-eqb}
use Rattle.std.proofs.lemmas.List.{get_or_append_left, get_or_default, get_or_past, get_or_push}
use Rattle.std.proofs.lemmas.List.Elements.{Contains-append_left, Contains-push, Contains-push_cases}
use Rattle.rt_base.proofs.Lists.{Contains-none, Contains-at, Contains-flat_map, Contains-flat_map_source, filter-has, filter-source}
use Rattle.rt_tree.specs.Inside.Splits.{AreBlocks, HasMoreRows, IsIn, IsMoved, IsSplitTo, IsTwin, AreLed, led_to, living_in}

two_ways : (i j : ℕ) → (j < i) ⊎ (i ≤ j)
two_ways i j = search (arith)

up_to : (i j : ℕ) → i < j + 1 → (i < j) ⊎ (i ≡ j)
up_to i j h = cases i j (omega arith)
  where
    cases : (i j : ℕ) → i ≤ j → (i < j) ⊎ (i ≡ j)
    cases i j le = search (arith)

-- what stands in rows, of which one is longer by one
module _ (from to : ℕ) (old : List (List ℕ)) (now : List ℕ) (room : from < length old) (grown : now ≡ get_or old from [] ++ to ∷ []) where
  here : get_or (set old from now) from [] ≡ get_or old from [] ++ to ∷ []
  here = get_or-set_same old from now [] room ∙ grown

  there : (v : ℕ) → (v ≡ from → ⊥) → get_or (set old from now) v [] ≡ get_or old v []
  there v n = get_or-set_other old from v now [] n

  at : (v : ℕ) → v ≡ from → get_or (set old from now) v [] ≡ get_or old from [] ++ to ∷ []
  at v e = ap (λ u. get_or (set old from now) u []) e ∙ here

  pub row_kept : (v w : ℕ) → IsIn old v w → IsIn (set old from now) v w
  row_kept v w c = by (cases_eq v from)
    where
      by : (v ≡ from) ⊎ (v ≡ from → ⊥) → IsIn (set old from now) v w
      by (inl e) =
          subst (λ (xs : List ℕ). Contains xs w) (sym (at v e)) (Contains-append_left (get_or old from []) (to ∷ []) w (subst (λ u. Contains (get_or old u []) w) e c))
      by (inr n) = subst (λ (xs : List ℕ). Contains xs w) (sym (there v n)) c

  pub row_added : IsIn (set old from now) from to
  row_added = subst (λ (xs : List ℕ). Contains xs to) (sym here) (Contains-push (get_or old from []) to)

  pub row_only : (v w : ℕ) → IsIn (set old from now) v w → IsIn old v w ⊎ ((v ≡ from) × (w ≡ to))
  row_only v w c = by (cases_eq v from)
    where
      by : (v ≡ from) ⊎ (v ≡ from → ⊥) → IsIn old v w ⊎ ((v ≡ from) × (w ≡ to))
      by (inl e) =
          elim (Contains-push_cases (get_or old from []) to w (subst (λ (xs : List ℕ). Contains xs w) (at v e) c)) [
            | inl d ↦ inl (subst (λ u. Contains (get_or old u []) w) (sym e) d)
            | inr f ↦ inr (e, sym f)
          ]
      by (inr n) = inl (subst (λ (xs : List ℕ). Contains xs w) (there v n) c)

-- what stands in a row stands in one that is there
pub row_within : (rows : List (List ℕ)) (v w : ℕ) → IsIn rows v w → v < length rows
row_within rows v w c = by (two_ways (length rows) v)
  where
    by : (v < length rows) ⊎ (length rows ≤ v) → v < length rows
    by (inl less) = less
    by (inr past) = absurd (Contains-none w (subst (λ (xs : List ℕ). Contains xs w) (get_or_past rows v [] past) c))

-- an empty row behind
pub rows_more : (rows : List (List ℕ)) (v : ℕ) → slice_index_or (rows ++ [] ∷ []) v [] ≡ slice_index_or rows v []
rows_more [] zero = refl
rows_more [] (suc v) = refl
rows_more (row ∷ rows) zero = refl
rows_more (row ∷ rows) (suc v) = rows_more rows v

module _ (count : ℕ) (class : List ℕ) (members : List (List ℕ)) (twin : List ℕ) (are : AreBlocks count class members twin) where
  -- each class is one of the blocks
  pub class_within : (x : ℕ) → x < count → slice_index class x < length members
  class_within x less = row_within members (slice_index class x) x (are.there x less)

  twins_within : (block b : ℕ) → block < length members → b < length members + 1 → (b ≡ block) ⊎ (b ≡ block → ⊥) →
      slice_index (set (twin ++ length members ∷ []) block (length members)) b < length members + 1
  twins_within block b less h (inl e) =
      let longer = length-append twin (length members ∷ []) in
      let same = are.twins in
      let is : slice_index (set (twin ++ length members ∷ []) block (length members)) b ≡ length members =
      ap (slice_index (set (twin ++ length members ∷ []) block (length members))) e ∙ get_or-set_same (twin ++ length members ∷ []) block (length members) 0 (omega arith) in
      omega arith
  twins_within block b less h (inr n) = by (up_to b (length members) h)
    where
      other : slice_index (set (twin ++ length members ∷ []) block (length members)) b ≡ slice_index (twin ++ length members ∷ []) b
      other = get_or-set_other (twin ++ length members ∷ []) block b (length members) 0 n

      by : (b < length members) ⊎ (b ≡ length members) → slice_index (set (twin ++ length members ∷ []) block (length members)) b < length members + 1
      by (inl inside) =
          let is = other ∙ get_or_append_left twin (length members ∷ []) 0 b (subst (λ n. b < n) (sym are.twins) inside) in
          let old = are.paired b inside in
          omega arith
      by (inr e) =
          let is = other ∙ (ap (slice_index (twin ++ length members ∷ [])) e ∙ get_or_push twin (length members) 0 (length members) are.twins) in
          omega arith

  -- a block more, which is empty, as the twin of another one
  pub twin_blocks : (block : ℕ) → block < length members →
      AreBlocks count class (members ++ [] ∷ []) (set (twin ++ length members ∷ []) block (length members))
  twin_blocks block less = record {
    each = are.each;
    twins = length-set (twin ++ length members ∷ []) block (length members) ∙ (length-append twin (length members ∷ []) ∙ (ap (λ n. n + 1) are.twins ∙ sym (length-append members ([] ∷ []))));
    within = λ b x c. are.within b x (subst (λ (xs : List ℕ). Contains xs x) (rows_more members b) c);
    there = λ x h. subst (λ (xs : List ℕ). Contains xs x) (sym (rows_more members (slice_index class x))) (are.there x h);
    paired = λ b h.
        let long = length-append members ([] ∷ []) in
        let inside = twins_within block b less (omega arith) (cases_eq b block) in
        omega arith;
  }

  pub twin_there : (block counted : ℕ) → counted ≤ length members → block < counted → (slice_index twin block < counted) →
      IsTwin counted block twin (set (twin ++ length members ∷ []) block (length members)) (length members)
  twin_there block counted le less old = record {
    fresh = le;
    is = (let longer = length-append twin (length members ∷ []) in let same = are.twins in get_or-set_same (twin ++ length members ∷ []) block (length members) 0 (omega arith));
    others = λ b h n.
        get_or-set_other (twin ++ length members ∷ []) block b (length members) 0 n
        ∙ get_or_append_left twin (length members ∷ []) 0 b (let same = are.twins in omega arith);
    kept = λ above. absurd (omega arith);
  }

  pub twin_blocks_by : (block fresh : ℕ) (row longer : List ℕ) (new : List (List ℕ)) → block < length members → row ≡ [] → fresh ≡ length members →
      new ≡ members ++ row ∷ [] → longer ≡ twin ++ fresh ∷ [] → AreBlocks count class new (set longer block fresh)
  twin_blocks_by block fresh row longer new less row_is fresh_is new_is longer_is = rw (new_is, longer_is, row_is, fresh_is) (twin_blocks block less)

  pub twin_there_by : (block counted fresh : ℕ) (longer : List ℕ) → counted ≤ length members → block < counted → (slice_index twin block < counted) →
      fresh ≡ length members → longer ≡ twin ++ fresh ∷ [] → IsTwin counted block twin (set longer block fresh) fresh
  twin_there_by block counted fresh longer le less old fresh_is longer_is = rw (longer_is, fresh_is) (twin_there block counted le less old)

  -- an item in another block
  pub left_blocks : (item to : ℕ) (now : List ℕ) → item < count → to < length members → now ≡ get_or members to [] ++ item ∷ [] →
      AreBlocks count (set class item to) (set members to now) twin
  left_blocks item to now less room grown = record {
    each = length-set class item to ∙ are.each;
    twins = are.twins ∙ sym (length-set members to now);
    within = λ b x c. within b x (row_only to item members now room grown b x c);
    there = λ x h. moved x h (cases_eq x item);
    paired = λ b h. subst (λ n. slice_index twin b < n) (sym (length-set members to now)) (are.paired b (subst (λ n. b < n) (length-set members to now) h));
  }
    where
      within : (b x : ℕ) → IsIn members b x ⊎ ((b ≡ to) × (x ≡ item)) → x < count
      within b x (inl c) = are.within b x c
      within b x (inr e) = subst (λ n. n < count) (sym e.1) less

      moved : (x : ℕ) → x < count → (x ≡ item) ⊎ (x ≡ item → ⊥) → IsIn (set members to now) (slice_index (set class item to) x) x
      moved x h (inl e) =
          let is : slice_index (set class item to) x ≡ to = ap (slice_index (set class item to)) e ∙ get_or-set_same class item to 0 (subst (λ n. item < n) (sym are.each) less) in
          subst (λ b. IsIn (set members to now) b x) (sym is) (subst (IsIn (set members to now) to) (sym e) (row_added to item members now room grown))
      moved x h (inr n) =
          subst (λ b. IsIn (set members to now) b x) (sym (get_or-set_other class item x to 0 n)) (row_kept to item members now room grown (slice_index class x) x (are.there x h))

  is_block : (x block : ℕ) → nat_eq (slice_index class x) block ≡ true → slice_index class x ≡ block
  is_block x block e = eqb-true (slice_index class x) block e

  -- a row without the items that have left it
  pub living_blocks : (block : ℕ) (now : List ℕ) → block < length members → now ≡ living_in class block (get_or members block []) →
      AreBlocks count class (set members block now) twin
  living_blocks block now less is = record {
    each = are.each;
    twins = are.twins ∙ sym (length-set members block now);
    within = λ b x c. within b x (cases_eq b block) c;
    there = λ x h. there x h (cases_eq (slice_index class x) block);
    paired = λ b h. subst (λ n. slice_index twin b < n) (sym (length-set members block now)) (are.paired b (subst (λ n. b < n) (length-set members block now) h));
  }
    where
      at : (b : ℕ) → b ≡ block → get_or (set members block now) b [] ≡ living_in class block (get_or members block [])
      at b e = ap (λ u. get_or (set members block now) u []) e ∙ (get_or-set_same members block now [] less ∙ is)

      other : (b : ℕ) → (b ≡ block → ⊥) → get_or (set members block now) b [] ≡ get_or members b []
      other b n = get_or-set_other members block b now [] n

      within : (b x : ℕ) → (b ≡ block) ⊎ (b ≡ block → ⊥) → IsIn (set members block now) b x → x < count
      within b x (inl e) c =
          are.within block x (filter-source (λ y. nat_eq (slice_index class y) block) (get_or members block []) x (subst (λ (xs : List ℕ). Contains xs x) (at b e) c)).0
      within b x (inr n) c = are.within b x (subst (λ (xs : List ℕ). Contains xs x) (other b n) c)

      there : (x : ℕ) → x < count → (slice_index class x ≡ block) ⊎ (slice_index class x ≡ block → ⊥) → IsIn (set members block now) (slice_index class x) x
      there x h (inl e) =
          subst (λ (xs : List ℕ). Contains xs x) (sym (at (slice_index class x) e))
          (filter-has (λ y. nat_eq (slice_index class y) block) (get_or members block []) x (subst (λ b. IsIn members b x) e (are.there x h)) (eq-eqb (slice_index class x) block e))
      there x h (inr n) = subst (λ (xs : List ℕ). Contains xs x) (sym (other (slice_index class x) n)) (are.there x h)

  -- what leads to those that have not left is what leads to the block
  pub living_led : (into : List (List ℕ)) (block : ℕ) → AreLed into class block (led_to into (living_in class block (get_or members block [])))
  living_led into block x = (led, back)
    where
      led : Contains (flat_map (λ u. slice_index_or into u []) (filter (λ y. nat_eq (slice_index class y) block) (get_or members block []))) x →
          (u : ℕ) × (u < length class) × (slice_index class u ≡ block) × IsIn into u x
      led c =
          let from = Contains-flat_map_source (λ u. slice_index_or into u []) (filter (λ y. nat_eq (slice_index class y) block) (get_or members block [])) x c in
          let lives = filter-source (λ y. nat_eq (slice_index class y) block) (get_or members block []) from.0 from.1 in
          (from.0, subst (λ n. from.0 < n) (sym are.each) (are.within block from.0 lives.0), is_block from.0 block lives.1, from.2)

      back : (u : ℕ) × (u < length class) × (slice_index class u ≡ block) × IsIn into u x →
          Contains (flat_map (λ u. slice_index_or into u []) (filter (λ y. nat_eq (slice_index class y) block) (get_or members block []))) x
      back (u, less, e, c) =
          Contains-flat_map (λ u. slice_index_or into u []) (filter (λ y. nat_eq (slice_index class y) block) (get_or members block [])) u x
          (filter-has (λ y. nat_eq (slice_index class y) block) (get_or members block []) u
          (subst (λ b. IsIn members b u) e (are.there u (subst (λ n. u < n) are.each less))) (eq-eqb (slice_index class u) block e)) c

-- the first of the items, in rows by their classes
pub record AreBlocksTo (upto : ℕ) (class : List ℕ) (members : List (List ℕ)) (twin : List ℕ) : Type 0 where
  pub rows : length members ≡ length class
  pub twins : length twin ≡ upto
  pub within : (b x : ℕ) → IsIn members b x → x < length class
  pub there : (x : ℕ) → x < upto → IsIn members (slice_index class x) x
  pub paired : (b : ℕ) → b < upto → slice_index twin b < length class

module _ (class : List ℕ) (small : (x : ℕ) → x < length class → slice_index class x < length class) where
  pub blocks_none : (members : List (List ℕ)) (twin : List ℕ) → length members ≡ length class → length twin ≡ 0 → ((b : ℕ) → slice_index_or members b [] ≡ []) →
      AreBlocksTo 0 class members twin
  blocks_none members twin rows twins empty = record {
    rows = rows;
    twins = twins;
    within = λ b x c. absurd (Contains-none x (subst (λ (xs : List ℕ). Contains xs x) (empty b) c));
    there = λ x h. absurd (omega arith);
    paired = λ b h. absurd (omega arith);
  }

  pub blocks_more : (item : ℕ) (members : List (List ℕ)) (twin now : List ℕ) → AreBlocksTo item class members twin → item < length class →
      now ≡ get_or members (slice_index class item) [] ++ item ∷ [] → AreBlocksTo (item + 1) class (set members (slice_index class item) now) (twin ++ item ∷ [])
  blocks_more item members twin now was less grown = record {
    rows = length-set members (slice_index class item) now ∙ was.rows;
    twins = length-append twin (item ∷ []) ∙ ap (λ n. n + 1) was.twins;
    within = λ b x c. within b x (row_only (slice_index class item) item members now room grown b x c);
    there = λ x h. there x (up_to x item h);
    paired = λ b h. paired b (up_to b item h);
  }
    where
      room : slice_index class item < length members
      room = subst (λ n. slice_index class item < n) (sym was.rows) (small item less)

      within : (b x : ℕ) → IsIn members b x ⊎ ((b ≡ slice_index class item) × (x ≡ item)) → x < length class
      within b x (inl c) = was.within b x c
      within b x (inr e) = subst (λ n. n < length class) (sym e.1) less

      there : (x : ℕ) → (x < item) ⊎ (x ≡ item) → IsIn (set members (slice_index class item) now) (slice_index class x) x
      there x (inl h) = row_kept (slice_index class item) item members now room grown (slice_index class x) x (was.there x h)
      there x (inr e) =
          subst (λ y. IsIn (set members (slice_index class item) now) (slice_index class y) y) (sym e) (row_added (slice_index class item) item members now room grown)

      paired : (b : ℕ) → (b < item) ⊎ (b ≡ item) → slice_index (twin ++ item ∷ []) b < length class
      paired b (inl h) = subst (λ n. n < length class) (sym (get_or_append_left twin (item ∷ []) 0 b (subst (λ n. b < n) (sym was.twins) h))) (was.paired b h)
      paired b (inr e) =
          subst (λ n. n < length class) (sym (ap (slice_index (twin ++ item ∷ [])) e ∙ get_or_push twin item 0 item was.twins)) less

  pub blocks_all : (members : List (List ℕ)) (twin : List ℕ) → AreBlocksTo (length class) class members twin → AreBlocks (length class) class members twin
  blocks_all members twin was = record {
    each = refl;
    twins = was.twins ∙ sym was.rows;
    within = was.within;
    there = was.there;
    paired = λ b h. subst (λ n. slice_index twin b < n) (sym was.rows) (was.paired b (subst (λ n. b < n) was.rows h));
  }

-- what leads to a block is an item
pub led_within : (count : ℕ) (into : List (List ℕ)) (class led : List ℕ) (block : ℕ) → AreLed into class block led → ((u x : ℕ) → IsIn into u x → x < count) →
    (k d : ℕ) → k < length led → get_or led k d < count
led_within count into class led block is within k d less =
    let at = get_or_default led k d 0 less in
    let from = (is (get_or led k 0)).0 (Contains-at led k less) in
    let inside = within from.0 (get_or led k 0) from.3 in
    omega arith

-- a row of items, and those of them that have not left
module _ (count : ℕ) (class : List ℕ) (members : List (List ℕ)) (twin : List ℕ) (are : AreBlocks count class members twin) (block : ℕ) (row : List ℕ)
    (is : row ≡ get_or members block []) where
  pub row_all : (k d : ℕ) → k < length row → get_or row k d < count
  row_all k d less =
      let at = get_or_default row k d 0 less in
      let inside = are.within block (get_or row k 0) (subst (λ (xs : List ℕ). Contains xs (get_or row k 0)) is (Contains-at row k less)) in
      omega arith

  pub living_all : (now : List ℕ) → now ≡ living_in class block row → (k d : ℕ) → k < length now → get_or now k d < count
  living_all now same k d less =
      let at = get_or_default now k d 0 less in
      let here : Contains (living_in class block row) (get_or now k 0) = subst (λ (xs : List ℕ). Contains xs (get_or now k 0)) same (Contains-at now k less) in
      let from : Contains row (get_or now k 0) = (filter-source (λ y. nat_eq (slice_index class y) block) row (get_or now k 0) here).0 in
      let inside = are.within block (get_or now k 0) (subst (λ (xs : List ℕ). Contains xs (get_or now k 0)) is from) in
      omega arith

-- an empty row more
pub more_rows : (old new : List (List ℕ)) (row : List ℕ) → row ≡ [] → new ≡ old ++ row ∷ [] → HasMoreRows old new
more_rows old new row row_is new_is = record {
  long = rw new_is (let e = length-append old (row ∷ []) in omega arith);
  same = λ v. rw (new_is, row_is) (rows_more old v);
}

-- what was led to, one after the other
module _ (led class mid twin : List ℕ) (count : ℕ) (small : (x : ℕ) → x < length class → slice_index class x < count) where
  pub split_none : IsSplitTo [] led class class twin count
  split_none = record {
    each = refl;
    stays = λ x h below. refl;
    goes = λ x h above. absurd (let less = small x h in omega arith);
    all = λ x c. absurd (Contains-none x c);
  }

  module _ (done : List ℕ) (item : ℕ) (was : IsSplitTo done led class mid twin count) (in_led : Contains led item) (less : item < length class) where
    pub split_same : count ≤ slice_index mid item → IsSplitTo (done ++ item ∷ []) led class mid twin count
    split_same above = record {
      each = was.each;
      stays = was.stays;
      goes = was.goes;
      all = λ x c. (elim (Contains-push_cases done item x c) [
        | inl d ↦ was.all x d
        | inr e ↦ subst (λ n. count ≤ slice_index mid n) e above
      ]);
    }

    module _ (after : List ℕ) (to : ℕ) (below : slice_index mid item < count) (is : IsTwin count (slice_index mid item) twin after to) where
      here_now : slice_index (set mid item to) item ≡ to
      here_now = get_or-set_same mid item to 0 (subst (λ n. item < n) (sym was.each) less)

      at_item : (x : ℕ) → x ≡ item → slice_index (set mid item to) x ≡ to
      at_item x e = ap (slice_index (set mid item to)) e ∙ here_now

      other : (x : ℕ) → (x ≡ item → ⊥) → slice_index (set mid item to) x ≡ slice_index mid x
      other x n = get_or-set_other mid item x to 0 n

      same_twin : (x : ℕ) → x < length class → count ≤ slice_index mid x → slice_index mid x ≡ slice_index twin (slice_index class x) →
          (slice_index class x ≡ slice_index mid item) ⊎ (slice_index class x ≡ slice_index mid item → ⊥) → slice_index mid x ≡ slice_index after (slice_index class x)
      same_twin x h above e (inl f) =
          let old : slice_index mid x ≡ slice_index twin (slice_index mid item) = e ∙ ap (slice_index twin) f in
          let kept = is.kept (subst (λ n. count ≤ n) old above) in
          old ∙ (kept ∙ (sym is.is ∙ sym (ap (slice_index after) f)))
      same_twin x h above e (inr n) = e ∙ sym (is.others (slice_index class x) (small x h) n)

      stays : (x : ℕ) → x < length class → slice_index (set mid item to) x < count → (x ≡ item) ⊎ (x ≡ item → ⊥) → slice_index (set mid item to) x ≡ slice_index class x
      stays x h under (inl e) = let fresh = is.fresh in let now = at_item x e in absurd (omega arith)
      stays x h under (inr n) = other x n ∙ was.stays x h (subst (λ m. m < count) (other x n) under)

      goes : (x : ℕ) → x < length class → count ≤ slice_index (set mid item to) x → (x ≡ item) ⊎ (x ≡ item → ⊥) →
          Contains led x × (slice_index (set mid item to) x ≡ slice_index after (slice_index class x))
      goes x h above (inl e) = (
        subst (Contains led) (sym e) in_led,
        at_item x e ∙ (sym is.is ∙ (ap (slice_index after) (was.stays item less below) ∙ sym (ap (λ n. slice_index after (slice_index class n)) e))),
      )
      goes x h above (inr n) =
          let up : count ≤ slice_index mid x = subst (λ m. count ≤ m) (other x n) above in
          let old = was.goes x h up in
          (old.0, other x n ∙ same_twin x h up old.1 (cases_eq (slice_index class x) (slice_index mid item)))

      all : (x : ℕ) → Contains done x ⊎ (item ≡ x) → (x ≡ item) ⊎ (x ≡ item → ⊥) → count ≤ slice_index (set mid item to) x
      all x c (inl e) = let fresh = is.fresh in let now = at_item x e in omega arith
      all x (inl d) (inr n) = subst (λ m. count ≤ m) (sym (other x n)) (was.all x d)
      all x (inr e) (inr n) = absurd (n (sym e))

      pub split_more : IsSplitTo (done ++ item ∷ []) led class (set mid item to) after count
      split_more = record {
        each = length-set mid item to ∙ was.each;
        stays = λ x h under. stays x h under (cases_eq x item);
        goes = λ x h above. goes x h above (cases_eq x item);
        all = λ x c. all x (Contains-push_cases done item x c) (cases_eq x item);
      }

    pub split_step : (new after : List ℕ) → IsMoved count item mid twin new after → IsSplitTo (done ++ item ∷ []) led class new after count
    split_step new after (inl (above, same, twins)) = rw (same, twins) (split_same above)
    split_step new after (inr (below, to, is, moved)) = rw moved (split_more after to below is)
