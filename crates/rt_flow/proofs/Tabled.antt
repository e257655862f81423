-- Tables of classes, list by list.
use Rattle.std.proofs.Common.{◌≡◌, ◌+◌, ◌<◌, ◌≤◌, ◌⊎◌, inl, inr, ℕ, zero, suc, List, [], ◌∷◌, ◌++◌, length, Option, None, Some, refl, sym, ap, subst, ◌∙◌, arith, add-one}
use Rattle.std.specs.Prelude.{All, AllPairs, Contains, slice_index, slice_index_or}
use Rattle.std.proofs.lemmas.Bool.{cases_eq, cases_lt}
use Rattle.std.proofs.lemmas.List.{get_or_append_left, get_or_past, get_or_push, length_push}
use Rattle.std.proofs.lemmas.List.Elements.{All-contains, All-from_get_or}
use Rattle.rt_flow.specs.declared.def.Def.{Def}
use Rattle.rt_flow.specs.Bodies.{Body, IsBody, Precedes}
use Rattle.rt_flow.specs.Blocks.{AreBlocks, AreTargets, AreLasts, IsLastOf, IsLastWithin}
use Rattle.rt_flow.specs.Inside.Spreading.{AreAscending, AreRows, AreWithin}
use Rattle.rt_flow.specs.Tables.{Grows, AreNumbers, IsTable}
use Rattle.rt_flow.proofs.Numbered.{kept, longer}
use Rattle.rt_base.proofs.Numbers.{before_or}

module _ {X : Type 0} where
  pub grows_none : (lists : List (List X)) → Grows lists lists
  grows_none lists = record { longer = omega arith; kept = λ n less. refl }

  pub grows_added : (old mid new : List (List X)) (list : List X) → Grows old mid → (new ≡ mid) ⊎ (new ≡ mid ++ list ∷ []) → Grows old new
  grows_added old mid new list is added = record {
    longer = omega (arith, is.longer, longer mid new list added);
    kept = λ n less. kept mid new list added n (omega (arith, is.longer)) ∙ is.kept n less;
  }

  pub grows_on : (old mid new : List (List X)) → Grows old mid → Grows mid new → Grows old new
  grows_on old mid new first second = record {
    longer = omega (arith, first.longer, second.longer);
    kept = λ n less. second.kept n (omega (arith, first.longer)) ∙ first.kept n less;
  }

pub numbers_none : (sets : List (List Def)) (numbers : List ℕ) → numbers ≡ [] → AreNumbers [] sets numbers
numbers_none sets numbers e = record { each = ap length e; within = λ b less. absurd (omega arith); list = λ b less. absurd (omega arith) }

-- one more row gets its number
pub numbers_more : (rows sets sets' : List (List Def)) (numbers numbers' : List ℕ) (row list : List Def) (n : ℕ) → AreNumbers rows sets numbers → list ≡ row → (sets' ≡ sets) ⊎ (sets' ≡ sets ++ list ∷ []) → n < length sets' → slice_index_or sets' n [] ≡ list
    → numbers' ≡ numbers ++ n ∷ [] → AreNumbers (rows ++ row ∷ []) sets' numbers'
numbers_more rows sets sets' numbers numbers' row list n is same added within found pushed = record {
  each = ap length pushed ∙ length_push numbers n ∙ ap (λ k. k + 1) is.each ∙ sym (length_push rows row);
  within = λ b less. in_sets b (before_or (length rows) b (omega (arith, length_push rows row)));
  list = λ b less. at b (before_or (length rows) b (omega (arith, length_push rows row)));
}
  where
    old_number : (b : ℕ) → b < length rows → slice_index numbers' b ≡ slice_index numbers b
    old_number b less = ap (λ ns. slice_index ns b) pushed ∙ get_or_append_left numbers (n ∷ []) 0 b (omega (arith, is.each))

    new_number : slice_index numbers' (length rows) ≡ n
    new_number = ap (λ ns. slice_index ns (length rows)) pushed ∙ get_or_push numbers n 0 (length rows) is.each

    in_sets : (b : ℕ) → (b < length rows) ⊎ (b ≡ length rows) → slice_index numbers' b < length sets'
    in_sets b (inl less) = omega (arith, old_number b less, is.within b less, longer sets sets' list added)
    in_sets b (inr e) = subst (λ k. slice_index numbers' k < length sets') (sym e) (omega (arith, new_number))

    at : (b : ℕ) → (b < length rows) ⊎ (b ≡ length rows) → slice_index_or sets' (slice_index numbers' b) [] ≡ slice_index_or (rows ++ row ∷ []) b []
    at b (inl less) =
        ap (λ k. slice_index_or sets' k []) (old_number b less) ∙ kept sets sets' list added (slice_index numbers b) (is.within b less) ∙ is.list b less
        ∙ sym (get_or_append_left rows (row ∷ []) [] b less)
    at b (inr e) =
        ap (λ k. slice_index_or sets' (slice_index numbers' k) []) e ∙ ap (λ k. slice_index_or sets' k []) new_number ∙ found ∙ same
        ∙ sym (ap (λ k. slice_index_or (rows ++ row ∷ []) k []) e ∙ get_or_push rows row [] (length rows) refl)

module _ (body : Body) (block firsts : List ℕ) (are : AreBlocks body block firsts) where
  -- the first sites of blocks don't fall
  pub firsts_rise : (b c : ℕ) → b ≤ c → c < length firsts → slice_index firsts b ≤ slice_index firsts c
  firsts_rise b zero le less =
      let none : b ≡ 0 = omega arith in
      subst (λ k. slice_index firsts k ≤ slice_index firsts 0) (sym none) (omega arith)
  firsts_rise b (suc c) le less = elim (cases_eq b (suc c)) [
    | inl e ↦ subst (λ k. slice_index firsts k ≤ slice_index firsts (suc c)) (sym e) (omega arith)
    | inr other ↦
        let one : slice_index firsts b ≤ slice_index firsts c = firsts_rise b c (omega arith) (omega arith) in
        let two : slice_index firsts c ≤ slice_index firsts (suc c) = rw (← add-one) (are.ascending c (omega arith)) in
        omega arith
  ]

  pub targets_within : (targets : List (List ℕ)) → IsBody body → AreTargets body block firsts targets → AreWithin targets
  targets_within targets is_body is b c h = by (is.only b c h)
    where
      by : (s : ℕ) × (t : ℕ) × Contains body.edges (s, t) × (slice_index block s ≡ b) × (slice_index block t ≡ c) × (slice_index firsts c ≡ t) → c < length targets
      by (s, t, edge, from, to, head) =
          let within = are.within t (All-contains (λ e. (e.0 < body.sites) × (e.1 < body.sites)) body.edges (s, t) is_body.edges_in edge).1 in
          omega (arith, within, to, is.each)

  -- last definitions of blocks rise
  pub lasts_rise : (sites : List ℕ) (lasts : List (Option ℕ)) → AreLasts firsts sites lasts → AreAscending lasts
  lasts_rise sites lasts is a b c d less e f =
      let first = last_at a c e in
      let second = last_at b d f in
      let between = firsts_rise (a + 1) b (omega arith) (omega (arith, second.0)) in
      omega (arith, first.1.within.1, second.1.within.0)
    where
      none_some : {A : Type 0} (k : ℕ) → None ≡ Some k → A
      none_some k h = absurd cc

      inside : (n k : ℕ) → slice_index_or lasts n None ≡ Some k → n < length lasts
      inside n k h = by (cases_lt n (length lasts))
        where
          by : (n < length lasts) ⊎ (length lasts ≤ n) → n < length lasts
          by (inl g) = g
          by (inr past) = none_some k (sym (get_or_past lasts n None past) ∙ h)

      last_at : (n k : ℕ) → slice_index_or lasts n None ≡ Some k → (n + 1 < length firsts) × IsLastWithin sites (slice_index firsts n) (slice_index firsts (n + 1)) k
      last_at n k h =
          let within : n + 1 < length firsts = omega (arith, inside n k h, is.each) in
          (within, subst (IsLastOf sites (slice_index firsts n) (slice_index firsts (n + 1))) h (is.last n within))

-- the numbers of the rows are a table
pub table_of : (firsts : List ℕ) (targets : List (List ℕ)) (entry : ℕ) (sites : List ℕ) (sets : List (List Def)) (table : List ℕ) (lasts : List (Option ℕ)) (rows : List (List Def))
    → length targets + 1 ≡ length firsts → AreLasts firsts sites lasts → AreRows targets lasts entry rows → AreNumbers rows sets table → IsTable firsts targets entry sites sets table
table_of firsts targets entry sites sets table lasts rows each are_lasts are_rows numbers = record {
  each = omega (arith, numbers.each, are_rows.each, each);
  within = λ b less. numbers.within b (omega (arith, numbers.each));
  order = λ b less. subst (AllPairs Precedes) (sym (numbers.list b (omega (arith, numbers.each)))) (are_rows.order b);
  arriving = (
    lasts,
    are_lasts,
    λ b x less. let same = numbers.list b (omega (arith, numbers.each)) in (
      λ c. (are_rows.arriving b x).0 (subst (λ xs. Contains xs x) same c),
      λ a. subst (λ xs. Contains xs x) (sym same) ((are_rows.arriving b x).1 a),
    ),
  );
}

-- more lists keep a table
pub table_kept : (firsts : List ℕ) (targets : List (List ℕ)) (entry : ℕ) (sites : List ℕ) (old new : List (List Def)) (table : List ℕ) → Grows old new → IsTable firsts targets entry sites old table → IsTable firsts targets entry sites new table
table_kept firsts targets entry sites old new table grows is = record {
  each = is.each;
  within = λ b less. omega (arith, is.within b less, grows.longer);
  order = λ b less. subst (AllPairs Precedes) (sym (grows.kept (slice_index table b) (is.within b less))) (is.order b less);
  arriving = (
    is.arriving.0,
    is.arriving.1,
    λ b x less. let same = grows.kept (slice_index table b) (is.within b less) in (
      λ c. (is.arriving.2 b x less).0 (subst (λ xs. Contains xs x) same c),
      λ a. subst (λ xs. Contains xs x) (sym same) ((is.arriving.2 b x less).1 a),
    ),
  );
}

-- the tables of the first classes, so many
module _ (firsts : List ℕ) (targets : List (List ℕ)) (entry : ℕ) (classes : List (List ℕ)) where
  abbrev pub AreTables : ℕ → List (List Def) → List (List ℕ) → Type 0
  AreTables i sets tables = (c : ℕ) → c < i → IsTable firsts targets entry (slice_index_or classes c []) sets (slice_index_or tables c [])

  pub tables_more : (i : ℕ) (old new : List (List Def)) (tables tables' : List (List ℕ)) (table : List ℕ) → AreTables i old tables → length tables ≡ i → Grows old new → IsTable firsts targets entry (slice_index_or classes i []) new table
      → tables' ≡ tables ++ table ∷ [] → AreTables (i + 1) new tables'
  tables_more i old new tables tables' table are each grows here pushed c less = by (before_or i c less)
    where
      by : (c < i) ⊎ (c ≡ i) → IsTable firsts targets entry (slice_index_or classes c []) new (slice_index_or tables' c [])
      by (inl h) =
          subst (IsTable firsts targets entry (slice_index_or classes c []) new) (sym (ap (λ ts. slice_index_or ts c []) pushed ∙ get_or_append_left tables (table ∷ []) [] c (omega arith)))
          (table_kept firsts targets entry (slice_index_or classes c []) old new (slice_index_or tables c []) grows (are c h))
      by (inr e) =
          subst (λ k. IsTable firsts targets entry (slice_index_or classes k []) new (slice_index_or tables' k [])) (sym e)
          (subst (IsTable firsts targets entry (slice_index_or classes i []) new) (sym (ap (λ ts. slice_index_or ts i []) pushed ∙ get_or_push tables table [] i each)) here)

-- the tables of all classes, as a `Reach` keeps them
module _ (firsts : List ℕ) (targets : List (List ℕ)) (entry : ℕ) (classes tables : List (List ℕ)) (sets : List (List Def)) (each : length tables ≡ length classes) (are : AreTables firsts targets entry classes (length classes) sets tables) where
  pub each_table : All (λ table. length table + 1 ≡ length firsts) tables
  each_table = All-from_get_or (λ table. length table + 1 ≡ length firsts) tables [] (λ c less. (are c (omega arith)).each)

  pub all_in_sets : All (λ table. All (λ number. number < length sets) table) tables
  all_in_sets =
      All-from_get_or (λ table. All (λ number. number < length sets) table) tables [] (λ c less. All-from_get_or (λ number. number < length sets) (slice_index_or tables c []) 0 (λ b h. (are c (omega arith)).within b h))
