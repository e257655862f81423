-- The lists that are told are those of the definitions that reach.
use Rattle.std.proofs.Common.{◌≡◌, ◌+◌, ◌<◌, ◌≤◌, ◌⊎◌, ◌↔◌, inl, inr, ℕ, zero, suc, ℤ, List, [], ◌∷◌, length, Option, refl, sym, ap, subst, ◌∙◌, arith}
use Rattle.std.specs.Prelude.{AllPairs, Contains, slice_index, slice_index_or}
use Rattle.std.proofs.lemmas.Bool.{cases_lt}
use Rattle.rt_flow.specs.declared.def.Def.{Def}
use Rattle.rt_flow.specs.declared.def.Def.TheVariants.{At}
use Rattle.rt_flow.specs.declared.reach.Reach.{Reach}
use Rattle.rt_flow.specs.Bodies.{Body, IsBody, Defines, Precedes, Reaches, AreReaching}
use Rattle.rt_flow.specs.Blocks.{AreBlocks, AreTargets, NoneWithin, IsLastWithin, AreLasts, Arrives}
use Rattle.rt_flow.specs.Locations.{class_at}
use Rattle.rt_flow.specs.Tables.{IsTable}
use Rattle.rt_flow.specs.Reaching.{sites_of, IsReachOf}
use Rattle.rt_flow.proofs.Blockwise.{Answers, answers_reach, reaching_answers}

module _ (body : Body) (is_body : IsBody body) (block firsts : List ℕ) (are : AreBlocks body block firsts) (targets : List (List ℕ)) (are_targets : AreTargets body block firsts targets) (loc : ℤ)
    (sites : List ℕ) (defines : (k : ℕ) → Contains sites k ↔ Defines body k loc) (lasts : List (Option ℕ)) (are_lasts : AreLasts firsts sites lasts) (site : ℕ) (less : site < body.sites) where
  abbrev IsAnswer : Def → Type 0
  IsAnswer x = Answers body is_body block firsts are targets are_targets loc sites defines lasts are_lasts x site

  reach : (x : Def) → IsAnswer x → Reaches body loc x site
  reach x answer = answers_reach body is_body block firsts are targets are_targets loc sites defines lasts are_lasts x site less answer

  back : (x : Def) → Reaches body loc x site → IsAnswer x
  back x reaches = reaching_answers body is_body block firsts are targets are_targets loc sites defines lasts are_lasts x site reaches

  -- where no site of the block before defines the location
  stored : NoneWithin sites (slice_index firsts (slice_index block site)) site → (defs : List Def) → AllPairs Precedes defs
      → ((x : Def) → Contains defs x ↔ Arrives targets lasts (slice_index block body.entry) x (slice_index block site)) → AreReaching body loc site defs
  stored none defs order arriving = record { reaching = λ x. (λ c. reach x (inl (none, (arriving x).0 c)), λ reaches. (arriving x).1 (arrives x (back x reaches))); in_order = order }
    where
      arrives : (x : Def) → IsAnswer x → Arrives targets lasts (slice_index block body.entry) x (slice_index block site)
      arrives x (inl (free, a)) = a
      arrives x (inr (d, last, e)) = absurd (none d last.there last.within.0 last.within.1)

  -- where one does
  single : (d : ℕ) → IsLastWithin sites (slice_index firsts (slice_index block site)) site d → AreReaching body loc site (At d ∷ [])
  single d last = record { reaching = λ x. (λ c. reach x (inr (d, last, sym (only x c))), λ reaches. subst (Contains (At d ∷ [])) (same x (back x reaches)) (0, omega arith, refl)); in_order = λ i j y h g. absurd (omega arith) }
    where
      only : (x : Def) → Contains (At d ∷ []) x → At d ≡ x
      only x (zero, h, e) = e
      only x (suc k, h, e) = absurd (omega arith)

      one : (c : ℕ) → IsLastWithin sites (slice_index firsts (slice_index block site)) site c → d ≡ c
      one c other = by (cases_lt c d) (cases_lt d c)
        where
          by : (c < d) ⊎ (d ≤ c) → (d < c) ⊎ (c ≤ d) → d ≡ c
          by (inl h) g = absurd (other.later d last.there (omega arith) last.within.1)
          by (inr h) (inl g) = absurd (last.later c other.there (omega arith) other.within.1)
          by (inr h) (inr g) = omega arith

      same : (x : Def) → IsAnswer x → At d ≡ x
      same x (inl (free, a)) = absurd (free d last.there last.within.0 last.within.1)
      same x (inr (c, other, e)) = ap At (one c other) ∙ sym e

module _ (body : Body) (reach : Reach) (is : IsReachOf body reach) (site : ℕ) (loc : ℤ) (in_sites : site < sites_of reach) (block class first : ℕ) (list : List ℕ)
    (block_is : block ≡ slice_index reach.blocks.block.items site) (class_is : class ≡ class_at reach.locations.known.entries reach.locations.none loc)
    (list_is : list ≡ slice_index_or reach.classes class []) (first_is : first ≡ slice_index reach.blocks.firsts.items block) where
  less : site < body.sites
  less = subst (λ n. site < n) is.sites in_sites

  within : class < length reach.classes
  within = subst (λ n. n < length reach.classes) (sym class_is) (is.are_classes.within loc)

  same_list : slice_index_or reach.classes (class_at reach.locations.known.entries reach.locations.none loc) [] ≡ list
  same_list = ap (λ n. slice_index_or reach.classes n []) (sym class_is) ∙ sym list_is

  defines : (k : ℕ) → Contains list k ↔ Defines body k loc
  defines k = subst (λ xs. Contains xs k ↔ Defines body k loc) same_list ((is.are_classes.sites loc).defining k)

  table : IsTable reach.blocks.firsts.items is.are_tables.0 (slice_index reach.blocks.block.items body.entry) list reach.sets (slice_index_or reach.tables.items class [])
  table = subst (λ xs. IsTable reach.blocks.firsts.items is.are_tables.0 (slice_index reach.blocks.block.items body.entry) xs reach.sets (slice_index_or reach.tables.items class [])) (sym list_is) (is.are_tables.2 class within)

  first_at : first ≡ slice_index reach.blocks.firsts.items (slice_index reach.blocks.block.items site)
  first_at = first_is ∙ ap (slice_index reach.blocks.firsts.items) block_is

  -- the last definition in the block
  pub told_own : (d : ℕ) → IsLastWithin list first site d → AreReaching body loc site (At d ∷ [])
  told_own d last =
      single body is.is_body reach.blocks.block.items reach.blocks.firsts.items is.are_blocks is.are_tables.0 is.are_tables.1 loc list defines table.arriving.0 table.arriving.1 site less d
      (subst (λ n. IsLastWithin list n site d) first_at last)

  -- what arrives at the block
  pub told_stored : NoneWithin list first site → AreReaching body loc site (slice_index_or reach.sets (slice_index (slice_index_or reach.tables.items class []) block) [])
  told_stored none =
      let in_firsts : block + 1 < length reach.blocks.firsts.items = subst (λ n. n + 1 < length reach.blocks.firsts.items) (sym block_is) (is.are_blocks.within site less) in
      let in_table : block < length (slice_index_or reach.tables.items class []) = omega (arith, in_firsts, table.each) in
      let entry = slice_index reach.blocks.block.items body.entry in
      stored body is.is_body reach.blocks.block.items reach.blocks.firsts.items is.are_blocks is.are_tables.0 is.are_tables.1 loc list defines table.arriving.0 table.arriving.1 site less
      (subst (λ n. NoneWithin list n site) first_at none) (slice_index_or reach.sets (slice_index (slice_index_or reach.tables.items class []) block) []) (table.order block in_table)
      (λ x. subst (λ b. Contains (slice_index_or reach.sets (slice_index (slice_index_or reach.tables.items class []) block) []) x ↔ Arrives is.are_tables.0 table.arriving.0 entry x b) block_is (table.arriving.2 block x in_table))
