-- Where the list of a site and a location stands.
use Rattle.std.proofs.Common.{◌≡◌, ◌+◌, ◌<◌, ◌≤◌, ◌&&◌, ◌⊎◌, inl, inr, ℕ, zero, suc, ℤ, Bool, true, false, if◌then◌else◌, max, List, [], ◌∷◌, length, Option, None, Some, refl, sym, ap, subst, ◌∙◌, arith}
use Rattle.std.specs.Prelude.{All, Contains, nat_le, nat_lt, slice_index, slice_index_or}
use Rattle.std.proofs.lemmas.Bool.{cases_lt}
use Rattle.std.proofs.lemmas.Bool.Decides.{nat_tests}
use Rattle.rt_flow.specs.declared.def.Def.{Def}
use Rattle.rt_flow.specs.declared.source.Source.TheVariants.{Own, Shared}
use Rattle.rt_flow.specs.declared.reach.Reach.{Reach}
use Rattle.rt_flow.specs.Bodies.{Body, AreReaching}
use Rattle.rt_flow.specs.Blocks.{IsLastOf}
use Rattle.rt_flow.specs.Locations.{class_at}
use Rattle.rt_flow.specs.Reaching.{sites_of, IsReachOf}
use Rattle.rt_flow.specs.Sources.{greater_of, last_in, shared_count_of, shared_in, source_in, source_or, list_in, defs_in}
use Rattle.rt_flow.proofs.Answering.{told_own, told_stored}
use Rattle.rt_flow.proofs.Targeting.{nothing_in}

module _ (from end : ℕ) where
  -- a site that is in the range, or not
  here : ℕ → Option ℕ
  here s = if nat_le from s && nat_lt s end then Some s else None

  cases_cons : (s : ℕ) (ss : List ℕ) (k : ℕ) → Contains (s ∷ ss) k → (s ≡ k) ⊎ Contains ss k
  cases_cons s ss k (zero, less, e) = inl e
  cases_cons s ss k (suc j, less, e) = inr (j, omega arith, e)

  first_in : (s : ℕ) (ss : List ℕ) → Contains (s ∷ ss) s
  first_in s ss = (0, omega arith, refl)

  rest_in : (s : ℕ) (ss : List ℕ) (k : ℕ) → Contains ss k → Contains (s ∷ ss) k
  rest_in s ss k (j, less, e) = (suc j, omega arith, e)

  step : (s : ℕ) (ss : List ℕ) (o : Option ℕ) → IsLastOf ss from end o → (a b : Bool) → nat_le from s ≡ a → nat_lt s end ≡ b → IsLastOf (s ∷ ss) from end (greater_of (if a && b then Some s else None) o)
  step s ss None none true true ea eb = record {
    there = first_in s ss;
    within = (grind (arith, nat_tests), grind (arith, nat_tests));
    later = λ k c low high. elim (cases_cons s ss k c) [ inl e ↦ absurd (omega arith) | inr h ↦ none k h (grind (arith, nat_tests)) high ];
  }
  step s ss (Some d) last true true ea eb = record {
    there = there (cases_lt s d);
    within = (grind (arith, nat_tests, last.within.0), grind (arith, nat_tests, last.within.1));
    later = λ k c low high. elim (cases_cons s ss k c) [ inl e ↦ absurd (omega arith) | inr h ↦ last.later k h (omega arith) high ];
  }
    where
      there : (s < d) ⊎ (d ≤ s) → Contains (s ∷ ss) (max s d)
      there (inl h) = let e : max s d ≡ d = omega arith in subst (Contains (s ∷ ss)) (sym e) (rest_in s ss d last.there)
      there (inr h) = let e : max s d ≡ s = omega arith in subst (Contains (s ∷ ss)) (sym e) (first_in s ss)
  step s ss None none true false ea eb = λ k c low high. elim (cases_cons s ss k c) [ inl e ↦ absurd (grind (arith, nat_tests)) | inr h ↦ none k h low high ]
  step s ss (Some d) last true false ea eb = record {
    there = rest_in s ss d last.there;
    within = last.within;
    later = λ k c low high. elim (cases_cons s ss k c) [ inl e ↦ absurd (grind (arith, nat_tests)) | inr h ↦ last.later k h low high ];
  }
  step s ss None none false b ea eb = λ k c low high. elim (cases_cons s ss k c) [ inl e ↦ absurd (grind (arith, nat_tests)) | inr h ↦ none k h low high ]
  step s ss (Some d) last false b ea eb = record {
    there = rest_in s ss d last.there;
    within = last.within;
    later = λ k c low high. elim (cases_cons s ss k c) [ inl e ↦ absurd (under s d k last.within.0 low e ea) | inr h ↦ last.later k h low high ];
  }
    where
      under : (s d k : ℕ) → from ≤ d → d + 1 ≤ k → s ≡ k → nat_le from s ≡ false → ⊥
      under s d k h low e ea = grind (arith, nat_tests)

  -- the greatest of sites in a range is the last one in it
  pub last_is : (sites : List ℕ) → IsLastOf sites from end (last_in sites from end)
  last_is [] = λ k c low high. nothing_in k c
  last_is (s ∷ ss) = step s ss (last_in ss from end) (last_is ss) (nat_le from s) (nat_lt s end) refl refl

  -- and there is one such answer
  pub one_last : (sites : List ℕ) (a b : Option ℕ) → IsLastOf sites from end a → IsLastOf sites from end b → a ≡ b
  one_last sites None None p q = refl
  one_last sites None (Some d) p q = absurd (p d q.there q.within.0 q.within.1)
  one_last sites (Some c) None p q = absurd (q c p.there p.within.0 p.within.1)
  one_last sites (Some c) (Some d) p q = by (cases_lt c d) (cases_lt d c)
    where
      by : (c < d) ⊎ (d ≤ c) → (d < c) ⊎ (c ≤ d) → Some c ≡ Some d
      by (inl h) g = absurd (p.later d q.there (omega arith) q.within.1)
      by (inr h) (inl g) = absurd (q.later c p.there (omega arith) p.within.1)
      by (inr h) (inr g) = ap Some (omega arith)

-- the list of a site and a location is that of the definitions that reach
pub told : (body : Body) (reach : Reach) → IsReachOf body reach → (site : ℕ) (loc : ℤ) → site < sites_of reach → AreReaching body loc site (defs_in reach site loc)
unfolding source_in shared_in
told body reach is site loc less = by (last_in sites first site) (last_is first site sites)
  where
    block : ℕ
    block = slice_index reach.blocks.block.items site

    first : ℕ
    first = slice_index reach.blocks.firsts.items block

    class : ℕ
    class = class_at reach.locations.known.entries reach.locations.none loc

    sites : List ℕ
    sites = slice_index_or reach.classes class []

    row : List ℕ
    row = slice_index_or reach.tables.items class []

    by : (o : Option ℕ) → IsLastOf sites first site o → AreReaching body loc site (list_in reach (source_or o (slice_index row block)))
    by (Some d) last = told_own body reach is site loc less block class first sites refl refl refl refl d last
    by None none = told_stored body reach is site loc less block class first sites refl refl refl refl none

-- and so is one that equals it
pub lent : (body : Body) (reach : Reach) → IsReachOf body reach → (site : ℕ) (loc : ℤ) → site < sites_of reach → (defs : List Def) → defs ≡ defs_in reach site loc → AreReaching body loc site defs
lent body reach is site loc less defs same = subst (AreReaching body loc site) (sym same) (told body reach is site loc less)

-- the last definition before a site in its block, as a program finds it
module _ (reach : Reach) (site : ℕ) (loc : ℤ) (block class first : ℕ) (list : List ℕ)
    (block_is : block ≡ slice_index reach.blocks.block.items site) (class_is : class ≡ class_at reach.locations.known.entries reach.locations.none loc)
    (list_is : list ≡ slice_index_or reach.classes class []) (first_is : first ≡ slice_index reach.blocks.firsts.items block) where
  -- the source by the answer for the block
  sourced : (o : Option ℕ) (row : List ℕ) → IsLastOf list first site o → row ≡ slice_index_or reach.tables.items class [] → source_or o (slice_index row block) ≡ source_in reach site loc
  unfolding source_in
  sourced o row last row_is =
      let own = one_last first site list o (last_in list first site) last (last_is first site list) in
      ap (λ p. source_or p (slice_index row block)) own
      ∙ ap (λ (xs : List ℕ). source_or (last_in xs first site) (slice_index row block)) list_is
      ∙ ap (λ (xs : List ℕ). source_or (last_in (slice_index_or reach.classes class []) first site) (slice_index xs block)) row_is
      ∙ ap (λ n. source_or (last_in (slice_index_or reach.classes n []) first site) (slice_index (slice_index_or reach.tables.items n []) block)) class_is
      ∙ ap (λ n. source_or (last_in (slice_index_or reach.classes (class_at reach.locations.known.entries reach.locations.none loc) []) n site) (slice_index (slice_index_or reach.tables.items (class_at reach.locations.known.entries reach.locations.none loc) []) block)) first_is
      ∙ ap (λ n. source_or (last_in (slice_index_or reach.classes (class_at reach.locations.known.entries reach.locations.none loc) []) (slice_index reach.blocks.firsts.items n) site) (slice_index (slice_index_or reach.tables.items (class_at reach.locations.known.entries reach.locations.none loc) []) n)) block_is

  pub own_source : (d : ℕ) → IsLastOf list first site (Some d) → Own d ≡ source_in reach site loc
  own_source d last = sourced (Some d) (slice_index_or reach.tables.items class []) last refl

  pub shared_source : (row : List ℕ) → IsLastOf list first site None → row ≡ slice_index_or reach.tables.items class [] → Shared (slice_index row block) ≡ source_in reach site loc
  shared_source row none row_is = sourced None row none row_is

  pub class_within : class < length reach.tables.items
  class_within = subst (λ n. class < n) (sym reach.each_class) (subst (λ n. n < length reach.classes) (sym class_is) (reach.known loc))

  pub number_within : (row : List ℕ) → row ≡ slice_index_or reach.tables.items class [] → block + 1 < length reach.blocks.firsts.items → slice_index row block < shared_count_of reach
  unfolding shared_count_of
  number_within row row_is less =
      let each : length (slice_index_or reach.tables.items class []) + 1 ≡ length reach.blocks.firsts.items = reach.each_block class [] class_within in
      let all : All (λ n. n < length reach.sets) (slice_index_or reach.tables.items class []) = reach.in_sets class [] class_within in
      subst (λ (xs : List ℕ). slice_index xs block < length reach.sets) (sym row_is) (all block 0 (omega arith))

-- a site has a definition of its own
pub own_within : (reach : Reach) (d : ℕ) → d < sites_of reach → d < length reach.own.items
own_within reach d less = subst (λ n. d < n) (sym reach.each_site) less
