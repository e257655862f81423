-- The last of ascending sites in a range.
use Rattle.std.proofs.Common.{◌≡◌, ◌+◌, ◌-◌, ◌<◌, ◌≤◌, ◌⊎◌, inl, inr, ℕ, true, false, Option, None, List, [], ◌∷◌, ◌++◌, length, sym, ap, subst, ◌∙◌, arith}
use Rattle.std.specs.Prelude.{nat_lt, slice_index, slice_index_or}
use Rattle.std.specs.List.Sorted.{IsStrictlyIncreasing, IsNonDecreasingBy, IsPartitionPoint}
use Rattle.std.proofs.lemmas.Bool.{cases_eq, cases_lt}
use Rattle.std.proofs.lemmas.Bool.Decides.{nat_tests}
use Rattle.std.proofs.lemmas.List.{get_or_append_left, get_or_default, get_or_push}
use Rattle.std.proofs.lemmas.List.Elements.{Contains-get_or}
use Rattle.std.proofs.lemmas.List.Kept.{AllPairs-from_increasing}
use Rattle.rt_flow.specs.Blocks.{NoneWithin, IsLastWithin, IsLastOf}

module _ (sites : List ℕ) (ascending : IsStrictlyIncreasing sites) where
  pub non_decreasing : IsNonDecreasingBy (λ x. x) sites
  non_decreasing i j d le less = by (cases_eq i j)
    where
      by : (i ≡ j) ⊎ (i ≡ j → ⊥) → slice_index_or sites i d ≤ slice_index_or sites j d
      by (inl e) = subst (λ k. slice_index_or sites i d ≤ slice_index_or sites k d) e (omega arith)
      by (inr other) = let below = AllPairs-from_increasing sites ascending i j d (omega arith) less in omega arith

  module _ (end before : ℕ) (bound : before ≤ length sites) (point : IsPartitionPoint (λ y. nat_lt y end ≡ true) (λ y. nat_lt y end ≡ false) sites before) where
    -- a site of the list stands at a place, and from the place on sites are no more below the end
    past : (j k : ℕ) → j < length sites → slice_index_or sites j k ≡ k → before ≤ j → k < end → ⊥
    past j k less e after low = by (subst (λ n. nat_lt n end ≡ false) e (point.1 j k after less)) (grind (arith, nat_tests))
      where
        by : nat_lt k end ≡ false → nat_lt k end ≡ true → ⊥
        by f t = cc

    pub none_before : before ≡ 0 → (from : ℕ) → NoneWithin sites from end
    none_before none from k (j, less, e) low high = past j k less e (omega arith) high

    module _ (some : before ≡ 0 → ⊥) where
      last : ℕ
      last = slice_index sites (before - 1)

      upto : (j k : ℕ) → j < length sites → slice_index_or sites j k ≡ k → j < before → k ≤ slice_index sites (before - 1)
      upto j k less e under =
          let within : before - 1 < length sites = omega arith in
          subst (λ n. n ≤ slice_index sites (before - 1)) (get_or_default sites j 0 k less ∙ e) (non_decreasing j (before - 1) 0 (omega arith) within)

      pub none_behind : (from : ℕ) → slice_index sites (before - 1) < from → NoneWithin sites from end
      none_behind from under k (j, less, e) low high = by (cases_lt j before)
        where
          by : (j < before) ⊎ (before ≤ j) → ⊥
          by (inl h) = let most = upto j k less e h in omega arith
          by (inr h) = past j k less e h high

      pub found : (from : ℕ) → from ≤ slice_index sites (before - 1) → IsLastWithin sites from end (slice_index sites (before - 1))
      found from over = record {
        there = Contains-get_or sites (before - 1) 0 (omega arith);
        within = (over, below);
        later = λ k c low high. later k c low high;
      }
        where
          below : slice_index sites (before - 1) < end
          below = let t = point.0 (before - 1) 0 (omega arith) (omega arith) in grind (arith, nat_tests)

          later : NoneWithin sites (slice_index sites (before - 1) + 1) end
          later k (j, less, e) low high = by (cases_lt j before)
            where
              by : (j < before) ⊎ (before ≤ j) → ⊥
              by (inl h) = let most = upto j k less e h in omega arith
              by (inr h) = past j k less e h high

-- the last sites in blocks, block by block
pub lasts_more : (firsts sites : List ℕ) (lasts more : List (Option ℕ)) (n : ℕ) (o : Option ℕ) → more ≡ lasts ++ o ∷ [] → length lasts ≡ n
    → ((b : ℕ) → b < n → IsLastOf sites (slice_index firsts b) (slice_index firsts (b + 1)) (slice_index_or lasts b None)) → IsLastOf sites (slice_index firsts n) (slice_index firsts (n + 1)) o
    → (b : ℕ) → b < n + 1 → IsLastOf sites (slice_index firsts b) (slice_index firsts (b + 1)) (slice_index_or more b None)
lasts_more firsts sites lasts more n o e each old new b less = by (cases_eq b n)
  where
    by : (b ≡ n) ⊎ (b ≡ n → ⊥) → IsLastOf sites (slice_index firsts b) (slice_index firsts (b + 1)) (slice_index_or more b None)
    by (inl f) =
        subst (λ k. IsLastOf sites (slice_index firsts k) (slice_index firsts (k + 1)) (slice_index_or more k None)) (sym f)
        (subst (IsLastOf sites (slice_index firsts n) (slice_index firsts (n + 1))) (sym (ap (λ xs. slice_index_or xs n None) e ∙ get_or_push lasts o None n each)) new)
    by (inr other) =
        subst (IsLastOf sites (slice_index firsts b) (slice_index firsts (b + 1))) (sym (ap (λ xs. slice_index_or xs b None) e ∙ get_or_append_left lasts (o ∷ []) None b (omega arith))) (old b (omega arith))
