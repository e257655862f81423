-- Sets of offsets.
use Rattle.std.proofs.Common.{◌≡◌, ◌↔◌, ◌⊎◌, inl, inr, ℤ, true, Ordering, Less, Equal, Greater, cond, List, refl, sym, subst, ◌∙◌, arith}
use Rattle.std.specs.Prelude.{Contains, IsTrue, ◌<ℤ◌, slice_index_or}
use Rattle.std.specs.List.Sorted.{IsStrictlySortedBy}
use Rattle.std.specs.Ordering.{int_cmp, is_eq, MatchOrdering}
use Rattle.std.specs.Cmp.{int_ranks}
use Rattle.std.specs.BTreeSet.{BTreeSet, contains, Updates}
use Rattle.std.proofs.lemmas.Cmp.{int_cmp_total}
use Rattle.std.proofs.lemmas.Int.{ints}
use Rattle.std.proofs.lemmas.Map.Keys.{Less-from_sorted}
use Rattle.std.proofs.lemmas.Map.Lookups.{exact_signed}
use Rattle.std.proofs.lemmas.Map.Views.{btree_set_contains_iff}
use Rattle.rt_frame.specs.Frames.{AreAscending}

module _ (s n : BTreeSet ℤ) (a : ℤ) (updates : Updates int_cmp s n a true) (k : ℤ) where
  in_new : IsTrue (contains int_cmp n k) ↔ Contains n.keys k
  in_new = btree_set_contains_iff int_cmp_total exact_signed n k

  in_old : IsTrue (contains int_cmp s k) ↔ Contains s.keys k
  in_old = btree_set_contains_iff int_cmp_total exact_signed s k

  forward : (r : Ordering) → int_cmp a k ≡ r → cond (is_eq r) true (contains int_cmp s k) ≡ true → Contains s.keys k ⊎ (k ≡ a)
  forward Equal same e = inr (sym (exact_signed a k same))
  forward Less same e = inl (in_old.0 e)
  forward Greater same e = inl (in_old.0 e)

  back : (r : Ordering) → int_cmp a k ≡ r → Contains s.keys k ⊎ (k ≡ a) → cond (is_eq r) true (contains int_cmp s k) ≡ true
  back Equal same case = refl
  back Less same (inl old) = in_old.1 old
  back Less same (inr e) = let below : a <ℤ k = subst (λ r. MatchOrdering r (a <ℤ k) (a ≡ k) (k <ℤ a)) same (int_ranks a k) in absurd (omega (arith, ints))
  back Greater same (inl old) = in_old.1 old
  back Greater same (inr e) = let above : k <ℤ a = subst (λ r. MatchOrdering r (a <ℤ k) (a ≡ k) (k <ℤ a)) same (int_ranks a k) in absurd (omega (arith, ints))

  pub inserted : Contains n.keys k ↔ (Contains s.keys k ⊎ (k ≡ a))
  inserted = (
    λ new. forward (int_cmp a k) refl (sym (updates.0 k) ∙ in_new.1 new),
    λ case. in_new.0 (updates.0 k ∙ back (int_cmp a k) refl case),
  )

pub ascending_from_sorted : (xs : List ℤ) → IsStrictlySortedBy int_cmp xs → AreAscending xs
ascending_from_sorted xs sorted i j d under less =
    by (int_cmp x y) refl (int_ranks x y) (Less-from_sorted int_cmp xs i j d sorted under less)
  where
    x : ℤ
    x = slice_index_or xs i d

    y : ℤ
    y = slice_index_or xs j d

    by : (r : Ordering) → int_cmp x y ≡ r → MatchOrdering r (x <ℤ y) (x ≡ y) (y <ℤ x) → r ≡ Less → x <ℤ y
    by Less same below e = below
    by Equal same equal e = absurd (cc)
    by Greater same above e = absurd (cc)
