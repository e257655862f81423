-- Pairs of numbers in order.
use Rattle.std.proofs.Common.{◌≡◌, ◌≢◌, ℕ, ◌<◌, ◌≤◌, ◌⊎◌, inl, inr, List, [], ◌∷◌, Bool, true, false, cond, refl, sym, ap, subst, ◌∙◌, arith}
use Rattle.std.specs.BTreeSet.{BTreeSet, IsKeyRangeOf}
use Rattle.std.specs.declared.ops.Bound.TheVariants.{Included, Unbounded}
use Rattle.std.specs.declared.cmp.Ordering.{Ordering}
use Rattle.std.specs.declared.cmp.Ordering.TheVariants.{Less, Equal, Greater}
use Rattle.std.specs.Ordering.{is_eq, is_gt, nat_cmp, ordering_then}
use Rattle.std.proofs.lemmas.Bool.Decides.{nat_tests}
use Rattle.std.proofs.lemmas.Map.Keys.{le_from_not_gt}
use Rattle.std.proofs.lemmas.Map.Lookups.{exact_unsigned}
use Rattle.rt_polar.specs.Index.{has, IsBareForgotten, IsBareNoted}
use Rattle.rt_base.proofs.Numbers.{nat_cmp-less}

pub nat_cmp_self : (x : ℕ) → nat_cmp x x ≡ Equal
nat_cmp_self x = grind (arith, nat_tests)

not_gt : (x y : ℕ) → x ≤ y → is_gt (nat_cmp x y) ≡ false
not_gt x y h = grind (arith, nat_tests)

-- pairs that compare equal
pub pair_equal : (v s n i : ℕ) → is_eq (ordering_then (nat_cmp v n) (nat_cmp s i)) ≡ true → (v ≡ n) × (s ≡ i)
pair_equal v s n i e = by (nat_cmp v n) refl e
  where
    second : (o : Ordering) → nat_cmp s i ≡ o → is_eq o ≡ true → s ≡ i
    second Less f g = cc
    second Equal f g = exact_unsigned s i f
    second Greater f g = cc

    by : (o : Ordering) → nat_cmp v n ≡ o → is_eq (ordering_then o (nat_cmp s i)) ≡ true → (v ≡ n) × (s ≡ i)
    by Less f g = cc
    by Equal f g = (exact_unsigned v n f, second (nat_cmp s i) refl g)
    by Greater f g = cc

pub pair_self : (v s : ℕ) → is_eq (ordering_then (nat_cmp v v) (nat_cmp s s)) ≡ true
pair_self v s = rw (nat_cmp_self v, nat_cmp_self s) refl

-- a pair that is not above another
pub pair_le : (v s n i : ℕ) → is_gt (ordering_then (nat_cmp v n) (nat_cmp s i)) ≡ false → (v < n) ⊎ ((v ≡ n) × (s ≤ i))
pair_le v s n i e = by (nat_cmp v n) refl e
  where
    by : (o : Ordering) → nat_cmp v n ≡ o → is_gt (ordering_then o (nat_cmp s i)) ≡ false → (v < n) ⊎ ((v ≡ n) × (s ≤ i))
    by Less f g = inl (nat_cmp-less v n f)
    by Equal f g = inr (exact_unsigned v n f, le_from_not_gt s i g)
    by Greater f g = cc

pub pair_from : (v s i : ℕ) → s ≤ i → is_gt (ordering_then (nat_cmp v v) (nat_cmp s i)) ≡ false
pair_from v s i h = rw nat_cmp_self (not_gt s i h)

-- what lies in an index from a slot of an existential on
abbrev pub IsFrom : BTreeSet (ℕ × ℕ) → ℕ → ℕ → List (ℕ × ℕ) → Type 0
IsFrom index v from r = IsKeyRangeOf (λ x y. ordering_then (nat_cmp x.0 y.0) (nat_cmp x.1 y.1)) (Included (v, from)) Unbounded index r

pub from_none : (index : BTreeSet (ℕ × ℕ)) (v from : ℕ) → IsFrom index v from [] → (i : ℕ) → from ≤ i → has index v i ≡ true → ⊥
from_none index v from range i h e = let f : has index v i ≡ false = range.5 refl (v, i) (pair_from v from i h, tt) in cc

pub from_some : (index : BTreeSet (ℕ × ℕ)) (v from : ℕ) (k : ℕ × ℕ) (rest : List (ℕ × ℕ)) → IsFrom index v from (k ∷ rest) → k.0 ≡ v →
    (from ≤ k.1) × (has index v k.1 ≡ true) × ((i : ℕ) → from ≤ i → has index v i ≡ true → k.1 ≤ i)
from_some index v from k rest range e = (start (pair_le v from k.0 k.1 range.1.0.0), subst (λ n. has index n k.1 ≡ true) e range.1.1, λ i h f. least i (pair_le k.0 k.1 v i (range.2 (v, i) (pair_from v from i h, tt) f)))
  where
    start : (v < k.0) ⊎ ((v ≡ k.0) × (from ≤ k.1)) → from ≤ k.1
    start (inl less) = absurd (omega (arith, e, less))
    start (inr (f, le)) = le

    least : (i : ℕ) → (k.0 < v) ⊎ ((k.0 ≡ v) × (k.1 ≤ i)) → k.1 ≤ i
    least i (inl less) = absurd (omega (arith, e, less))
    least i (inr (f, le)) = le

pub from_other : (index : BTreeSet (ℕ × ℕ)) (v from : ℕ) (k : ℕ × ℕ) (rest : List (ℕ × ℕ)) → IsFrom index v from (k ∷ rest) → k.0 ≢ v → (i : ℕ) → from ≤ i → has index v i ≡ true → ⊥
from_other index v from k rest range apart i h f = by (pair_le v from k.0 k.1 range.1.0.0) (pair_le k.0 k.1 v i (range.2 (v, i) (pair_from v from i h, tt) f))
  where
    by : (v < k.0) ⊎ ((v ≡ k.0) × (from ≤ k.1)) → (k.0 < v) ⊎ ((k.0 ≡ v) × (k.1 ≤ i)) → ⊥
    by (inl a) (inl b) = omega (arith, a, b)
    by (inl a) (inr (b, le)) = apart b
    by (inr (a, le)) b = apart (sym a)

-- a slot that is added for a number, or taken away from it
pub bare_noted : (d slot : ℕ) (old new : ℕ → ℕ → Bool) → ((n i : ℕ) → new n i ≡ cond (is_eq (ordering_then (nat_cmp d n) (nat_cmp slot i))) true (old n i)) → IsBareNoted d slot old new
bare_noted d slot old new updates = record {
  added = updates d slot ∙ ap (λ t. cond t true (old d slot)) (pair_self d slot);
  kept = λ n i h. updates n i ∙ stays (is_eq (ordering_then (nat_cmp d n) (nat_cmp slot i))) (old n i) h;
  source = λ n i h. by n i (is_eq (ordering_then (nat_cmp d n) (nat_cmp slot i))) refl (sym (updates n i) ∙ h);
}
  where
    stays : (t b : Bool) → b ≡ true → cond t true b ≡ true
    stays true b h = refl
    stays false b h = h

    by : (n i : ℕ) (t : Bool) → is_eq (ordering_then (nat_cmp d n) (nat_cmp slot i)) ≡ t → cond t true (old n i) ≡ true → (old n i ≡ true) ⊎ ((n ≡ d) × (i ≡ slot))
    by n i true e h = let p = pair_equal d slot n i e in inr (sym p.0, sym p.1)
    by n i false e h = inl h

pub bare_forgotten : (d slot : ℕ) (old new : ℕ → ℕ → Bool) → ((n i : ℕ) → new n i ≡ cond (is_eq (ordering_then (nat_cmp d n) (nat_cmp slot i))) false (old n i)) → IsBareForgotten d slot old new
bare_forgotten d slot old new updates = record {
  gone = λ h. let no : new d slot ≡ false = updates d slot ∙ ap (λ t. cond t false (old d slot)) (pair_self d slot) in cc;
  kept = λ n i h apart. updates n i ∙ by n i (is_eq (ordering_then (nat_cmp d n) (nat_cmp slot i))) refl h apart;
  source = λ n i h. was (is_eq (ordering_then (nat_cmp d n) (nat_cmp slot i))) (old n i) (sym (updates n i) ∙ h);
}
  where
    was : (t b : Bool) → cond t false b ≡ true → b ≡ true
    was true b h = cc
    was false b h = h

    by : (n i : ℕ) (t : Bool) → is_eq (ordering_then (nat_cmp d n) (nat_cmp slot i)) ≡ t → old n i ≡ true → (i ≡ slot → n ≡ d → ⊥) → cond t false (old n i) ≡ true
    by n i true e h apart = let p = pair_equal d slot n i e in absurd (apart (sym p.1) (sym p.0))
    by n i false e h apart = h
