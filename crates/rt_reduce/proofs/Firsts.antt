-- The first of several variables.
use Rattle.std.proofs.Common.{◌≡◌, ℕ, ◌+◌, ◌<◌, ◌≤◌, length, take, get_or, ◌⊎◌, inl, inr, List, [], ◌∷◌, ◌++◌, Contains, Option, Some}
use Rattle.std.proofs.Common.{None, Bool, true, false, cond, MatchOption}
use Rattle.std.proofs.Common.{refl, sym, ap, subst, ◌∙◌, arith}
use Rattle.std.specs.Prelude.{◌↔◌}
use Rattle.std.specs.List.{flat_map}
use Rattle.std.specs.Ordering.{is_eq, is_gt, nat_cmp}
use Rattle.std.proofs.lemmas.Map.Keys.{le_from_not_gt}
use Rattle.std.proofs.lemmas.List.Elements.{Contains-append_cases, Contains-append_left, Contains-append_right}
use Rattle.rt_base.proofs.Lists.{Contains-none, Contains-here, Contains-cons_cases, Contains-flat_map, Contains-flat_map_source, take-next}
use Rattle.rt_lines.specs.declared.variable.Base.TheVariants.{Exist}
use Rattle.rt_lines.specs.declared.variable.Dtv.{Dtv}
use Rattle.rt_lines.specs.declared.line.Line.{Line}
use Rattle.rt_lines.specs.declared.line.Line.TheVariants.{Sub}
use Rattle.rt_lines.specs.Orders.{Below}
use Rattle.rt_lines.specs.Sides.{sides}
use Rattle.rt_rules.specs.Laws.{NamesBase}
use Rattle.rt_rules.specs.Put.{exist}
use Rattle.rt_rules.proofs.LineSides.{Contains-sides, HasSide-in_sides}
use Rattle.rt_reduction.specs.Before.{comes_before}
use Rattle.rt_reduction.specs.Merges.{IsEqualTo, HasEqual, IsMerge}
use Rattle.rt_reduction.proofs.Before.{before_chain, not_before_self}
use Rattle.rt_reduction.proofs.Naming.{base_named}
use Rattle.rt_reduce.specs.Inside.Merging.{IsEarlier, IsFirstAmong, IsFirstEqual, IsLike}
use Rattle.rt_base.proofs.Numbers.{equal_number}

-- an element that is gone through is one of those before, or the last one
pub more_cases : {X : Type 0} (xs : List X) (i : ℕ) (x y : X) → i < length xs → x ≡ get_or xs i x → Contains (take (i + 1) xs) y →
    Contains (take i xs) y ⊎ (x ≡ y)
more_cases xs i x y h e c =
    by (Contains-append_cases (take i xs) (x ∷ []) y (subst (λ ys. Contains ys y) (take-next xs i x h e) c))
  where
    at : (x ≡ y) ⊎ Contains [] y → Contains (take i xs) y ⊎ (x ≡ y)
    at (inl f) = inr f
    at (inr d) = absurd (Contains-none y d)

    by : Contains (take i xs) y ⊎ Contains (x ∷ []) y → Contains (take i xs) y ⊎ (x ≡ y)
    by (inl d) = inl d
    by (inr d) = at (Contains-cons_cases x [] y d)

-- an existential that has an equal is the base of a side
pub equal_side : (order : Below) (lines : List Line) (n : ℕ) → HasEqual order lines n →
    (x : Dtv) × Contains (flat_map sides lines) x × (x.base ≡ Exist n)
equal_side order lines n (z, equal) = by (base_named order lines (Sub (exist n) z) equal.above (exist n) (inl refl))
  where
    by : NamesBase lines (Exist n) → (x : Dtv) × Contains (flat_map sides lines) x × (x.base ≡ Exist n)
    by (l, x, c, h, e) = (x, Contains-flat_map sides lines l x c (Contains-sides l x h), e)

-- a variable before another comes before what the other comes before, or is not after it
not_after : (z k y : Dtv) → comes_before z k ≡ true → comes_before y k ≡ false → comes_before y z ≡ false
not_after z k y e f = by (comes_before y z) refl
  where
    by : (b : Bool) → comes_before y z ≡ b → comes_before y z ≡ false
    by false g = g
    by true g = let h : comes_before y k ≡ true = before_chain y z k g e in absurd (cc)

not_before_itself : (x : Dtv) → comes_before x x ≡ false
not_before_itself x = by (comes_before x x) refl
  where
    by : (b : Bool) → comes_before x x ≡ b → comes_before x x ≡ false
    by false g = g
    by true g = absurd (not_before_self x g)

module _ (order : Below) (lines : List Line) (n : ℕ) where
  -- with a variable that isn't like the existential
  pub first_other : (seen : List Dtv) (z : Dtv) (known : Option Dtv) → (IsLike order lines n z → ⊥) →
      IsFirstAmong order lines n seen known → IsFirstAmong order lines n (seen ++ z ∷ []) known
  first_other seen z None other first = λ y c like. by y like (Contains-append_cases seen (z ∷ []) y c)
    where
      at : (y : Dtv) → IsLike order lines n y → (z ≡ y) ⊎ Contains [] y → ⊥
      at y like (inl e) = other (subst (IsLike order lines n) (sym e) like)
      at y like (inr c) = Contains-none y c

      by : (y : Dtv) → IsLike order lines n y → Contains seen y ⊎ Contains (z ∷ []) y → ⊥
      by y like (inl c) = first y c like
      by y like (inr c) = at y like (Contains-cons_cases z [] y c)
  first_other seen z (Some k) other first =
      (Contains-append_left seen (z ∷ []) k first.0, first.1, λ y c like. by y like (Contains-append_cases seen (z ∷ []) y c))
    where
      at : (y : Dtv) → IsLike order lines n y → (z ≡ y) ⊎ Contains [] y → comes_before y k ≡ false
      at y like (inl e) = absurd (other (subst (IsLike order lines n) (sym e) like))
      at y like (inr c) = absurd (Contains-none y c)

      by : (y : Dtv) → IsLike order lines n y → Contains seen y ⊎ Contains (z ∷ []) y → comes_before y k ≡ false
      by y like (inl c) = first.2 y c like
      by y like (inr c) = at y like (Contains-cons_cases z [] y c)

  here : (seen : List Dtv) (z : Dtv) → Contains (seen ++ z ∷ []) z
  here seen z = Contains-append_right seen (z ∷ []) z (Contains-here z [])

  own_cases : (z y : Dtv) → (z ≡ y) ⊎ Contains [] y → z ≡ y
  own_cases z y (inl e) = e
  own_cases z y (inr c) = absurd (Contains-none y c)

  own_only : (z y : Dtv) → Contains (z ∷ []) y → z ≡ y
  own_only z y c = own_cases z y (Contains-cons_cases z [] y c)

  itself : (z y : Dtv) → z ≡ y → comes_before y z ≡ false
  itself z y e = subst (λ v. comes_before v z ≡ false) e (not_before_itself z)

  -- with one that is
  pub first_like : (seen : List Dtv) (z : Dtv) (known now : Option Dtv) → IsLike order lines n z → IsEarlier known z now →
      IsFirstAmong order lines n seen known → IsFirstAmong order lines n (seen ++ z ∷ []) now
  first_like seen z None now like earlier first =
      subst (IsFirstAmong order lines n (seen ++ z ∷ [])) (sym earlier)
      (here seen z, like, λ y c other. by y other (Contains-append_cases seen (z ∷ []) y c))
    where
      by : (y : Dtv) → IsLike order lines n y → Contains seen y ⊎ Contains (z ∷ []) y → comes_before y z ≡ false
      by y other (inl c) = absurd (first y c other)
      by y other (inr c) = itself z y (own_only z y c)
  first_like seen z (Some k) now like earlier first = with_known earlier
    where
      sooner : comes_before z k ≡ true → (y : Dtv) → IsLike order lines n y → Contains seen y ⊎ Contains (z ∷ []) y →
          comes_before y z ≡ false
      sooner e y other (inl c) = not_after z k y e (first.2 y c other)
      sooner e y other (inr c) = itself z y (own_only z y c)

      later : comes_before z k ≡ false → (y : Dtv) → IsLike order lines n y → Contains seen y ⊎ Contains (z ∷ []) y →
          comes_before y k ≡ false
      later e y other (inl c) = first.2 y c other
      later e y other (inr c) = subst (λ v. comes_before v k ≡ false) (own_only z y c) e

      with_known : ((comes_before z k ≡ true) × (now ≡ Some z)) ⊎ ((comes_before z k ≡ false) × (now ≡ Some k)) →
          IsFirstAmong order lines n (seen ++ z ∷ []) now
      with_known (inl (e, f)) =
          subst (IsFirstAmong order lines n (seen ++ z ∷ [])) (sym f)
          (here seen z, like, λ y c other. sooner e y other (Contains-append_cases seen (z ∷ []) y c))
      with_known (inr (e, f)) =
          subst (IsFirstAmong order lines n (seen ++ z ∷ [])) (sym f)
          (Contains-append_left seen (z ∷ []) k first.0, first.1, λ y c other. later e y other (Contains-append_cases seen (z ∷ []) y c))

  equal_of : (z : Dtv) → Contains (flat_map sides lines) z → IsLike order lines n z → IsEqualTo order lines n z
  equal_of z c like =
      let s : (l : Line) × Contains lines l × Contains (sides l) z = Contains-flat_map_source sides lines z c in
      record {
        line = s.0;
        stands = s.1;
        is_side = HasSide-in_sides s.0 z s.2;
        other_base = like.other_base;
        above = like.above;
        below = like.below;
      }

  pub side_of : (z : Dtv) → IsEqualTo order lines n z → Contains (flat_map sides lines) z
  side_of z e = Contains-flat_map sides lines e.line z e.stands (Contains-sides e.line z e.is_side)

  like_of : (z : Dtv) → IsEqualTo order lines n z → IsLike order lines n z
  like_of z e = record { other_base = e.other_base; above = e.above; below = e.below }

  -- the first among the sides of lines is the first equal
  pub first_of_sides : (all : List Dtv) (found : Option Dtv) → ((x : Dtv) → Contains all x ↔ Contains (flat_map sides lines) x) →
      IsFirstAmong order lines n all found → MatchOption found (HasEqual order lines n → ⊥) (λ z. IsFirstEqual order lines n z)
  first_of_sides all None e first = λ has. first has.0 ((e has.0).1 (side_of has.0 has.1)) (like_of has.0 has.1)
  first_of_sides all (Some z) e first = record {
    equal = equal_of z ((e z).0 first.0) first.1;
    first = λ y is. first.2 y ((e y).1 (side_of y is)) (like_of y is);
  }

-- the least existential that has an equal, where each that has one was pending
pub merge_of : (order : Below) (lines : List Line) (v : ℕ) (z : Dtv) (old : ℕ → Bool) → IsFirstEqual order lines v z →
    ((m : ℕ) → HasEqual order lines m → old m ≡ true) → ((q : ℕ) → old q ≡ true → is_gt (nat_cmp v q) ≡ false) → IsMerge order lines v z
merge_of order lines v z old is pending least = record {
  equal = is.equal;
  first = is.first;
  least = λ m h has. apart m h (le_from_not_gt v m (least m (pending m has)));
}
  where
    apart : (m : ℕ) → m < v → v ≤ m → ⊥
    apart m h g = omega (arith, h, g)

-- what was pending is pending still, but for one that was taken out
pub still_pending : (v m : ℕ) (old new : ℕ → Bool) → ((q : ℕ) → new q ≡ cond (is_eq (nat_cmp v q)) false (old q)) → old m ≡ true →
    (v ≡ m → ⊥) → new m ≡ true
still_pending v m old new updates h apart = by (is_eq (nat_cmp v m)) refl
  where
    by : (b : Bool) → is_eq (nat_cmp v m) ≡ b → new m ≡ true
    by true e = absurd (apart (equal_number v m e))
    by false e = updates m ∙ ap (λ t. cond t false (old m)) e ∙ h
