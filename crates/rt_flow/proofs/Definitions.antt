-- Definitions in order.
use Rattle.std.proofs.Common.{◌≡◌, ◌+◌, ◌-◌, ◌<◌, ◌⊎◌, inl, inr, Bool, true, false, ◌||◌, List, [], ◌∷◌, ◌++◌, length, refl, sym, ap, subst, ◌∙◌, arith, add-one, eq-eqb}
use Rattle.std.specs.Prelude.{AllPairs, Contains, IsTrue, slice_index_or}
use Rattle.std.proofs.lemmas.Bool.{cases_eq, eqb-true}
use Rattle.std.proofs.lemmas.List.{get_or_default}
use Rattle.rt_flow.specs.declared.def.Def.{Def}
use Rattle.rt_flow.specs.declared.def.Def.TheVariants.{Entry, At}
use Rattle.rt_flow.specs.Bodies.{Precedes}
use Rattle.rt_flow.specs.Inside.Spreading.{def_eq, has_def}

pub def_equal : (x y : Def) → def_eq x y ≡ true → x ≡ y
def_equal Entry Entry e = refl
def_equal Entry (At d) e = cc
def_equal (At c) Entry e = cc
def_equal (At c) (At d) e = ap At (eqb-true c d e)

pub def_self : (x : Def) → def_eq x x ≡ true
def_self Entry = refl
def_self (At d) = eq-eqb d d refl

pub precedes_itself : (x : Def) → Precedes x x → ⊥
precedes_itself Entry h = h
precedes_itself (At d) h = omega arith

pub precedes_back : (x y : Def) → Precedes x y → Precedes y x → ⊥
precedes_back Entry Entry h g = h
precedes_back Entry (At d) h g = g
precedes_back (At c) Entry h g = h
precedes_back (At c) (At d) h g = omega arith

-- where a definition is behind all in a row, or is the last one, it is in the row exactly if it is the last one
module _ (row : List Def) (x last : Def) (order : AllPairs Precedes row) (upto : (y : Def) → Contains row y → (y ≡ x) ⊎ Precedes y x)
    (some : 0 < length row) (at_last : slice_index_or row (length row - 1) last ≡ last) where
  last_in : Contains row last
  last_in = (length row - 1, omega arith, at_last)

  last_is : Contains row x → last ≡ x
  last_is (k, less, e) = by (cases_eq k (length row - 1))
    where
      by : (k ≡ length row - 1) ⊎ (k ≡ length row - 1 → ⊥) → last ≡ x
      by (inl f) = sym at_last ∙ get_or_default row (length row - 1) last x (omega arith) ∙ ap (λ n. slice_index_or row n x) (sym f) ∙ e
      by (inr other) = meets (upto last last_in)
        where
          before : Precedes x last
          before =
              let pair = order k (length row - 1) x (omega arith) (omega arith) in
              subst (λ y. Precedes y last) e (subst (Precedes (slice_index_or row k x)) (get_or_default row (length row - 1) x last (omega arith) ∙ at_last) pair)

          meets : (last ≡ x) ⊎ Precedes last x → last ≡ x
          meets (inl f) = f
          meets (inr h) = absurd (precedes_back x last before h)

  pub decided : (b : Bool) → b ≡ def_eq last x → (IsTrue b → Contains row x) × (Contains row x → IsTrue b)
  decided b e = (λ t. subst (Contains row) (def_equal last x (sym e ∙ t)) last_in, λ c. e ∙ subst (λ y. def_eq y x ≡ true) (sym (last_is c)) (def_self x))

-- what a row has
pub has_here : (x : Def) (row : List Def) → has_def x (row ++ x ∷ []) ≡ true
has_here x [] = by (def_eq x x) (def_self x)
  where
    by : (b : Bool) → b ≡ true → (b || false) ≡ true
    by true e = refl
    by false e = cc
has_here x (y ∷ ys) = by (def_eq x y) (has_def x (ys ++ x ∷ [])) (has_here x ys)
  where
    by : (a b : Bool) → b ≡ true → (a || b) ≡ true
    by true b e = refl
    by false b e = e

pub has_not : (x : Def) (row : List Def) → (Contains row x → ⊥) → has_def x row ≡ false
has_not x [] none = refl
has_not x (y ∷ ys) none = by (def_eq x y) (has_def x ys) refl (has_not x ys (λ c. none (c.0 + 1, omega (arith, c.1), deeper c)))
  where
    deeper : (c : Contains ys x) → slice_index_or (y ∷ ys) (c.0 + 1) x ≡ x
    deeper c = rw add-one c.2

    first : def_eq x y ≡ true → ⊥
    first e = none (0, omega arith, sym (def_equal x y e))

    by : (a b : Bool) → def_eq x y ≡ a → b ≡ false → (a || b) ≡ false
    by true b e f = absurd (first e)
    by false b e f = f
