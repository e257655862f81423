-- States that `==` finds equal are made of the same numbers.
use Rattle.std.proofs.Common.{◌≡◌, ℕ, Bool, true, Option, Some, None, List, [], ◌∷◌, nat_eq, ◌&&◌, refl, ap}
use Rattle.std.specs.Cmp.Lexicographic.{pointwise}
use Rattle.std.specs.Option.{option_eq}
use Rattle.std.proofs.lemmas.Bool.{eqb-true, and_parts}
use Rattle.rt_sketch.specs.declared.state.State.{State}
use Rattle.rt_sketch.specs.Growths.{AreAlike}
use Rattle.rt_sketch.specs.contracts.state.StatePartialEq.TheImpl as the_state

abbrev pub state_eq : State → State → Bool
state_eq = (the_state.ghosts).eq

numbers_equal : (u w : List ℕ) → pointwise nat_eq u w ≡ true → u ≡ w
numbers_equal [] [] e = refl
numbers_equal [] (l ∷ w) e = cc
numbers_equal (l ∷ u) [] e = cc
numbers_equal (l ∷ u) (m ∷ w) e =
    let parts : (nat_eq l m ≡ true) × (pointwise nat_eq u w ≡ true) = and_parts (nat_eq l m) (pointwise nat_eq u w) e in
    rw (eqb-true l m parts.0, numbers_equal u w parts.1) refl

classes_equal : (a b : Option ℕ) → option_eq nat_eq a b ≡ true → a ≡ b
classes_equal None None e = refl
classes_equal None (Some n) e = cc
classes_equal (Some m) None e = cc
classes_equal (Some m) (Some n) e = ap Some (eqb-true m n e)

pub alike : (s t : State) → state_eq s t ≡ true → AreAlike s t
alike s t e =
    let first : (nat_eq s.node t.node ≡ true) × ((option_eq nat_eq s.class t.class && (pointwise nat_eq s.below.items t.below.items && pointwise nat_eq s.above.items t.above.items)) ≡ true) = and_parts _ _ e in
    let second : (option_eq nat_eq s.class t.class ≡ true) × ((pointwise nat_eq s.below.items t.below.items && pointwise nat_eq s.above.items t.above.items) ≡ true) = and_parts _ _ first.1 in
    let third : (pointwise nat_eq s.below.items t.below.items ≡ true) × (pointwise nat_eq s.above.items t.above.items ≡ true) = and_parts _ _ second.1 in
    record { node = eqb-true s.node t.node first.0; class = classes_equal s.class t.class second.0; below = numbers_equal s.below.items t.below.items third.0; above = numbers_equal s.above.items t.above.items third.1 }
