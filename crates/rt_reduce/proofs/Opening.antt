-- What the shape of lines and arcs from inside tell of a line.
use Rattle.std.proofs.Common.{◌≡◌, ℕ, ◌<◌, ◌⊎◌, inl, inr, true, false, refl, sym, ap, subst, ◌∙◌, List, [], ◌∷◌, All, Contains}
use Rattle.std.specs.Prelude.{◌↔◌, IsTrue}
use Rattle.std.proofs.lemmas.List.Elements.{Contains-append_cases, Contains-append_left}
use Rattle.rt_base.proofs.Lists.{Contains-none, Contains-here, Contains-there, Contains-cons_cases}
use Rattle.rt_lines.specs.declared.variable.Dtv.{Dtv}
use Rattle.rt_lines.specs.declared.line.Line.{Line}
use Rattle.rt_lines.specs.declared.line.Line.TheVariants.{Var, Same, Sub, Low, Up}
use Rattle.rt_lines.specs.Lines.{HasConstantsBelow}
use Rattle.rt_lines.specs.Orders.{Below}
use Rattle.rt_lines.specs.OrderFacts.{IsOrder}
use Rattle.rt_rules.specs.Rules.{Derivable}
use Rattle.rt_rules.specs.Rules.Derivable.{same_sub}
use Rattle.rt_rules.proofs.Carry.{are_there}
use Rattle.rt_named.specs.Naming.{named as named_by}
use Rattle.rt_sat.proofs.Frames.{extra_named}
use Rattle.rt_outline.specs.declared.led.Led.TheVariants.{Yes}
use Rattle.rt_outline.specs.Accesses.{AreThereBehind}
use Rattle.rt_outline.specs.Enclosing.{AreThere}
use Rattle.rt_outline.specs.Lines.{HasBelow, Lined}
use Rattle.rt_reduce.specs.Inside.Deciding.{AreAbove, AreBelow, IsLowerWith}
use Rattle.rt_reduce.proofs.Telling.{low_tells, tells_below, up_tells}

-- what holds, and what doesn't
pub yes_of : (P : Type 0) → P → IsTrue true ↔ P
yes_of P p = (λ t. p, λ q. refl)

pub no_of : (P : Type 0) → (P → ⊥) → IsTrue false ↔ P
no_of P n = (λ t. absurd (cc), λ p. absurd (n p))

-- variables of two shapes don't lie below each other
pub apart : (order : Below) (lines : List Line) (x y : Dtv) → (Derivable order lines (Same x y) → ⊥) → Derivable order lines (Sub x y) → ⊥
apart order lines x y n d = n (same_sub d)

-- nor has a variable a bound that doesn't exist
pub no_low : (order : Below) (lines : List Line) (k : ℕ) (x : Dtv) → (Derivable order lines (Var x) → ⊥) → Derivable order lines (Low k x) → ⊥
no_low order lines k x n d = n (are_there order lines d)

pub no_up : (order : Below) (lines : List Line) (k : ℕ) (x : Dtv) → (Derivable order lines (Var x) → ⊥) → Derivable order lines (Up x k) → ⊥
no_up order lines k x n d = n (are_there order lines d)

-- variables of one shape exist
pub pair_there : (lines : List Line) (x y : Dtv) (sides : List Dtv) → ((order : Below) → Derivable order lines (Same x y)) →
    sides ≡ x ∷ y ∷ [] → AreThere lines sides
pair_there lines x y sides same e order z c = by (Contains-cons_cases x (y ∷ []) z (subst (λ zs. Contains zs z) e c))
  where
    by : (x ≡ z) ⊎ Contains (y ∷ []) z → Derivable order lines (Var z)
    by (inl f) = subst (λ v. Derivable order lines (Var v)) f (are_there order lines (same order)).0
    by (inr d) = elim (Contains-cons_cases y [] z d) [
      | inl f ↦ subst (λ v. Derivable order lines (Var v)) f (are_there order lines (same order)).1
      | inr g ↦ absurd (Contains-none z g)
    ]

pub one_there : (lines : List Line) (x : Dtv) (sides : List Dtv) → ((order : Below) → Derivable order lines (Var x)) → sides ≡ x ∷ [] →
    AreThere lines sides
one_there lines x sides there e order z c = elim (Contains-cons_cases x [] z (subst (λ zs. Contains zs z) e c)) [
  | inl f ↦ subst (λ v. Derivable order lines (Var v)) f (there order)
  | inr g ↦ absurd (Contains-none z g)
]

-- where arcs lead
pub below_seen : (order : Below) (lines : List Line) (x y : Dtv) (from to : List Dtv) → from ≡ x ∷ [] → to ≡ y ∷ [] →
    ((o : Below) → HasBelow o lines from to) → Derivable order lines (Sub x y)
below_seen order lines x y from to e f h =
    (tells_below order lines x y from Yes e (λ g. absurd (cc))
    (λ g o. subst (λ ys. HasBelow o lines from ys) f (h o))).yes refl

module _ (order : Below) (lines : List Line) (is : IsOrder order) (few : All (HasConstantsBelow order.count) lines) (k : ℕ) (x : Dtv) where
  pub low_seen : (from to : List Dtv) → AreAbove order lines k from → to ≡ x ∷ [] → ((o : Below) → HasBelow o lines from to) →
      Derivable order lines (Low k x)
  low_seen from to are f h =
      (low_tells order lines is few k x from are lines Yes refl (λ g. absurd (cc))
      (λ g o. subst (λ ys. HasBelow o lines from ys) f (h o))).yes refl

  pub up_seen : k < order.count → (from to : List Dtv) → AreBelow order lines k to → from ≡ x ∷ [] →
      ((o : Below) → HasBelow o lines from to) → Derivable order lines (Up x k)
  up_seen less from to are f h =
      (up_tells order lines is few k x less to are lines Yes refl (λ g. absurd (cc))
      (λ g o. subst (λ xs. HasBelow o lines xs to) f (h o))).yes refl

-- variables that are given besides lines are named
pub given_named : (lines : List Line) (extra known from : List Dtv) (x : Dtv) → known ≡ named_by lines extra → Contains extra x →
    from ≡ x ∷ [] → (z : Dtv) → Contains from z → Contains known z
given_named lines extra known from x e there f z c =
    by (Contains-cons_cases x [] z (subst (λ xs. Contains xs z) f c))
  where
    by : (x ≡ z) ⊎ Contains [] z → Contains known z
    by (inl g) = subst (Contains known) g (extra_named lines extra known e x there)
    by (inr d) = absurd (Contains-none z d)

pub second_in : (x y : Dtv) (sides : List Dtv) → sides ≡ x ∷ y ∷ [] → Contains sides y
second_in x y sides e = subst (λ xs. Contains xs y) (sym e) (Contains-there x (y ∷ []) y (Contains-here y []))

-- what stands behind variables exists with them
pub all_there : (lines : List Line) (sides all given : List Dtv) → given ≡ all → AreThere lines sides → AreThereBehind lines sides all →
    AreThere lines given
all_there lines sides all given e there behind order x c =
    elim (Contains-append_cases sides behind.more x (subst (λ xs. Contains xs x) (e ∙ behind.behind) c)) [
      | inl d ↦ there order x d
      | inr d ↦ behind.there order x d
    ]

pub lower_with : (lines : List Line) (sides all given : List Dtv) (lower : Lined) → given ≡ all → AreThereBehind lines sides all →
    lower ≡ record { lines = lines; named = named_by lines given } → IsLowerWith lines sides lower
lower_with lines sides all given lower e behind is = record {
  extra = given;
  own = ap (λ (l : Lined). l.lines) is;
  names = ap (λ (l : Lined). l.named) is;
  given = λ x c. subst (λ xs. Contains xs x) (sym (e ∙ behind.behind)) (Contains-append_left sides behind.more x c);
}
