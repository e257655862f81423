-- How far existentials stand above the least of their classes, when classes are split.
use Rattle.std.proofs.Common.{◌≡◌, ◌≢◌, ℕ, ◌+◌, ◌-◌, ◌<◌, ◌≤◌, ◌⊎◌, inl, inr, List, [], ◌∷◌, Contains, Bool, true, false, cond, ◌||◌, refl, sym, ap, subst}
use Rattle.std.proofs.Common.{◌∙◌, arith}
use Rattle.rt_base.proofs.Lists.{Contains-none, Contains-here, Contains-there, Contains-cons_cases}
use Rattle.rt_lines.specs.declared.variable.Base.{Base}
use Rattle.rt_lines.specs.declared.variable.Base.TheVariants.{Proc, Global, Exist, Outer}
use Rattle.rt_lines.specs.declared.variable.Dtv.{Dtv}
use Rattle.rt_lines.specs.declared.line.Line.{Line}
use Rattle.rt_lines.specs.declared.line.Line.TheVariants.{Var, Same, Sub, Low, Up}
use Rattle.rt_lines.specs.Sides.{sides}
use Rattle.rt_lines.specs.Orders.{Below}
use Rattle.rt_rules.specs.Rules.{HasSide, Derivable}
use Rattle.rt_rules.specs.Put.{exist}
use Rattle.rt_refine.specs.declared.uses.Side.{Side}
use Rattle.rt_refine.specs.declared.uses.Side.TheVariants.{Left, Right}
use Rattle.rt_refine.specs.Groups.{IsNamed}
use Rattle.rt_refine.specs.Refinements.{AreMatched, IsCoarsest}
use Rattle.rt_refine.specs.Splits.{AreClasses, IsSplit, IsSplitTwice, above_in_base, above_in_sides, above}
use Rattle.rt_refine.specs.Uses.{HaveSameUses}
use Rattle.rt_refine.proofs.Parting.{split_classes, uses_matched}

-- a side of a line is among its sides
side_among : (l : Line) (x : Dtv) → HasSide l x → Contains (sides l) x
side_among (Var y) x e = subst (Contains (y ∷ [])) e (Contains-here y [])
side_among (Low k y) x e = subst (Contains (y ∷ [])) e (Contains-here y [])
side_among (Up y k) x e = subst (Contains (y ∷ [])) e (Contains-here y [])
side_among (Same y z) x (inl e) = subst (Contains (y ∷ z ∷ [])) e (Contains-here y (z ∷ []))
side_among (Same y z) x (inr e) = Contains-there y (z ∷ []) x (subst (Contains (z ∷ [])) e (Contains-here z []))
side_among (Sub y z) x (inl e) = subst (Contains (y ∷ z ∷ [])) e (Contains-here y (z ∷ []))
side_among (Sub y z) x (inr e) = Contains-there y (z ∷ []) x (subst (Contains (z ∷ [])) e (Contains-here z []))

module _ (old new : ℕ → ℕ) (rises : (v : ℕ) → old v ≤ new v) where
  base_most : (b : Base) → above_in_base new b ≤ above_in_base old b
  base_most (Proc n) = omega arith
  base_most (Global n) = omega arith
  base_most (Exist n) = let le = rises n in omega (arith, le)
  base_most (Outer n) = omega arith

  sides_most : (xs : List Dtv) → above_in_sides new xs ≤ above_in_sides old xs
  sides_most [] = omega arith
  sides_most (x ∷ xs) = let le = base_most x.base in let more = sides_most xs in omega (arith, le, more)

  pub above_most : (lines : List Line) → above new lines ≤ above old lines
  above_most [] = omega arith
  above_most (l ∷ ls) = let le = sides_most (sides l) in let more = above_most ls in omega (arith, le, more)

  module _ (v : ℕ) (lt : old v < new v) (most : new v ≤ v) where
    base_less : (b : Base) → b ≡ Exist v → above_in_base new b < above_in_base old b
    base_less b e = subst (λ (c : Base). above_in_base new c < above_in_base old c) (sym e) less
      where
        less : v - new v < v - old v
        less = omega (arith, lt, most)

    sides_less : (xs : List Dtv) (x : Dtv) → Contains xs x → x.base ≡ Exist v → above_in_sides new xs < above_in_sides old xs
    sides_less [] x c e = absurd (Contains-none x c)
    sides_less (y ∷ ys) x c e = by (Contains-cons_cases y ys x c) (λ d. sides_less ys x d e)
      where
        by : (y ≡ x) ⊎ Contains ys x → (Contains ys x → above_in_sides new ys < above_in_sides old ys) →
            above_in_sides new (y ∷ ys) < above_in_sides old (y ∷ ys)
        by (inl f) rest =
            let a : above_in_base new y.base < above_in_base old y.base = base_less y.base (ap (λ (z : Dtv). z.base) f ∙ e) in
            let b = sides_most ys in
            omega (arith, a, b)
        by (inr d) rest = let a = rest d in let b = base_most y.base in omega (arith, a, b)

    pub above_less : (lines : List Line) → IsNamed lines v → above new lines < above old lines
    above_less [] (l, c, s) = absurd (Contains-none l c)
    above_less (m ∷ ms) (l, c, (x, s, e)) = by (Contains-cons_cases m ms l c) (λ d. above_less ms (l, d, (x, s, e)))
      where
        by : (m ≡ l) ⊎ Contains ms l → (Contains ms l → above new ms < above old ms) → above new (m ∷ ms) < above old (m ∷ ms)
        by (inl f) rest =
            let a : above_in_sides new (sides m) < above_in_sides old (sides m) =
            sides_less (sides m) x (subst (λ (k : Line). Contains (sides k) x) (sym f) (side_among l x s)) e in
            let b = above_most ms in
            omega (arith, a, b)
        by (inr d) rest = let a = rest d in let b = sides_most (sides m) in omega (arith, a, b)

-- the names of classes rise
module _ (side : Side) (lines : List Line) (old new : ℕ → ℕ) (changed : Bool) (split : IsSplit side lines old old new changed)
    (are : AreClasses lines old) where
  split_rises : (v : ℕ) → old v ≤ new v
  split_rises v = by (split.parts v (new v) (sym (split.own v)))
    where
      by : (v ≡ new v) ⊎ ((old v ≡ old (new v)) × HaveSameUses side lines old v (new v)) → old v ≤ new v
      by (inl e) = let le = are.least v in omega (arith, le, e)
      by (inr p) = let e : old v ≡ old (new v) = p.0 in let le : old (new v) ≤ new v = are.least (new v) in omega (arith, e, le)

  split_most : above new lines ≤ above old lines
  split_most = above_most old new split_rises lines

  split_less : changed ≡ true → above new lines < above old lines
  split_less c =
      let s = split.differs c in
      let le : old s.0 ≤ new s.0 = split_rises s.0 in
      let apart : new s.0 ≢ old s.0 = s.2 in
      let lt : old s.0 < new s.0 = omega (arith, le, apart) in
      above_less old new split_rises s.0 lt (split.least s.0) lines s.1

  split_stays : changed ≡ false → (v : ℕ) → new v ≡ old v
  split_stays c v = by (split.stays c v)
    where
      by : (new v ≡ old v) ⊎ (IsNamed lines v → ⊥) → new v ≡ old v
      by (inl e) = e
      by (inr n) = split.alone v n ∙ sym (are.alone v n)

-- on one side, and then on the other
module _ (lines : List Line) (old mid new : ℕ → ℕ) (one two : Bool) (first : IsSplit Left lines old old mid one)
    (second : IsSplit Right lines mid mid new two) (are : AreClasses lines old) where
  mid_are : AreClasses lines mid
  mid_are = split_classes Left lines old mid one first are

  none_of : (one || two) ≡ false → (one ≡ false) × (two ≡ false)
  none_of e = by one two e
    where
      by : (a b : Bool) → (a || b) ≡ false → (a ≡ false) × (b ≡ false)
      by true b f = absurd (cc)
      by false b f = (refl, f)

  stable : (one || two) ≡ false → (v w : ℕ) → new v ≡ new w → AreMatched lines new v w
  stable c v w e = by (second.parts v w e)
    where
      mid_same : (u : ℕ) → mid u ≡ old u
      mid_same = split_stays Left lines old mid one first are (none_of c).0

      new_same : (u : ℕ) → new u ≡ mid u
      new_same = split_stays Right lines mid new two second mid_are (none_of c).1

      old_is : old ≡ new
      old_is = λ i u. (sym (mid_same u) ∙ sym (new_same u)) i

      mid_is : mid ≡ new
      mid_is = λ i u. sym (new_same u) i

      same_side : v ≡ w → AreMatched lines new v w
      same_side f = subst (AreMatched lines new v) f (uses_matched lines new v v (λ u. (λ s. s, λ s. s)) (λ u. (λ s. s, λ s. s)))

      by : (v ≡ w) ⊎ ((mid v ≡ mid w) × HaveSameUses Right lines mid v w) → AreMatched lines new v w
      by (inl f) = same_side f
      by (inr (f, right)) = on (first.parts v w f)
        where
          on : (v ≡ w) ⊎ ((old v ≡ old w) × HaveSameUses Left lines old v w) → AreMatched lines new v w
          on (inl g) = same_side g
          on (inr (g, left)) =
              uses_matched lines new v w (subst (λ (class : ℕ → ℕ). HaveSameUses Left lines class v w) old_is left)
              (subst (λ (class : ℕ → ℕ). HaveSameUses Right lines class v w) mid_is right)

  at_most : above new lines ≤ above old lines
  at_most =
      let a = split_most Left lines old mid one first are in
      let b = split_most Right lines mid new two second mid_are in
      omega (arith, a, b)

  smaller : (one || two) ≡ true → above new lines < above old lines
  smaller e = by one refl e
    where
      by : (a : Bool) → one ≡ a → (a || two) ≡ true → above new lines < above old lines
      by true f g =
          let a = split_less Left lines old mid one first are f in
          let b = split_most Right lines mid new two second mid_are in
          omega (arith, a, b)
      by false f g =
          let a = split_most Left lines old mid one first are in
          let b = split_less Right lines mid new two second mid_are g in
          omega (arith, a, b)

  pub twice : IsSplitTwice lines old new (one || two)
  twice = record {
    are = split_classes Right lines mid new two second mid_are;
    stable = stable;
    at_most = at_most;
    smaller = smaller;
  }

-- where nothing is left to split, classes are coarsest
pub coarsest : (lines : List Line) (class : ℕ → ℕ) → AreClasses lines class → ((v w : ℕ) → class v ≡ class w → AreMatched lines class v w) →
    IsCoarsest lines class
coarsest lines class are stable = record {
  refines = record {
    least = are.least;
    own = are.own;
    shaped = λ v. shaped v (are.shaped v (class v) (sym (are.own v)));
    matched = stable;
  };
  widest = are.widest;
}
  where
    shaped : (v : ℕ) → (v ≡ class v) ⊎ ((order : Below) → Derivable order lines (Same (exist v) (exist (class v)))) →
        (class v ≡ v) ⊎ ((order : Below) → Derivable order lines (Same (exist v) (exist (class v))))
    shaped v (inl e) = inl (sym e)
    shaped v (inr d) = inr d

-- each turn leaves less to do
pub fewer : (lines : List Line) (old new : ℕ → ℕ) (before after : Bool) → before ≡ true → IsSplitTwice lines old new after →
    above new lines + cond after 1 0 < above old lines + cond before 1 0
fewer lines old new before after e s = by after before e refl
  where
    by : (a b : Bool) → b ≡ true → after ≡ a → above new lines + cond a 1 0 < above old lines + cond b 1 0
    by true true f g = let lt = s.smaller g in omega (arith, lt)
    by false true f g = let le = s.at_most in omega (arith, le)
    by a false f g = absurd (cc)
