-- Classes that are split part by part, until nothing changes.
use Rattle.std.proofs.Common.{◌≡◌, ◌≢◌, ℕ, ◌+◌, ◌<◌, ◌≤◌, ◌⊎◌, inl, inr, List, Bool, true, false, cond, ◌||◌, refl, sym, ap, subst, ◌∙◌, arith}
use Rattle.rt_lines.specs.declared.label.Variance.{Variance}
use Rattle.rt_lines.specs.declared.variable.Base.TheVariants.{Exist}
use Rattle.rt_lines.specs.declared.line.Line.{Line}
use Rattle.rt_rules.specs.Laws.{NamesBase}
use Rattle.rt_refine.specs.declared.uses.Side.{Side}
use Rattle.rt_refine.specs.declared.uses.Side.TheVariants.{Left, Right}
use Rattle.rt_refine.specs.Groups.{IsNamed}
use Rattle.rt_refine.specs.Splits.{IsSplit, above}
use Rattle.rt_refine.specs.Uses.{HaveSameUses}
use Rattle.rt_refine.proofs.Above.{above_most, above_less}
use Rattle.rt_twins.specs.declared.parts.Part.{Part}
use Rattle.rt_twins.specs.declared.parts.Part.TheVariants.{Both, Left as LeftUses, Right as RightUses}
use Rattle.rt_twins.specs.Inside.Parts.{part_of}
use Rattle.rt_twins.specs.Inside.Splits.{AreClasses, AreExact, AreExactClasses, IsSplitTwice}
use Rattle.rt_twins.specs.Twinnings.{AreMatched, LeadsOut, IsTwinning, IsCoarsestTwinning}
use Rattle.rt_twins.proofs.OneTwinning.{leads_named}
use Rattle.rt_twins.proofs.Splitting.{part_named, named_part, left_moved, right_moved, left_exact, right_exact, parts_matched}

module _ (sign : Variance) (lines : List Line) where
  abbrev P : Part → List Line
  P part = part_of sign part lines

  same_self : (side : Side) (ls : List Line) (class : ℕ → ℕ) (v w : ℕ) → v ≡ w → HaveSameUses side ls class v w
  same_self side ls class v w e = λ u. subst (HaveSameUses side ls class v) e (λ q. (λ s. s, λ s. s)) u

  -- members of one class of a twinning are one, or named
  named_pair : (other : ℕ → ℕ) → IsTwinning sign lines other → (v w : ℕ) → other v ≡ other w → (v ≡ w) ⊎ (IsNamed lines v × IsNamed lines w)
  named_pair other is v w e = by (is.leads v w e) (is.leads w v (sym e))
    where
      of_base : (n : ℕ) → NamesBase lines (Exist n) → IsNamed lines n
      of_base n (l, x, c, s, f) = (l, c, (x, s, f))

      by : (v ≡ w) ⊎ LeadsOut sign lines v → (w ≡ v) ⊎ LeadsOut sign lines w → (v ≡ w) ⊎ (IsNamed lines v × IsNamed lines w)
      by (inl f) g = inl f
      by (inr l) (inl g) = inl (sym g)
      by (inr l) (inr k) = inr (of_base v (leads_named sign lines v l), of_base w (leads_named sign lines w k))

  module _ (side : Side) (part : Part) (moves old new : ℕ → ℕ) (changed : Bool) (split : IsSplit side (P part) moves old new changed)
      (are : AreClasses sign lines old) where
    -- a split of classes whose twins have the same uses
    pub split_are : ((other : ℕ → ℕ) → IsTwinning sign lines other → (v w : ℕ) → other v ≡ other w → HaveSameUses side (P part) moves v w) →
        AreClasses sign lines new
    split_are same = record {
      least = split.least;
      own = split.own;
      alone = λ v n. split.alone v (λ h. n (named_part sign part lines v h));
      leads = λ v w e. leads v w (split.parts v w e);
      widest = λ other is v w e. widest other is v w e (named_pair other is v w e);
    }
      where
        leads : (v w : ℕ) → (v ≡ w) ⊎ ((old v ≡ old w) × HaveSameUses side (P part) moves v w) → (v ≡ w) ⊎ LeadsOut sign lines v
        leads v w (inl e) = inl e
        leads v w (inr p) = are.leads v w p.0

        widest : (other : ℕ → ℕ) → IsTwinning sign lines other → (v w : ℕ) → other v ≡ other w → (v ≡ w) ⊎ (IsNamed lines v × IsNamed lines w) →
            new v ≡ new w
        widest other is v w e (inl f) = ap new f
        widest other is v w e (inr p) = split.one v w (part_named sign part lines v p.0) (part_named sign part lines w p.1)
            (are.widest other is v w e) (same other is v w e)

    -- what members of one class had in common they have in common still
    pub exact_still : (way : Side) → AreExact way sign lines old → AreExact way sign lines new
    exact_still way exact v w e = by (split.parts v w e)
      where
        by : (v ≡ w) ⊎ ((old v ≡ old w) × HaveSameUses side (P part) moves v w) → HaveSameUses way (P Both) (λ n. n) v w
        by (inl f) = same_self way (P Both) (λ n. n) v w f
        by (inr p) = exact v w p.0

    pub split_rises : (v : ℕ) → old v ≤ new v
    split_rises v = by (split.parts v (new v) (sym (split.own v)))
      where
        by : (v ≡ new v) ⊎ ((old v ≡ old (new v)) × HaveSameUses side (P part) moves v (new v)) → old v ≤ new v
        by (inl e) = let le = are.least v in omega (arith, le, e)
        by (inr p) = let e : old v ≡ old (new v) = p.0 in let le : old (new v) ≤ new v = are.least (new v) in omega (arith, e, le)

    pub split_most : above new lines ≤ above old lines
    split_most = above_most old new split_rises lines

    pub split_less : changed ≡ true → above new lines < above old lines
    split_less c =
        let s = split.differs c in
        let le : old s.0 ≤ new s.0 = split_rises s.0 in
        let apart : new s.0 ≢ old s.0 = s.2 in
        let lt : old s.0 < new s.0 = omega (arith, le, apart) in
        above_less old new split_rises s.0 lt (split.least s.0) lines (named_part sign part lines s.0 s.1)

    pub split_stays : changed ≡ false → (v : ℕ) → new v ≡ old v
    split_stays c v = by (split.stays c v)
      where
        by : (new v ≡ old v) ⊎ (IsNamed (P part) v → ⊥) → new v ≡ old v
        by (inl e) = e
        by (inr n) = split.alone v n ∙ sym (are.alone v (λ h. n (part_named sign part lines v h)))

  -- twins have the same uses in each part
  pub same_left : (old : ℕ → ℕ) → AreClasses sign lines old → (other : ℕ → ℕ) → IsTwinning sign lines other → (v w : ℕ) → other v ≡ other w →
      HaveSameUses Left (P LeftUses) old v w
  same_left old are other is v w e = λ u. (
    left_moved sign lines other old (are.widest other is) v w (is.matched v w e) u,
    left_moved sign lines other old (are.widest other is) w v (is.matched w v (sym e)) u,
  )

  pub same_right : (old : ℕ → ℕ) → AreClasses sign lines old → (other : ℕ → ℕ) → IsTwinning sign lines other → (v w : ℕ) → other v ≡ other w →
      HaveSameUses Right (P RightUses) old v w
  same_right old are other is v w e = λ u. (
    right_moved sign lines other old (are.widest other is) v w (is.matched v w e) u,
    right_moved sign lines other old (are.widest other is) w v (is.matched w v (sym e)) u,
  )

  pub same_exact_left : (other : ℕ → ℕ) → IsTwinning sign lines other → (v w : ℕ) → other v ≡ other w → HaveSameUses Left (P Both) (λ n. n) v w
  same_exact_left other is v w e = λ u. (
    left_exact sign lines other other (λ a b f. f) v w (is.matched v w e) u,
    left_exact sign lines other other (λ a b f. f) w v (is.matched w v (sym e)) u,
  )

  pub same_exact_right : (other : ℕ → ℕ) → IsTwinning sign lines other → (v w : ℕ) → other v ≡ other w → HaveSameUses Right (P Both) (λ n. n) v w
  same_exact_right other is v w e = λ u. (
    right_exact sign lines other other (λ a b f. f) v w (is.matched v w e) u,
    right_exact sign lines other other (λ a b f. f) w v (is.matched w v (sym e)) u,
  )

  -- a split by what stands there whatever the classes
  pub exact_now : (side : Side) (old new : ℕ → ℕ) (changed : Bool) → IsSplit side (P Both) (λ n. n) old new changed → AreExact side sign lines new
  exact_now side old new changed split v w e = by (split.parts v w e)
    where
      by : (v ≡ w) ⊎ ((old v ≡ old w) × HaveSameUses side (P Both) (λ n. n) v w) → HaveSameUses side (P Both) (λ n. n) v w
      by (inl f) = same_self side (P Both) (λ n. n) v w f
      by (inr p) = p.1

  pub exact_first : (old mid new : ℕ → ℕ) (one two : Bool) → AreClasses sign lines old → IsSplit Left (P Both) (λ n. n) old mid one →
      IsSplit Right (P Both) (λ n. n) mid new two → AreExactClasses sign lines new
  exact_first old mid new one two are first second =
      let between : AreClasses sign lines mid = split_are Left Both (λ n. n) old mid one first are same_exact_left in record {
        are = split_are Right Both (λ n. n) mid new two second between same_exact_right;
        left = exact_still Right Both (λ n. n) mid new two second between Left (exact_now Left old mid one first);
        right = exact_now Right mid new two second;
      }

  -- on one side, and then on the other
  module _ (old mid new : ℕ → ℕ) (one two : Bool) (first : IsSplit Left (P LeftUses) old old mid one)
      (second : IsSplit Right (P RightUses) mid mid new two) (exact : AreExactClasses sign lines old) where
    mid_are : AreClasses sign lines mid
    mid_are = split_are Left LeftUses old old mid one first exact.are (same_left old exact.are)

    new_are : AreClasses sign lines new
    new_are = split_are Right RightUses mid mid new two second mid_are (same_right mid mid_are)

    still : (way : Side) → AreExact way sign lines old → AreExact way sign lines new
    still way e = exact_still Right RightUses mid mid new two second mid_are way (exact_still Left LeftUses old old mid one first exact.are way e)

    none_of : (one || two) ≡ false → (one ≡ false) × (two ≡ false)
    none_of e = by one two e
      where
        by : (a b : Bool) → (a || b) ≡ false → (a ≡ false) × (b ≡ false)
        by true b f = absurd (cc)
        by false b f = (refl, f)

    stable : (one || two) ≡ false → (v w : ℕ) → new v ≡ new w → AreMatched sign lines new v w
    stable c v w e = by (second.parts v w e)
      where
        mid_same : (u : ℕ) → mid u ≡ old u
        mid_same = split_stays Left LeftUses old old mid one first exact.are (none_of c).0

        new_same : (u : ℕ) → new u ≡ mid u
        new_same = split_stays Right RightUses mid mid new two second mid_are (none_of c).1

        old_is : old ≡ new
        old_is = λ i u. (sym (mid_same u) ∙ sym (new_same u)) i

        mid_is : mid ≡ new
        mid_is = λ i u. sym (new_same u) i

        of : HaveSameUses Left (P LeftUses) new v w → HaveSameUses Right (P RightUses) new v w → AreMatched sign lines new v w
        of a b = parts_matched sign lines new v w a b (still Left exact.left v w e) (still Right exact.right v w e)

        same_side : v ≡ w → AreMatched sign lines new v w
        same_side f = of (same_self Left (P LeftUses) new v w f) (same_self Right (P RightUses) new v w f)

        by : (v ≡ w) ⊎ ((mid v ≡ mid w) × HaveSameUses Right (P RightUses) mid v w) → AreMatched sign lines new v w
        by (inl f) = same_side f
        by (inr (f, right)) = on (first.parts v w f)
          where
            on : (v ≡ w) ⊎ ((old v ≡ old w) × HaveSameUses Left (P LeftUses) old v w) → AreMatched sign lines new v w
            on (inl g) = same_side g
            on (inr (g, left)) = of (subst (λ (class : ℕ → ℕ). HaveSameUses Left (P LeftUses) class v w) old_is left)
                (subst (λ (class : ℕ → ℕ). HaveSameUses Right (P RightUses) class v w) mid_is right)

    at_most : above new lines ≤ above old lines
    at_most =
        let a = split_most Left LeftUses old old mid one first exact.are in
        let b = split_most Right RightUses mid mid new two second mid_are in
        omega (arith, a, b)

    smaller : (one || two) ≡ true → above new lines < above old lines
    smaller e = by one refl e
      where
        by : (a : Bool) → one ≡ a → (a || two) ≡ true → above new lines < above old lines
        by true f g =
            let a = split_less Left LeftUses old old mid one first exact.are f in
            let b = split_most Right RightUses mid mid new two second mid_are in
            omega (arith, a, b)
        by false f g =
            let a = split_most Left LeftUses old old mid one first exact.are in
            let b = split_less Right RightUses mid mid new two second mid_are g in
            omega (arith, a, b)

    pub twice : IsSplitTwice sign lines old new (one || two)
    twice = record {
      exact = record { are = new_are; left = still Left exact.left; right = still Right exact.right };
      stable = stable;
      at_most = at_most;
      smaller = smaller;
    }

-- where nothing is left to split, the twinning is the coarsest
pub coarsest : (sign : Variance) (lines : List Line) (class : ℕ → ℕ) → AreClasses sign lines class →
    ((v w : ℕ) → class v ≡ class w → AreMatched sign lines class v w) → IsCoarsestTwinning sign lines class
coarsest sign lines class are stable = record {
  twins = record { least = are.least; own = are.own; leads = are.leads; matched = stable };
  widest = are.widest;
}

-- each turn leaves less to do
pub fewer : (sign : Variance) (lines : List Line) (old new : ℕ → ℕ) (before after : Bool) → before ≡ true →
    IsSplitTwice sign lines old new after → above new lines + cond after 1 0 < above old lines + cond before 1 0
fewer sign lines old new before after e s = by after before e refl
  where
    by : (a b : Bool) → b ≡ true → after ≡ a → above new lines + cond a 1 0 < above old lines + cond b 1 0
    by true true f g = let lt = s.smaller g in omega (arith, lt)
    by false true f g = let le = s.at_most in omega (arith, le)
    by a false f g = absurd (cc)
