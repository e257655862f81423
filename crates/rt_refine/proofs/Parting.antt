-- Classes split by the uses of their members.
use Rattle.std.proofs.Common.{◌≡◌, ◌≢◌, ◌||◌, ℕ, ◌⊎◌, inl, inr, List, [], ◌∷◌, ◌++◌, Contains, Bool, true, false, refl, sym, ap, subst, ◌∙◌}
use Rattle.rt_lines.specs.declared.label.Label.{Label}
use Rattle.rt_lines.specs.declared.variable.Base.{Base}
use Rattle.rt_lines.specs.declared.variable.Base.TheVariants.{Proc, Global, Exist, Outer}
use Rattle.rt_lines.specs.declared.variable.Dtv.{Dtv}
use Rattle.rt_lines.specs.declared.line.Line.{Line}
use Rattle.rt_lines.specs.declared.line.Line.TheVariants.{Same, Sub, Low, Up}
use Rattle.rt_lines.specs.Orders.{Below}
use Rattle.rt_rules.specs.Rules.{Derivable}
use Rattle.rt_rules.specs.Put.{exist}
use Rattle.rt_refine.specs.declared.uses.Side.{Side}
use Rattle.rt_refine.specs.declared.uses.Side.TheVariants.{Left, Right}
use Rattle.rt_refine.specs.Refinements.{of_exist, moved, move, AreMatched, IsRefinement}
use Rattle.rt_refine.specs.Uses.{Use, Variable, Constant, Peer, move_use, Stands, HaveSameUses}
use Rattle.rt_refine.specs.Numbers.{IsUseIndex, IsNumberOf, numbers_below, use_key}
use Rattle.rt_refine.specs.Groups.{AreShared, IsGrouped, IsNamed}
use Rattle.rt_refine.specs.Splits.{AreClasses, IsSplit}
use Rattle.rt_polar.proofs.Holding.{same_or_apart}
use Rattle.rt_refine.proofs.Below.{same_below, below_same}
use Rattle.rt_refine.proofs.Shaping.{named_one, named_pair}

-- the last of two equal lists
pub push_one : (xs ys : List ℕ) (a b : ℕ) → xs ++ a ∷ [] ≡ ys ++ b ∷ [] → (xs ≡ ys) × (a ≡ b)
push_one [] [] a b e = let f : a ≡ b = cc in (refl, f)
push_one [] (y ∷ []) a b e = absurd (cc)
push_one [] (y ∷ z ∷ ys) a b e = absurd (cc)
push_one (x ∷ []) [] a b e = absurd (cc)
push_one (x ∷ z ∷ xs) [] a b e = absurd (cc)
push_one (x ∷ xs) (y ∷ ys) a b e =
    let f : x ≡ y = cc in
    let g : xs ++ a ∷ [] ≡ ys ++ b ∷ [] = cc in
    let h = push_one xs ys a b g in
    let i : xs ≡ ys = h.0 in
    (cc, h.1)

module _ (side : Side) (lines : List Line) (moves old : ℕ → ℕ) (wanted : ℕ → Bool) (bound : ℕ) (index : ℕ → ℕ → Bool)
    (is_index : IsUseIndex side lines moves wanted bound index) (are_shared : AreShared (IsNamed lines) old wanted) where
  abbrev numbers_of : ℕ → List ℕ
  numbers_of n = numbers_below (index n) bound

  abbrev key_of : ℕ → List ℕ
  key_of n = use_key old bound index n

  -- existentials with the same uses have the same numbers
  index_same : (v w : ℕ) → wanted v ≡ true → wanted w ≡ true → HaveSameUses side lines moves v w → (k : ℕ) → index v k ≡ true →
      index w k ≡ true
  index_same v w p q a k h =
      let s : (u : Use) × IsNumberOf side lines moves wanted index k u = is_index.source v k h in
      (s.1 w q).1 ((a s.0).0 ((s.1 v p).0 h))

  uses_back : (v w : ℕ) → HaveSameUses side lines moves v w → HaveSameUses side lines moves w v
  uses_back v w a u = ((a u).1, (a u).0)

  numbers_same : (v w : ℕ) → wanted v ≡ true → wanted w ≡ true → HaveSameUses side lines moves v w → numbers_of v ≡ numbers_of w
  numbers_same v w p q a = below_same (index v) (index w) bound (index_same v w p q a) (index_same w v q p (uses_back v w a))

  -- and those with the same numbers have the same uses
  use_same : (v w : ℕ) → wanted v ≡ true → wanted w ≡ true → numbers_of v ≡ numbers_of w → (u : Use) →
      Stands side lines moves v u → Stands side lines moves w u
  use_same v w p q e u c =
      let s : (k : ℕ) × IsNumberOf side lines moves wanted index k u = is_index.numbered v u p c in
      let h : index v s.0 ≡ true = (s.1 v p).1 c in
      (s.1 w q).0 (same_below (index v) (index w) bound s.0 e (is_index.within v s.0 h) h)

  abbrev IsWanted : ℕ → Type 0
  IsWanted n = wanted n ≡ true

  both : (v w : ℕ) → IsNamed lines v → IsNamed lines w → old v ≡ old w → v ≢ w → IsWanted v × IsWanted w
  both v w a b e apart = (are_shared.all v w a b e apart, are_shared.all w v b a (sym e) (λ f. apart (sym f)))

  pub split_is : (new : ℕ → ℕ) (moved changed : Bool) → IsGrouped (use_key old bound index) (λ n. wanted n ≡ true) new →
      ((v : ℕ) → IsNamed lines v ⊎ (IsNamed lines v → ⊥)) →
      (moved ≡ false → (v : ℕ) → IsNamed lines v → (wanted v ≡ true) ⊎ (old v ≡ v)) →
      (moved ≡ true → (v : ℕ) × IsNamed lines v × (wanted v ≡ false) × (old v ≢ v)) →
      (changed ≡ false → (v : ℕ) → (new v ≡ old v) ⊎ (wanted v ≡ true → ⊥)) →
      (changed ≡ true → (v : ℕ) × (wanted v ≡ true) × (new v ≢ old v)) →
      IsSplit side lines moves old new (moved || changed)
  split_is new moved changed is named stay away stays differs = record {
    least = is.least;
    own = is.own;
    alone = λ v none. is.alone v (λ h. none (are_shared.among v h));
    one = λ v w a b e same. one v w a b e same (same_or_apart v w);
    parts = λ v w e. parts v w (named_one (use_key old bound index) IsWanted new is v w e);
    stays = λ e v. let f = neither moved changed e in stays_at f.0 f.1 v (named v) (stays f.1 v);
    differs = λ e. differs_at (which moved changed e);
  }
    where
      one : (v w : ℕ) → IsNamed lines v → IsNamed lines w → old v ≡ old w → HaveSameUses side lines moves v w →
          (v ≡ w) ⊎ (v ≢ w) → new v ≡ new w
      one v w a b e same (inl f) = ap new f
      one v w a b e same (inr apart) =
          let h = both v w a b e apart in
          is.one v w h.0 h.1 (ap (λ (ks : List ℕ). ks ++ old v ∷ []) (numbers_same v w h.0 h.1 same)
          ∙ ap (λ (k : ℕ). numbers_of w ++ k ∷ []) e)

      parts : (v w : ℕ) → (v ≡ w) ⊎ (IsWanted v × IsWanted w × (key_of v ≡ key_of w)) →
          (v ≡ w) ⊎ ((old v ≡ old w) × HaveSameUses side lines moves v w)
      parts v w (inl e) = inl e
      parts v w (inr (a, b, e)) =
          let f = push_one (numbers_of v) (numbers_of w) (old v) (old w) e in
          inr (f.1, λ u. (use_same v w a b f.0 u, use_same w v b a (sym f.0) u))

      lone : (v : ℕ) → (IsWanted v → ⊥) → new v ≡ v
      lone v none = is.alone v none

      neither : (a b : Bool) → (a || b) ≡ false → (a ≡ false) × (b ≡ false)
      neither false false e = (refl, refl)
      neither false true e = absurd (cc)
      neither true b e = absurd (cc)

      which : (a b : Bool) → (a || b) ≡ true → (a ≡ true) ⊎ (b ≡ true)
      which true b e = inl refl
      which false true e = inr refl
      which false false e = absurd (cc)

      stays_at : moved ≡ false → changed ≡ false → (v : ℕ) → IsNamed lines v ⊎ (IsNamed lines v → ⊥) →
          (new v ≡ old v) ⊎ (IsWanted v → ⊥) → (new v ≡ old v) ⊎ (IsNamed lines v → ⊥)
      stays_at e f v (inr none) p = inr none
      stays_at e f v (inl a) (inl g) = inl g
      stays_at e f v (inl a) (inr none) = by (stay e v a)
        where
          by : (wanted v ≡ true) ⊎ (old v ≡ v) → (new v ≡ old v) ⊎ (IsNamed lines v → ⊥)
          by (inl h) = absurd (none h)
          by (inr g) = inl (lone v none ∙ sym g)

      differs_at : (moved ≡ true) ⊎ (changed ≡ true) → (v : ℕ) × IsNamed lines v × (new v ≢ old v)
      differs_at (inl e) =
          let (v, a, h, apart) = away e in
          (v, a, λ f. apart (sym f ∙ lone v (λ g. let k : false ≡ true = sym h ∙ g in absurd (cc))))
      differs_at (inr e) = let s = differs e in (s.0, are_shared.among s.0 s.1, s.2)

-- what is equal by finer classes is so by coarser ones
module _ (fine coarse : ℕ → ℕ) (finer : (a b : ℕ) → fine a ≡ fine b → coarse a ≡ coarse b) where
  moved_coarser : (a b : Base) → moved fine a ≡ moved fine b → moved coarse a ≡ moved coarse b
  moved_coarser (Exist m) (Exist n) e = let f : fine m ≡ fine n = cc in ap Exist (finer m n f)
  moved_coarser (Exist m) (Proc n) e = absurd (cc)
  moved_coarser (Exist m) (Global n) e = absurd (cc)
  moved_coarser (Exist m) (Outer n) e = absurd (cc)
  moved_coarser (Proc m) (Exist n) e = absurd (cc)
  moved_coarser (Proc m) (Proc n) e = e
  moved_coarser (Proc m) (Global n) e = absurd (cc)
  moved_coarser (Proc m) (Outer n) e = absurd (cc)
  moved_coarser (Global m) (Exist n) e = absurd (cc)
  moved_coarser (Global m) (Proc n) e = absurd (cc)
  moved_coarser (Global m) (Global n) e = e
  moved_coarser (Global m) (Outer n) e = absurd (cc)
  moved_coarser (Outer m) (Exist n) e = absurd (cc)
  moved_coarser (Outer m) (Proc n) e = absurd (cc)
  moved_coarser (Outer m) (Global n) e = absurd (cc)
  moved_coarser (Outer m) (Outer n) e = e

  move_coarser : (y z : Dtv) → move fine y ≡ move fine z → move coarse y ≡ move coarse z
  move_coarser y z e =
      let f : moved coarse y.base ≡ moved coarse z.base = moved_coarser y.base z.base (ap (λ (x : Dtv). x.base) e) in
      let g : y.word ≡ z.word = ap (λ (x : Dtv). x.word) e in
      λ i. record { base = f i; word = g i }

  -- matched existentials have the same uses
  pub matched_use : (side : Side) (lines : List Line) (v w : ℕ) → AreMatched lines fine v w → (u : Use) → Stands side lines coarse v u →
      Stands side lines coarse w u
  matched_use Left lines v w is u ((x, Variable y), c, e) =
      let s = is.left x y c in
      let f : move coarse s.0 ≡ move coarse y = move_coarser s.0 y s.2 in
      let g : move_use coarse (x, Variable s.0) ≡ move_use coarse (x, Variable y) = λ i. (x, Variable (f i)) in
      ((x, Variable s.0), s.1, g ∙ e)
  matched_use Left lines v w is u ((x, Constant k), c, e) = ((x, Constant k), is.up x k c, e)
  matched_use Right lines v w is u ((x, Variable y), c, e) =
      let s = is.right y x c in
      let f : move coarse s.0 ≡ move coarse y = move_coarser s.0 y s.2 in
      let g : move_use coarse (x, Variable s.0) ≡ move_use coarse (x, Variable y) = λ i. (x, Variable (f i)) in
      ((x, Variable s.0), s.1, g ∙ e)
  matched_use Right lines v w is u ((x, Constant k), c, e) = ((x, Constant k), is.low k x c, e)

-- a split of classes
pub split_classes : (side : Side) (lines : List Line) (old new : ℕ → ℕ) (changed : Bool) → IsSplit side lines old old new changed →
    AreClasses lines old → AreClasses lines new
split_classes side lines old new changed split are = record {
  least = split.least;
  own = split.own;
  alone = split.alone;
  shaped = λ v w e. shaped v w (split.parts v w e);
  widest = widest;
}
  where
    shaped : (v w : ℕ) → (v ≡ w) ⊎ ((old v ≡ old w) × HaveSameUses side lines old v w) →
        (v ≡ w) ⊎ ((order : Below) → Derivable order lines (Same (exist v) (exist w)))
    shaped v w (inl e) = inl e
    shaped v w (inr p) = are.shaped v w p.0

    widest : (other : ℕ → ℕ) → IsRefinement lines other → (v w : ℕ) → other v ≡ other w → new v ≡ new w
    widest other is v w e = by (named_pair lines other is v w e)
      where
        finer : (a b : ℕ) → other a ≡ other b → old a ≡ old b
        finer = are.widest other is

        by : (v ≡ w) ⊎ (IsNamed lines v × IsNamed lines w) → new v ≡ new w
        by (inl f) = ap new f
        by (inr p) = split.one v w p.0 p.1 (finer v w e)
            (λ u. (
              matched_use other old finer side lines v w (is.matched v w e) u,
              matched_use other old finer side lines w v (is.matched w v (sym e)) u,
            ))

-- the same uses on both sides
pub uses_matched : (lines : List Line) (class : ℕ → ℕ) (v w : ℕ) → HaveSameUses Left lines class v w → HaveSameUses Right lines class v w →
    AreMatched lines class v w
uses_matched lines class v w a b = record {
  left = λ u y c. left u y ((a (u, Variable (move class y))).0 ((u, Variable y), c, refl));
  right = λ x u c. right u x ((b (u, Variable (move class x))).0 ((u, Variable x), c, refl));
  low = λ k u c. low u k ((b (u, Constant k)).0 ((u, Constant k), c, refl));
  up = λ u k c. up u k ((a (u, Constant k)).0 ((u, Constant k), c, refl));
}
  where
    word_one : {p q : Peer} (x u : List Label) → ◌≡◌ {A = Use} (x, p) (u, q) → x ≡ u
    word_one x u e = ap (λ (t : Use). t.0) e

    peer_one : (p q : Peer) (x u : List Label) → ◌≡◌ {A = Use} (x, p) (u, q) → p ≡ q
    peer_one p q x u e = ap (λ (t : Use). t.1) e

    variable_one : (y z : Dtv) → Variable y ≡ Variable z → y ≡ z
    variable_one y z e = cc

    left : (u : List Label) (y : Dtv) → Stands Left lines class w (u, Variable (move class y)) →
        (z : Dtv) × Contains lines (Sub (of_exist w u) z) × (move class z ≡ move class y)
    left u y ((x, Variable z), c, e) = (
      z,
      subst (λ (t : List Label). Contains lines (Sub (of_exist w t) z)) (word_one x u e) c,
      variable_one (move class z) (move class y) (peer_one (Variable (move class z)) (Variable (move class y)) x u e),
    )
    left u y ((x, Constant k), c, e) =
        let f : Constant k ≡ Variable (move class y) = peer_one (Constant k) (Variable (move class y)) x u e in absurd (cc)

    right : (u : List Label) (y : Dtv) → Stands Right lines class w (u, Variable (move class y)) →
        (z : Dtv) × Contains lines (Sub z (of_exist w u)) × (move class z ≡ move class y)
    right u y ((x, Variable z), c, e) = (
      z,
      subst (λ (t : List Label). Contains lines (Sub z (of_exist w t))) (word_one x u e) c,
      variable_one (move class z) (move class y) (peer_one (Variable (move class z)) (Variable (move class y)) x u e),
    )
    right u y ((x, Constant k), c, e) =
        let f : Constant k ≡ Variable (move class y) = peer_one (Constant k) (Variable (move class y)) x u e in absurd (cc)

    low : (u : List Label) (k : ℕ) → Stands Right lines class w (u, Constant k) → Contains lines (Low k (of_exist w u))
    low u k ((x, Variable z), c, e) =
        let f : Variable (move class z) ≡ Constant k = peer_one (Variable (move class z)) (Constant k) x u e in absurd (cc)
    low u k ((x, Constant j), c, e) =
        let f : Constant j ≡ Constant k = peer_one (Constant j) (Constant k) x u e in
        let g : j ≡ k = cc in
        let h : x ≡ u = word_one x u e in
        subst (λ (i : ℕ). Contains lines (Low i (of_exist w u))) g (subst (λ (t : List Label). Contains lines (Low j (of_exist w t))) h c)

    up : (u : List Label) (k : ℕ) → Stands Left lines class w (u, Constant k) → Contains lines (Up (of_exist w u) k)
    up u k ((x, Variable z), c, e) =
        let f : Variable (move class z) ≡ Constant k = peer_one (Variable (move class z)) (Constant k) x u e in absurd (cc)
    up u k ((x, Constant j), c, e) =
        let f : Constant j ≡ Constant k = peer_one (Constant j) (Constant k) x u e in
        let g : j ≡ k = cc in
        let h : x ≡ u = word_one x u e in
        subst (λ (i : ℕ). Contains lines (Up (of_exist w u) i)) g (subst (λ (t : List Label). Contains lines (Up (of_exist w t) j)) h c)
