-- Classes split by the uses of their members, part by part.
use Rattle.std.proofs.Common.{◌≡◌, ℕ, ◌⊎◌, inl, inr, List, Contains, Bool, true, false, not, cond, refl, sym, ap, subst, ◌∙◌}
use Rattle.rt_base.proofs.Lists.{Contains-map, Contains-map_source}
use Rattle.rt_lines.specs.declared.label.Label.{Label}
use Rattle.rt_lines.specs.declared.label.Variance.{Variance}
use Rattle.rt_lines.specs.declared.variable.Base.{Base}
use Rattle.rt_lines.specs.declared.variable.Base.TheVariants.{Proc, Global, Exist, Outer}
use Rattle.rt_lines.specs.declared.variable.Dtv.{Dtv}
use Rattle.rt_lines.specs.declared.line.Line.{Line}
use Rattle.rt_lines.specs.declared.line.Line.TheVariants.{Var, Same, Sub, Low, Up}
use Rattle.rt_lines.specs.Words.{variance_of_word}
use Rattle.rt_rules.specs.Rules.{HasSide}
use Rattle.rt_refine.specs.declared.uses.Side.{Side}
use Rattle.rt_refine.specs.declared.uses.Side.TheVariants.{Left, Right}
use Rattle.rt_refine.specs.Refinements.{of_exist, moved, move}
use Rattle.rt_refine.specs.Groups.{IsNamed}
use Rattle.rt_refine.specs.Uses.{Use, Variable, Constant, use_line, move_use, Stands, HaveSameUses}
use Rattle.rt_refine.proofs.Classmates.{AreOfClass, base_cases}
use Rattle.rt_twins.specs.declared.parts.Part.{Part}
use Rattle.rt_twins.specs.declared.parts.Part.TheVariants.{Both, Left as LeftUses, Right as RightUses}
use Rattle.rt_twins.specs.Inside.Parts.{is_other, leads, of_sides, is_of, shape_of, kept_of, part_of}
use Rattle.rt_twins.specs.Twinnings.{IsLeftUse, IsRightUse, AreOne, AreMatched}
use Rattle.rt_twins.proofs.Forms.{leads_left, leads_right, left_leads, right_leads, not_both, not_both_back}

-- the sides of a line and of its shape are the same
shape_sides : (l : Line) (x : Dtv) → HasSide l x → HasSide (shape_of l) x
shape_sides (Var y) x h = h
shape_sides (Same y z) x h = h
shape_sides (Sub y z) x h = h
shape_sides (Low k y) x h = h
shape_sides (Up y k) x h = h

sides_shape : (l : Line) (x : Dtv) → HasSide (shape_of l) x → HasSide l x
sides_shape (Var y) x h = h
sides_shape (Same y z) x h = h
sides_shape (Sub y z) x h = h
sides_shape (Low k y) x h = h
sides_shape (Up y k) x h = h

module _ (sign : Variance) (part : Part) where
  kept_sides : (l : Line) (x : Dtv) → HasSide l x → HasSide (kept_of sign part l) x
  kept_sides l x h = by (is_of sign part l)
    where
      by : (t : Bool) → HasSide (cond t l (shape_of l)) x
      by true = h
      by false = shape_sides l x h

  sides_kept : (l : Line) (x : Dtv) → HasSide (kept_of sign part l) x → HasSide l x
  sides_kept l x h = by (is_of sign part l) h
    where
      by : (t : Bool) → HasSide (cond t l (shape_of l)) x → HasSide l x
      by true h = h
      by false h = sides_shape l x h

  pub part_named : (lines : List Line) (n : ℕ) → IsNamed lines n → IsNamed (part_of sign part lines) n
  part_named lines n (l, c, (x, h, e)) =
      (kept_of sign part l, Contains-map (kept_of sign part) lines l c, (x, kept_sides l x h, e))

  pub named_part : (lines : List Line) (n : ℕ) → IsNamed (part_of sign part lines) n → IsNamed lines n
  named_part lines n (l, c, (x, h, e)) =
      let s : (k : Line) × Contains lines k × (kept_of sign part k ≡ l) = Contains-map_source (kept_of sign part) lines l c in
      (s.0, s.1, (x, sides_kept s.0 x (subst (λ k. HasSide k x) (sym s.2) h), e))

  -- a `<=` line or bound of the part stands there, and none else
  pub in_part : (lines : List Line) (l : Line) → is_of sign part l ≡ true → Contains lines l → Contains (part_of sign part lines) l
  in_part lines l e c =
      subst (Contains (part_of sign part lines)) (ap (λ t. cond t l (shape_of l)) e) (Contains-map (kept_of sign part) lines l c)

  abbrev IsWhole : Line → Type 0
  IsWhole l = (k : Line) → shape_of k ≡ l → ⊥

  sub_whole : (x y : Dtv) → IsWhole (Sub x y)
  sub_whole x y (Var a) e = cc
  sub_whole x y (Same a b) e = cc
  sub_whole x y (Sub a b) e = cc
  sub_whole x y (Low k a) e = cc
  sub_whole x y (Up a k) e = cc

  low_whole : (k : ℕ) (x : Dtv) → IsWhole (Low k x)
  low_whole k x (Var a) e = cc
  low_whole k x (Same a b) e = cc
  low_whole k x (Sub a b) e = cc
  low_whole k x (Low j a) e = cc
  low_whole k x (Up a j) e = cc

  up_whole : (x : Dtv) (k : ℕ) → IsWhole (Up x k)
  up_whole x k (Var a) e = cc
  up_whole x k (Same a b) e = cc
  up_whole x k (Sub a b) e = cc
  up_whole x k (Low j a) e = cc
  up_whole x k (Up a j) e = cc

  from_part : (lines : List Line) (l : Line) → IsWhole l → Contains (part_of sign part lines) l → Contains lines l × (is_of sign part l ≡ true)
  from_part lines l whole c =
      let s : (k : Line) × Contains lines k × (kept_of sign part k ≡ l) = Contains-map_source (kept_of sign part) lines l c in
      by s.0 s.1 (is_of sign part s.0) refl s.2
    where
      by : (k : Line) → Contains lines k → (t : Bool) → is_of sign part k ≡ t → cond t k (shape_of k) ≡ l →
          Contains lines l × (is_of sign part l ≡ true)
      by k d true e f = (subst (Contains lines) f d, subst (λ j. is_of sign part j ≡ true) f e)
      by k d false e f = absurd (whole k f)

  use_whole : (side : Side) (n : ℕ) (u : Use) → IsWhole (use_line side n u)
  use_whole Left n (w, Variable z) = sub_whole (of_exist n w) z
  use_whole Left n (w, Constant k) = up_whole (of_exist n w) k
  use_whole Right n (w, Variable z) = sub_whole z (of_exist n w)
  use_whole Right n (w, Constant k) = low_whole k (of_exist n w)

  pub use_of_part : (side : Side) (lines : List Line) (n : ℕ) (u : Use) → Contains (part_of sign part lines) (use_line side n u) →
      Contains lines (use_line side n u) × (is_of sign part (use_line side n u) ≡ true)
  use_of_part side lines n u c = from_part lines (use_line side n u) (use_whole side n u) c

not_true : (p : Bool) → not p ≡ true → p ≡ false
not_true true e = absurd (cc)
not_true false e = refl

-- what the parts hold of two sides
both_sides : (p q : Bool) → of_sides Both p q ≡ true → (p ≡ true) × (q ≡ false)
both_sides true true e = absurd (cc)
both_sides true false e = (refl, refl)
both_sides false q e = absurd (cc)

left_sides : (p q : Bool) → of_sides LeftUses p q ≡ true → (p ≡ true) × (q ≡ true)
left_sides true true e = (refl, refl)
left_sides true false e = absurd (cc)
left_sides false q e = absurd (cc)

right_sides : (p q : Bool) → of_sides RightUses p q ≡ true → (p ≡ false) × (q ≡ false)
right_sides true q e = absurd (cc)
right_sides false true e = absurd (cc)
right_sides false false e = (refl, refl)

sides_both : (p q : Bool) → p ≡ true → q ≡ false → of_sides Both p q ≡ true
sides_both p q e f = rw (e, f) refl

sides_left : (p q : Bool) → p ≡ true → q ≡ true → of_sides LeftUses p q ≡ true
sides_left p q e f = rw (e, f) refl

sides_right : (p q : Bool) → p ≡ false → q ≡ false → of_sides RightUses p q ≡ true
sides_right p q e f = rw (e, f) refl

-- what is equal by finer classes is so by coarser ones
module _ (fine coarse : ℕ → ℕ) (finer : (a b : ℕ) → fine a ≡ fine b → coarse a ≡ coarse b) where
  base_coarser : (a b : Base) → moved fine a ≡ moved fine b → (a ≡ b) ⊎ AreOfClass fine a b → moved coarse a ≡ moved coarse b
  base_coarser a b e (inl f) = ap (moved coarse) f
  base_coarser a b e (inr t) = ap (moved coarse) t.first ∙ ap Exist (finer t.v t.w t.one) ∙ sym (ap (moved coarse) t.second)

  move_coarser : (y z : Dtv) → move fine y ≡ move fine z → move coarse y ≡ move coarse z
  move_coarser y z e =
      let f : moved coarse y.base ≡ moved coarse z.base =
      base_coarser y.base z.base (ap (λ x. x.base) e) (base_cases fine y.base z.base (ap (λ x. x.base) e)) in
      let g : y.word ≡ z.word = ap (λ x. x.word) e in
      λ i. record { base = f i; word = g i }

-- where every existential is alone, no variable moves
pub move_none : (x : Dtv) → move (λ n. n) x ≡ x
move_none x = λ i. record { base = at x.base i; word = x.word }
  where
    at : (b : Base) → moved (λ n. n) b ≡ b
    at (Proc n) = refl
    at (Global n) = refl
    at (Exist n) = refl
    at (Outer n) = refl

module _ (sign : Variance) (lines : List Line) where
  abbrev P : Part → List Line
  P part = part_of sign part lines

  word_leads : (z y : Dtv) → z.word ≡ y.word → leads sign z ≡ leads sign y
  word_leads z y e = ap (λ w. is_other sign (variance_of_word w)) e

  -- a use of the same on both sides, of variables that are one but for coarser classes
  module _ (fine coarse : ℕ → ℕ) (finer : (a b : ℕ) → fine a ≡ fine b → coarse a ≡ coarse b) (v w : ℕ) (is : AreMatched sign lines fine v w) where
    pub left_moved : (u : Use) → Stands Left (P LeftUses) coarse v u → Stands Left (P LeftUses) coarse w u
    left_moved u ((x, Variable y), c, e) =
        let p = use_of_part sign LeftUses Left lines v (x, Variable y) c in
        let q = left_sides (leads sign (of_exist v x)) (leads sign y) p.1 in
        let s = is.left x y (leads_left sign (of_exist v x) q.0) p.0 in
        let f : leads sign s.0 ≡ true = word_leads s.0 y (ap (λ z. z.word) s.2.but_for) ∙ q.1 in
        let g : move coarse s.0 ≡ move coarse y = move_coarser fine coarse finer s.0 y s.2.but_for in
        let h : move_use coarse (x, Variable s.0) ≡ move_use coarse (x, Variable y) = λ i. (x, Variable (g i)) in (
          (x, Variable s.0),
          in_part sign LeftUses lines (Sub (of_exist w x) s.0) (sides_left (leads sign (of_exist w x)) (leads sign s.0) q.0 f) s.1,
          h ∙ e,
        )
    left_moved u ((x, Constant k), c, e) =
        let p = use_of_part sign LeftUses Left lines v (x, Constant k) c in (
          (x, Constant k),
          in_part sign LeftUses lines (Up (of_exist w x) k) p.1 (is.up x k (leads_left sign (of_exist v x) p.1) p.0),
          e,
        )

    pub right_moved : (u : Use) → Stands Right (P RightUses) coarse v u → Stands Right (P RightUses) coarse w u
    right_moved u ((x, Variable y), c, e) =
        let p = use_of_part sign RightUses Right lines v (x, Variable y) c in
        let q = right_sides (leads sign y) (leads sign (of_exist v x)) p.1 in
        let s = is.right y x (leads_right sign (of_exist v x) q.1) p.0 in
        let f : leads sign s.0 ≡ false = word_leads s.0 y (ap (λ z. z.word) s.2.but_for) ∙ q.0 in
        let g : move coarse s.0 ≡ move coarse y = move_coarser fine coarse finer s.0 y s.2.but_for in
        let h : move_use coarse (x, Variable s.0) ≡ move_use coarse (x, Variable y) = λ i. (x, Variable (g i)) in (
          (x, Variable s.0),
          in_part sign RightUses lines (Sub s.0 (of_exist w x)) (sides_right (leads sign s.0) (leads sign (of_exist w x)) f q.1) s.1,
          h ∙ e,
        )
    right_moved u ((x, Constant k), c, e) =
        let p = use_of_part sign RightUses Right lines v (x, Constant k) c in (
          (x, Constant k),
          in_part sign RightUses lines (Low k (of_exist w x)) p.1
              (is.low k x (leads_right sign (of_exist v x) (not_true (leads sign (of_exist v x)) p.1)) p.0),
          e,
        )

    pub left_exact : (u : Use) → Stands Left (P Both) (λ n. n) v u → Stands Left (P Both) (λ n. n) w u
    left_exact u ((x, Variable y), c, e) =
        let p = use_of_part sign Both Left lines v (x, Variable y) c in
        let q = both_sides (leads sign (of_exist v x)) (leads sign y) p.1 in
        let s = is.left x y (leads_left sign (of_exist v x) q.0) p.0 in
        let d : Contains lines (Sub (of_exist w x) y) = subst (λ z. Contains lines (Sub (of_exist w x) z)) (s.2.exact (leads_right sign y q.1)) s.1 in
        ((x, Variable y), in_part sign Both lines (Sub (of_exist w x) y) p.1 d, e)
    left_exact u ((x, Constant k), c, e) =
        let p = use_of_part sign Both Left lines v (x, Constant k) c in let f : false ≡ true = p.1 in absurd (cc)

    pub right_exact : (u : Use) → Stands Right (P Both) (λ n. n) v u → Stands Right (P Both) (λ n. n) w u
    right_exact u ((x, Variable y), c, e) =
        let p = use_of_part sign Both Right lines v (x, Variable y) c in
        let q = both_sides (leads sign y) (leads sign (of_exist v x)) p.1 in
        let s = is.right y x (leads_right sign (of_exist v x) q.1) p.0 in
        let d : Contains lines (Sub y (of_exist w x)) = subst (λ z. Contains lines (Sub z (of_exist w x))) (s.2.exact (leads_left sign y q.0)) s.1 in
        ((x, Variable y), in_part sign Both lines (Sub y (of_exist w x)) p.1 d, e)
    right_exact u ((x, Constant k), c, e) =
        let p = use_of_part sign Both Right lines v (x, Constant k) c in let f : false ≡ true = p.1 in absurd (cc)

  -- a use by classes comes from one
  module _ (side : Side) (ls : List Line) (class : ℕ → ℕ) (w : ℕ) where
    pub stands_variable : (u : List Label) (y : Dtv) → Stands side ls class w (u, Variable (move class y)) →
        (z : Dtv) × Contains ls (use_line side w (u, Variable z)) × (move class z ≡ move class y)
    stands_variable u y ((x, Variable z), c, e) =
        let f : x ≡ u = ap (λ (t : Use). t.0) e in
        let g : Variable (move class z) ≡ Variable (move class y) = ap (λ (t : Use). t.1) e in
        let h : move class z ≡ move class y = cc in
        (z, subst (λ (t : List Label). Contains ls (use_line side w (t, Variable z))) f c, h)
    stands_variable u y ((x, Constant k), c, e) =
        let g : Constant k ≡ Variable (move class y) = ap (λ (t : Use). t.1) e in absurd (cc)

    pub stands_constant : (u : List Label) (k : ℕ) → Stands side ls class w (u, Constant k) → Contains ls (use_line side w (u, Constant k))
    stands_constant u k ((x, Variable z), c, e) =
        let g : Variable (move class z) ≡ Constant k = ap (λ (t : Use). t.1) e in absurd (cc)
    stands_constant u k ((x, Constant j), c, e) =
        let f : x ≡ u = ap (λ (t : Use). t.0) e in
        let g : Constant j ≡ Constant k = ap (λ (t : Use). t.1) e in
        let h : j ≡ k = cc in
        subst (λ (i : ℕ). Contains ls (use_line side w (u, Constant i))) h
        (subst (λ (t : List Label). Contains ls (use_line side w (t, Constant j))) f c)

  -- existentials with the same uses in each part are matched
  module _ (class : ℕ → ℕ) (v w : ℕ) (a : HaveSameUses Left (P LeftUses) class v w) (b : HaveSameUses Right (P RightUses) class v w)
      (d : HaveSameUses Left (P Both) (λ n. n) v w) (e : HaveSameUses Right (P Both) (λ n. n) v w) where
    abbrev Above : List Label → Dtv → Type 0
    Above u y = (z : Dtv) × Contains lines (Sub (of_exist w u) z) × AreOne class (IsRightUse sign y.word) z y

    abbrev Beneath : Dtv → List Label → Type 0
    Beneath x u = (z : Dtv) × Contains lines (Sub z (of_exist w u)) × AreOne class (IsLeftUse sign x.word) z x

    upper : (u : List Label) (y : Dtv) → IsLeftUse sign u → Contains lines (Sub (of_exist v u) y) → (t : Bool) → leads sign y ≡ t → Above u y
    upper u y h c true f =
        let p : leads sign (of_exist v u) ≡ true = left_leads sign (of_exist v u) h in
        let s = stands_variable Left (P LeftUses) class w u y ((a (u, Variable (move class y))).0
        ((u, Variable y), in_part sign LeftUses lines (Sub (of_exist v u) y) (sides_left (leads sign (of_exist v u)) (leads sign y) p f) c, refl)) in
        let r = use_of_part sign LeftUses Left lines w (u, Variable s.0) s.1 in
        (s.0, r.0, record { but_for = s.2; exact = λ k. absurd (not_both sign y f k) })
    upper u y h c false f =
        let p : leads sign (of_exist v u) ≡ true = left_leads sign (of_exist v u) h in
        let s = stands_variable Left (P Both) (λ n. n) w u y ((d (u, Variable (move (λ n. n) y))).0
        ((u, Variable y), in_part sign Both lines (Sub (of_exist v u) y) (sides_both (leads sign (of_exist v u)) (leads sign y) p f) c, refl)) in
        let r = use_of_part sign Both Left lines w (u, Variable s.0) s.1 in
        let g : s.0 ≡ y = sym (move_none s.0) ∙ s.2 ∙ move_none y in
        (s.0, r.0, record { but_for = ap (move class) g; exact = λ k. g })

    lower : (x : Dtv) (u : List Label) → IsRightUse sign u → Contains lines (Sub x (of_exist v u)) → (t : Bool) → leads sign x ≡ t → Beneath x u
    lower x u h c false f =
        let p : leads sign (of_exist v u) ≡ false = right_leads sign (of_exist v u) h in
        let s = stands_variable Right (P RightUses) class w u x ((b (u, Variable (move class x))).0
        ((u, Variable x), in_part sign RightUses lines (Sub x (of_exist v u)) (sides_right (leads sign x) (leads sign (of_exist v u)) f p) c, refl)) in
        let r = use_of_part sign RightUses Right lines w (u, Variable s.0) s.1 in
        (s.0, r.0, record { but_for = s.2; exact = λ k. absurd (not_both_back sign x f k) })
    lower x u h c true f =
        let p : leads sign (of_exist v u) ≡ false = right_leads sign (of_exist v u) h in
        let s = stands_variable Right (P Both) (λ n. n) w u x ((e (u, Variable (move (λ n. n) x))).0
        ((u, Variable x), in_part sign Both lines (Sub x (of_exist v u)) (sides_both (leads sign x) (leads sign (of_exist v u)) f p) c, refl)) in
        let r = use_of_part sign Both Right lines w (u, Variable s.0) s.1 in
        let g : s.0 ≡ x = sym (move_none s.0) ∙ s.2 ∙ move_none x in
        (s.0, r.0, record { but_for = ap (move class) g; exact = λ k. g })

    pub parts_matched : AreMatched sign lines class v w
    parts_matched = record {
      left = λ u y h c. upper u y h c (leads sign y) refl;
      right = λ x u h c. lower x u h c (leads sign x) refl;
      low = λ k u h c.
          let p : not (leads sign (of_exist v u)) ≡ true = ap not (right_leads sign (of_exist v u) h) in
          let s = stands_constant Right (P RightUses) class w u k ((b (u, Constant k)).0
          ((u, Constant k), in_part sign RightUses lines (Low k (of_exist v u)) p c, refl)) in
          (use_of_part sign RightUses Right lines w (u, Constant k) s).0;
      up = λ u k h c.
          let s = stands_constant Left (P LeftUses) class w u k ((a (u, Constant k)).0
          ((u, Constant k), in_part sign LeftUses lines (Up (of_exist v u) k) (left_leads sign (of_exist v u) h) c, refl)) in
          (use_of_part sign LeftUses Left lines w (u, Constant k) s).0;
    }
