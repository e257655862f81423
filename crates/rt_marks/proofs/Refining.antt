-- What the outside derives loosely where the least of each class is in the others' places, it derives so from the lines.
use Rattle.std.proofs.Common.{◌≡◌, ℕ, ◌⊎◌, inl, inr, List, ◌++◌, All, Contains, Bool, true, false, refl, ap, sym, subst, ◌∙◌}
use Rattle.std.proofs.lemmas.List.Elements.{Contains-append_left, Contains-append_right, Contains-append_cases, All-contains}
use Rattle.rt_base.proofs.Lists.{Contains-map, Contains-map_source}
use Rattle.rt_lines.specs.declared.label.Label.{Label}
use Rattle.rt_lines.specs.declared.label.Label.TheVariants.{Load, Store}
use Rattle.rt_lines.specs.declared.variable.Base.{Base}
use Rattle.rt_lines.specs.declared.variable.Base.TheVariants.{Proc, Global, Exist, Outer}
use Rattle.rt_lines.specs.declared.variable.Dtv.{Dtv}
use Rattle.rt_lines.specs.declared.line.Line.{Line}
use Rattle.rt_lines.specs.declared.line.Line.TheVariants.{Var, Same, Sub, Low, Up}
use Rattle.rt_lines.specs.declared.line.Judge.{Judge}
use Rattle.rt_lines.specs.declared.line.Judge.TheVariants.{Var as JudgeVar, Sub as JudgeSub, Low as JudgeLow, Up as JudgeUp}
use Rattle.rt_lines.specs.Orders.{Below}
use Rattle.rt_rules.specs.Rules.{longer, HasSide, line_of}
use Rattle.rt_rules.specs.Rules.{Derivable}
use Rattle.rt_loose.specs.Loose.{Loosely}
use Rattle.rt_loose.proofs.Loosely.{embed, strict_of}
use Rattle.rt_loose.specs.Loose.Loosely.{named, prefix, left_side, right_side, same_letter, same_line, same_sub, same_self, same_back}
use Rattle.rt_loose.specs.Loose.Loosely.{same_chain, same_longer, sub_line, sub_self, sub_chain, sub_co, sub_contra, sub_pointer, loose_pointer}
use Rattle.rt_loose.specs.Loose.Loosely.{low_line, up_line, low_sub, up_sub}
use Rattle.rt_rules.specs.Alike.{IsOutside, map_line}
use Rattle.rt_marks.specs.Outsides.{LooselyCovers}
use Rattle.rt_rules.specs.Put.{exist}
use Rattle.rt_marks.proofs.Carrying.{given, side}
use Rattle.rt_rules.proofs.Covering.{map_line-fixed}
use Rattle.rt_marks.proofs.Covering.{derives_left, covers_by}
use Rattle.rt_rules.proofs.LineSides.{HasSide-map_line_source}
use Rattle.rt_marks.proofs.Turned.{same_word}
use Rattle.rt_refine.specs.Refinements.{of_exist, moved, move, IsRefinement, refined}
use Rattle.rt_marks.specs.Laws.{RefinedAlikeLaw}
use Rattle.rt_refine.proofs.Holding.{hold}
use Rattle.rt_refine.proofs.Classmates.{AreTwo, variable_cases, shorter, move_longer, moved_twice}
use Rattle.rt_refine.proofs.Matching.{match_above, match_beneath, match_low, match_up}

module _ (order : Below) (lines : List Line) (class : ℕ → ℕ) (is : IsRefinement lines class) where
  abbrev IsOwn : ℕ → Type 0
  IsOwn n = (class n ≡ n) ⊎ ((order : Below) → Derivable order lines (Same (exist n) (exist (class n))))

  abbrev Shares : ℕ → ℕ → Type 0
  Shares m n = Loosely order lines (Same (exist m) (exist n))

  -- existentials of one class are one or have one shape
  shapes : (v w : ℕ) → class v ≡ class w → (v ≡ w) ⊎ Loosely order lines (Same (exist v) (exist w))
  shapes v w e = by (is.shaped v) (is.shaped w)
    where
      by : IsOwn v → IsOwn w → (v ≡ w) ⊎ Shares v w
      by (inl f) (inl g) = inl (sym f ∙ e ∙ g)
      by (inl f) (inr d) = inr (same_back (subst (Shares w) (sym e ∙ f) (embed order lines (d order))))
      by (inr d) (inl g) = inr (subst (Shares v) (e ∙ g) (embed order lines (d order)))
      by (inr d) (inr f) = inr (same_chain (subst (Shares v) e (embed order lines (d order))) (same_back (embed order lines (f order))))

module _ (order : Below) (inside : Base → Bool) (lines : List Line) (class : ℕ → ℕ) (inner : (n : ℕ) → inside (Exist n) ≡ true)
    (is : IsRefinement lines class) where
  abbrev m : Dtv → Dtv
  m = move class

  -- no existential is outside
  not_outside : (b : Base) (n : ℕ) → b ≡ Exist n → inside b ≡ false → ⊥
  not_outside b n e f = let g : inside b ≡ true = subst (λ c. inside c ≡ true) (sym e) (inner n) in absurd (cc)

  outside_stays : (x : Dtv) → inside x.base ≡ false → m x ≡ x
  outside_stays x e = λ i. record { base = at x.base e i; word = x.word }
    where
      at : (b : Base) → inside b ≡ false → moved class b ≡ b
      at (Proc n) f = refl
      at (Global n) f = refl
      at (Exist n) f = absurd (not_outside (Exist n) n refl f)
      at (Outer n) f = refl

  -- what becomes an outside variable is that variable
  outside_alone : (a x : Dtv) → inside x.base ≡ false → m a ≡ x → a ≡ x
  outside_alone a x out e = by (variable_cases class a x (e ∙ sym (outside_stays x out)))
    where
      by : (a ≡ x) ⊎ AreTwo class a x → a ≡ x
      by (inl f) = f
      by (inr t) = absurd (not_outside x.base t.w (ap (λ z. z.base) t.second) out)

  covers_forth : LooselyCovers order inside lines (refined class lines)
  covers_forth = covers_by order inside lines (refined class lines) m (λ x l. refl) outside_stays
      (λ l c. given order (refined class lines) (map_line m l) (Contains-map (map_line m) lines l c))

  module _ (added : List Line) (out : All (IsOutside inside) added) where
    abbrev L : Line → Type 0
    L j = Loosely order (lines ++ added) j

    abbrev R : Line → Type 0
    R j = Loosely order (refined class lines ++ added) j

    -- a line of the second list comes from a line of the first
    abbrev Source : Line → Type 0
    Source l = (k : Line) × Contains (lines ++ added) k × (map_line m k ≡ l)

    source : (l : Line) → Contains (refined class lines ++ added) l → Source l
    source l c = by (Contains-append_cases (refined class lines) added l c)
      where
        by : Contains (refined class lines) l ⊎ Contains added l → Source l
        by (inl d) = let s : (k : Line) × Contains lines k × (map_line m k ≡ l) = Contains-map_source (map_line m) lines l d in
            (s.0, Contains-append_left lines added s.0 s.1, s.2)
        by (inr d) = (
          l,
          Contains-append_right lines added l d,
          map_line-fixed m l (λ x h. outside_stays x (All-contains (IsOutside inside) added l out d x h)),
        )

    -- what becomes a side of an added line is that side
    added_alone : (l : Line) (a x : Dtv) → Contains added l → HasSide l x → m a ≡ m x → a ≡ x
    added_alone l a x c h e =
        let o : inside x.base ≡ false = All-contains (IsOutside inside) added l out c x h in outside_alone a x o (e ∙ outside_stays x o)

    -- variables that become one have one shape
    one_shape : (a b : Dtv) → m a ≡ m b → L (Var a) → L (Same a b)
    one_shape a b e d = by (variable_cases class a b e)
      where
        of_two : (t : AreTwo class a b) → L (Var (of_exist t.v t.word)) → (t.v ≡ t.w) ⊎ Loosely order lines (Same (exist t.v) (exist t.w)) →
            L (Same (of_exist t.v t.word) (of_exist t.w t.word))
        of_two t f (inl g) = subst (λ n. L (Same (of_exist t.v t.word) (of_exist n t.word))) g (same_self f)
        of_two t f (inr s) = same_word order (lines ++ added) (exist t.v) (exist t.w) t.word (derives_left order lines added s) f

        by : (a ≡ b) ⊎ AreTwo class a b → L (Same a b)
        by (inl f) = subst (λ z. L (Same a z)) f (same_self d)
        by (inr t) = subst (λ z. L (Same z b)) (sym t.first) (subst (λ z. L (Same (of_exist t.v t.word) z)) (sym t.second)
            (of_two t (subst (λ z. L (Var z)) t.first d) (shapes order lines class is t.v t.w t.one)))

    one_there : (a b : Dtv) → m a ≡ m b → L (Var a) → L (Var b)
    one_there a b e d = side order (lines ++ added) (Same a b) b (one_shape a b e d) (inr refl)

    -- what lies above each variable that becomes the left one, and below each that becomes the right one
    abbrev Above : Dtv → Dtv → Type 0
    Above a y = (b : Dtv) × (m b ≡ y) × L (Sub a b)

    abbrev Beneath : Dtv → Dtv → Type 0
    Beneath x b = (a : Dtv) × (m a ≡ x) × L (Sub a b)

    -- what the first list derives of each variable that becomes one of the judgement
    abbrev IsCovered : Line → Type 0
    IsCovered (Var x) = (a : Dtv) → m a ≡ x → L (Var a)
    IsCovered (Same x y) = (a b : Dtv) → m a ≡ x → m b ≡ y → L (Same a b)
    IsCovered (Sub x y) = ((a : Dtv) → m a ≡ x → Above a y) × ((b : Dtv) → m b ≡ y → Beneath x b)
    IsCovered (Low k x) = (a : Dtv) → m a ≡ x → L (Low k a)
    IsCovered (Up x k) = (a : Dtv) → m a ≡ x → L (Up a k)

    -- each line once more, for each variable that becomes one of its sides
    line_above : (x y a : Dtv) → Contains (lines ++ added) (Sub x y) → m a ≡ m x → Above a (m y)
    line_above x y a c e = by (Contains-append_cases lines added (Sub x y) c)
      where
        by : Contains lines (Sub x y) ⊎ Contains added (Sub x y) → Above a (m y)
        by (inl d) = let s : (b : Dtv) × Contains lines (Sub a b) × (m b ≡ m y) = match_above lines class is x y a d e in
            (s.0, s.2, sub_line (Contains-append_left lines added (Sub a s.0) s.1))
        by (inr d) = (y, refl, subst (λ z. L (Sub z y)) (sym (added_alone (Sub x y) a x d (inl refl) e)) (sub_line c))

    line_beneath : (x y b : Dtv) → Contains (lines ++ added) (Sub x y) → m b ≡ m y → Beneath (m x) b
    line_beneath x y b c e = by (Contains-append_cases lines added (Sub x y) c)
      where
        by : Contains lines (Sub x y) ⊎ Contains added (Sub x y) → Beneath (m x) b
        by (inl d) = let s : (a : Dtv) × Contains lines (Sub a b) × (m a ≡ m x) = match_beneath lines class is x y b d e in
            (s.0, s.2, sub_line (Contains-append_left lines added (Sub s.0 b) s.1))
        by (inr d) = (x, refl, subst (λ z. L (Sub x z)) (sym (added_alone (Sub x y) b y d (inr refl) e)) (sub_line c))

    line_low : (k : ℕ) (x a : Dtv) → Contains (lines ++ added) (Low k x) → m a ≡ m x → L (Low k a)
    line_low k x a c e = by (Contains-append_cases lines added (Low k x) c)
      where
        by : Contains lines (Low k x) ⊎ Contains added (Low k x) → L (Low k a)
        by (inl d) = low_line (Contains-append_left lines added (Low k a) (match_low lines class is k x a d e))
        by (inr d) = subst (λ z. L (Low k z)) (sym (added_alone (Low k x) a x d refl e)) (low_line c)

    line_up : (x : Dtv) (k : ℕ) (a : Dtv) → Contains (lines ++ added) (Up x k) → m a ≡ m x → L (Up a k)
    line_up x k a c e = by (Contains-append_cases lines added (Up x k) c)
      where
        by : Contains lines (Up x k) ⊎ Contains added (Up x k) → L (Up a k)
        by (inl d) = up_line (Contains-append_left lines added (Up a k) (match_up lines class is x k a d e))
        by (inr d) = subst (λ z. L (Up z k)) (sym (added_alone (Up x k) a x d refl e)) (up_line c)

    side_there : (k : Line) (x : Dtv) → Contains (lines ++ added) k → HasSide k x → L (Var x)
    side_there k x c h = side order (lines ++ added) k x (given order (lines ++ added) k c) h

    covered_line : (k : Line) → Contains (lines ++ added) k → IsCovered (map_line m k)
    covered_line (Var x) c = λ a e. one_there x a (sym e) (side_there (Var x) x c refl)
    covered_line (Same x y) c = λ a b e f.
        same_chain (same_back (one_shape x a (sym e) (side_there (Same x y) x c (inl refl))))
        (same_chain (same_line c) (one_shape y b (sym f) (side_there (Same x y) y c (inr refl))))
    covered_line (Sub x y) c = (λ a e. line_above x y a c e, λ b f. line_beneath x y b c f)
    covered_line (Low k x) c = λ a e. line_low k x a c e
    covered_line (Up x k) c = λ a e. line_up x k a c e

    covered_given : (l : Line) → Contains (refined class lines ++ added) l → IsCovered l
    covered_given l c = let s : Source l = source l c in subst IsCovered s.2 (covered_line s.0 s.1)

    -- a side of a line of the second list
    abbrev SideSource : Dtv → Type 0
    SideSource x = (z : Dtv) × L (Var z) × (m z ≡ x)

    side_source : (l : Line) (x : Dtv) → Contains (refined class lines ++ added) l → HasSide l x → SideSource x
    side_source l x c h =
        let s : Source l = source l c in
        let t : (z : Dtv) × HasSide s.0 z × (m z ≡ x) = HasSide-map_line_source m s.0 x (subst (λ k. HasSide k x) (sym s.2) h) in
        (t.0, side_there s.0 t.0 s.1 t.1, t.2)

    covered_named : (l : Line) (x : Dtv) → Contains (refined class lines ++ added) l → HasSide l x → IsCovered (Var x)
    covered_named l x c h = λ a e. let s : SideSource x = side_source l x c h in one_there s.0 a (s.2 ∙ sym e) s.1

    -- each variable of what the second list derives becomes itself
    pub fixed : (x : Dtv) → R (Var x) → m x ≡ x
    fixed x d = λ i. record { base = still i; word = x.word }
      where
        at : (l : Line) (y : Dtv) → Contains (refined class lines ++ added) l → HasSide l y → moved class y.base ≡ y.base
        at l y c h = let s : SideSource y = side_source l y c h in
            subst (λ b. moved class b ≡ b) (ap (λ z. z.base) s.2) (moved_twice class is.own s.0.base)

        still : moved class x.base ≡ x.base
        still = hold order (refined class lines ++ added) (λ b. moved class b ≡ b) at (strict_of order (refined class lines ++ added) d)

    fixed_side : (j : Line) (x : Dtv) → R j → HasSide j x → m x ≡ x
    fixed_side j x d h = fixed x (side order (refined class lines ++ added) j x d h)

    there : (a x : Dtv) (l : Label) → IsCovered (Var (longer x l)) → m a ≡ x → L (Var (longer a l))
    there a x l d e = d (longer a l) (move_longer class a x l e)

    abbrev Shorter : Dtv → Dtv → Label → Type 0
    Shorter b y l = (z : Dtv) × (b ≡ longer z l) × (m z ≡ y)

    -- what a rule makes of what is covered, for each rule whose conclusion has a letter more
    letter : (x y : Dtv) (l : Label) → IsCovered (Same x y) → IsCovered (Var (longer x l)) → m x ≡ x → IsCovered (Var (longer y l))
    letter x y l d e still b f =
        let s : Shorter b y l = shorter class b y l f in
        subst (λ z. L (Var z)) (sym s.1) (same_letter l (d x s.0 still s.2) (there x x l e still))

    longer_same : (x y : Dtv) (l : Label) → IsCovered (Same x y) → IsCovered (Var (longer x l)) → IsCovered (Same (longer x l) (longer y l))
    longer_same x y l d e a b f g =
        let s : Shorter a x l = shorter class a x l f in
        let t : Shorter b y l = shorter class b y l g in
        subst (λ z. L (Same z b)) (sym s.1) (subst (λ z. L (Same (longer s.0 l) z)) (sym t.1)
        (same_longer l (d s.0 t.0 s.2 t.2) (there s.0 x l e s.2)))

    -- between variables with the letter more
    above_longer : (a x y : Dtv) (l : Label) → m a ≡ longer x l → ((z : Dtv) → m z ≡ x → (b : Dtv) × (m b ≡ y) × L (Sub (longer z l) (longer b l))) →
        Above a (longer y l)
    above_longer a x y l e go =
        let s : Shorter a x l = shorter class a x l e in
        let r : (b : Dtv) × (m b ≡ y) × L (Sub (longer s.0 l) (longer b l)) = go s.0 s.2 in
        (longer r.0 l, move_longer class r.0 y l r.1, subst (λ z. L (Sub z (longer r.0 l))) (sym s.1) r.2)

    beneath_longer : (b x y : Dtv) (l : Label) → m b ≡ longer y l → ((z : Dtv) → m z ≡ y → (a : Dtv) × (m a ≡ x) × L (Sub (longer a l) (longer z l))) →
        Beneath (longer x l) b
    beneath_longer b x y l e go =
        let s : Shorter b y l = shorter class b y l e in
        let r : (a : Dtv) × (m a ≡ x) × L (Sub (longer a l) (longer s.0 l)) = go s.0 s.2 in
        (longer r.0 l, move_longer class r.0 x l r.1, subst (λ z. L (Sub (longer r.0 l) z)) (sym s.1) r.2)

    pointer_above : (x a : Dtv) → IsCovered (Var (longer x Load)) → IsCovered (Var (longer x Store)) → m a ≡ longer x Store →
        Above a (longer x Load)
    pointer_above x a d e f =
        let s : Shorter a x Store = shorter class a x Store f in (
          longer s.0 Load,
          move_longer class s.0 x Load s.2,
          subst (λ z. L (Sub z (longer s.0 Load))) (sym s.1)
              (sub_pointer s.0 (there s.0 x Load d s.2) (there s.0 x Store e s.2)),
        )

    pointer_beneath : (x b : Dtv) → IsCovered (Var (longer x Load)) → IsCovered (Var (longer x Store)) → m b ≡ longer x Load →
        Beneath (longer x Store) b
    pointer_beneath x b d e f =
        let s : Shorter b x Load = shorter class b x Load f in (
          longer s.0 Store,
          move_longer class s.0 x Store s.2,
          subst (λ z. L (Sub (longer s.0 Store) z)) (sym s.1)
              (sub_pointer s.0 (there s.0 x Load d s.2) (there s.0 x Store e s.2)),
        )

    loose_above : (x a : Dtv) → IsCovered (Var (longer x Load)) → IsCovered (Var (longer x Store)) → m a ≡ longer x Load →
        Above a (longer x Store)
    loose_above x a d e f =
        let s : Shorter a x Load = shorter class a x Load f in (
          longer s.0 Store,
          move_longer class s.0 x Store s.2,
          subst (λ z. L (Sub z (longer s.0 Store))) (sym s.1)
              (loose_pointer s.0 (there s.0 x Load d s.2) (there s.0 x Store e s.2)),
        )

    loose_beneath : (x b : Dtv) → IsCovered (Var (longer x Load)) → IsCovered (Var (longer x Store)) → m b ≡ longer x Store →
        Beneath (longer x Load) b
    loose_beneath x b d e f =
        let s : Shorter b x Store = shorter class b x Store f in (
          longer s.0 Load,
          move_longer class s.0 x Load s.2,
          subst (λ z. L (Sub (longer s.0 Load) z)) (sym s.1)
              (loose_pointer s.0 (there s.0 x Load d s.2) (there s.0 x Store e s.2)),
        )

    -- what the second list derives is covered
    pub covered : {j : Line} → R j → IsCovered j
    covered (named l {x = x} c h) = covered_named l x c h
    covered (prefix {x = x} l d) = λ a e. prefix l (there a x l (covered d) e)
    covered (left_side d) = λ a e. left_side ((covered d).0 a e).2
    covered (right_side d) = λ b e. right_side ((covered d).1 b e).2
    covered (same_letter {x = x} {y = y} l d e) = letter x y l (covered d) (covered e) (fixed_side (Same x y) x d (inl refl))
    covered (same_line {x = x} {y = y} c) = covered_given (Same x y) c
    covered (same_sub {x = x} {y = y} d) = λ a b e f.
        let r : Above a y = (covered d).0 a e in same_chain (same_sub r.2) (one_shape r.0 b (r.1 ∙ sym f) (right_side r.2))
    covered (same_self d) = λ a b e f. one_shape a b (e ∙ sym f) (covered d a e)
    covered (same_back d) = λ a b e f. same_back (covered d b a f e)
    covered (same_chain {x = x} {y = y} d e) = λ a c f g.
        let still : m y ≡ y = fixed_side (Same x y) y d (inr refl) in same_chain (covered d a y f still) (covered e y c still g)
    covered (same_longer {x = x} {y = y} l d e) = longer_same x y l (covered d) (covered e)
    covered (sub_line {x = x} {y = y} c) = covered_given (Sub x y) c
    covered (sub_self d) = (λ a e. (a, e, sub_self (covered d a e)), λ b e. (b, e, sub_self (covered d b e)))
    covered (sub_chain {x = x} {y = y} {z = z} d e) = (
      λ a f. let r : Above a y = (covered d).0 a f in let s : Above r.0 z = (covered e).0 r.0 r.1 in (s.0, s.1, sub_chain r.2 s.2),
      λ c f. let r : Beneath y c = (covered e).1 c f in let s : Beneath x r.0 = (covered d).1 r.0 r.1 in (s.0, s.1, sub_chain s.2 r.2),
    )
    covered (sub_co {x = x} {y = y} l d e s) = (
      λ a f. above_longer a x y l f (λ z g. let r : Above z y = (covered d).0 z g in
          (r.0, r.1, sub_co l r.2 (there r.0 y l (covered e) r.1) s)),
      λ b f. beneath_longer b x y l f (λ z g. let r : Beneath x z = (covered d).1 z g in
          (r.0, r.1, sub_co l r.2 (there z y l (covered e) g) s)),
    )
    covered (sub_contra {x = x} {y = y} l d e s) = (
      λ b f. above_longer b y x l f (λ z g. let r : Beneath x z = (covered d).1 z g in
          (r.0, r.1, sub_contra l r.2 (there z y l (covered e) g) s)),
      λ a f. beneath_longer a y x l f (λ z g. let r : Above z y = (covered d).0 z g in
          (r.0, r.1, sub_contra l r.2 (there r.0 y l (covered e) r.1) s)),
    )
    covered (sub_pointer x d e) = (λ a f. pointer_above x a (covered d) (covered e) f, λ b f. pointer_beneath x b (covered d) (covered e) f)
    covered (loose_pointer x d e) = (λ a f. loose_above x a (covered d) (covered e) f, λ b f. loose_beneath x b (covered d) (covered e) f)
    covered (low_line {k = k} {x = x} c) = covered_given (Low k x) c
    covered (up_line {k = k} {x = x} c) = covered_given (Up x k) c
    covered (low_sub {x = x} {y = y} d e h) = λ b f. let r : Beneath x b = (covered e).1 b f in low_sub (covered d r.0 r.1) r.2 h
    covered (up_sub {x = x} {y = y} d e h) = λ a f. let r : Above a y = (covered d).0 a f in up_sub r.2 (covered e r.0 r.1) h

    judged : (j : Judge) → IsOutside inside (line_of j) → IsCovered (line_of j) → L (line_of j)
    judged (JudgeVar x) o c = c x (outside_stays x (o x refl))
    judged (JudgeSub x y) o c =
        let r : Above x y = c.0 x (outside_stays x (o x (inl refl))) in
        subst (λ z. L (Sub x z)) (outside_alone r.0 y (o y (inr refl)) r.1) r.2
    judged (JudgeLow k x) o c = c x (outside_stays x (o x refl))
    judged (JudgeUp x k) o c = c x (outside_stays x (o x refl))

  covers_back : LooselyCovers order inside (refined class lines) lines
  covers_back added j out o d = judged added out j o (covered added out d)

pub refined_alike_lem : RefinedAlikeLaw
refined_alike_lem order inside lines class inner is =
    (covers_forth order inside lines class inner is, covers_back order inside lines class inner is)
