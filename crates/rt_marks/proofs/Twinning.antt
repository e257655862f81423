-- What the outside derives loosely where the least of each class of twins is in the others' places, it derives so from the lines.
use Rattle.std.proofs.Common.{◌≡◌, ℕ, ◌⊎◌, inl, inr, List, ◌++◌, All, Contains, Bool, true, false, not, refl, ap, sym, subst, ◌∙◌}
use Rattle.std.proofs.lemmas.List.Elements.{Contains-append_left, Contains-append_right, Contains-append_cases, All-contains}
use Rattle.rt_base.proofs.Lists.{Contains-map, Contains-map_source}
use Rattle.rt_lines.specs.declared.label.Label.{Label}
use Rattle.rt_lines.specs.declared.label.Label.TheVariants.{Load, Store}
use Rattle.rt_lines.specs.declared.label.Variance.{Variance}
use Rattle.rt_lines.specs.declared.label.Variance.TheVariants.{Co, Contra}
use Rattle.rt_lines.specs.declared.variable.Base.{Base}
use Rattle.rt_lines.specs.declared.variable.Base.TheVariants.{Proc, Global, Exist, Outer}
use Rattle.rt_lines.specs.declared.variable.Dtv.{Dtv}
use Rattle.rt_lines.specs.declared.line.Line.{Line}
use Rattle.rt_lines.specs.declared.line.Line.TheVariants.{Var, Same, Sub, Low, Up}
use Rattle.rt_lines.specs.declared.line.Judge.{Judge}
use Rattle.rt_lines.specs.declared.line.Judge.TheVariants.{Var as JudgeVar, Sub as JudgeSub, Low as JudgeLow, Up as JudgeUp}
use Rattle.rt_lines.specs.Words.{label_variance, times, variance_of_word}
use Rattle.rt_lines.specs.Orders.{Below}
use Rattle.rt_rules.specs.Rules.{longer, extended, HasSide, line_of}
use Rattle.rt_loose.specs.Loose.{Loosely}
use Rattle.rt_loose.proofs.Loosely.{embed, strict_of}
use Rattle.rt_rules.proofs.Turned.{IsTurned as IsTurnedExactly, same_turned as same_turned_exactly}
use Rattle.rt_loose.specs.Loose.Loosely.{named, prefix, left_side, right_side, same_letter, same_line, same_sub, same_self, same_back}
use Rattle.rt_loose.specs.Loose.Loosely.{same_chain, same_longer, sub_line, sub_self, sub_chain, sub_co, sub_contra, sub_pointer, loose_pointer}
use Rattle.rt_loose.specs.Loose.Loosely.{low_line, up_line, low_sub, up_sub}
use Rattle.rt_rules.specs.Alike.{IsOutside, map_line}
use Rattle.rt_marks.specs.Outsides.{LooselyCovers}
use Rattle.rt_rules.specs.Put.{exist}
use Rattle.rt_marks.proofs.Carrying.{given, side}
use Rattle.rt_rules.proofs.Covering.{map_line-fixed}
use Rattle.rt_marks.proofs.Covering.{derives_left, covers_by}
use Rattle.rt_rules.proofs.LineSides.{HasSide-map_line_source}
use Rattle.rt_marks.proofs.Turned.{IsTurned, same_word, turned_word}
use Rattle.rt_refine.specs.Refinements.{of_exist, moved, move, refined}
use Rattle.rt_refine.proofs.Holding.{hold}
use Rattle.rt_refine.proofs.Classmates.{AreTwo, variable_cases, shorter, move_longer, moved_twice}
use Rattle.rt_twins.specs.Twinnings.{IsLeftUse, IsRightUse, IsTwinning}
use Rattle.rt_marks.specs.Laws.{TwinnedAlikeLaw}
use Rattle.rt_twins.specs.Inside.Parts.{leads}
use Rattle.rt_twins.proofs.Forms.{leads_left, leads_right, leads-co, leads-contra, Form, Lowest, Highest, chained, raised, lowered}
use Rattle.rt_twins.proofs.Forms.{reversed, some_of, some_low, some_high, lettered}
use Rattle.rt_twins.proofs.Matching.{match_above, match_beneath, match_both, match_low, match_up}
use Rattle.rt_twins.proofs.Bounding.{HaveBound, one_or_bounded}

-- a sign twice is none
times-self : (s : Variance) → times s s ≡ Co
times-self Co = refl
times-self Contra = refl

times-other : (s : Variance) → times s (times Contra s) ≡ Contra
times-other Co = refl
times-other Contra = refl

module _ (order : Below) (inside : Base → Bool) (lines : List Line) (sign : Variance) (class : ℕ → ℕ) (inner : (n : ℕ) → inside (Exist n) ≡ true)
    (is : IsTwinning sign lines class) where
  abbrev m : Dtv → Dtv
  m = move class

  -- no existential is outside
  not_outside : (b : Base) (n : ℕ) → b ≡ Exist n → inside b ≡ false → ⊥
  not_outside b n e f = let g : inside b ≡ true = subst (λ c. inside c ≡ true) (sym e) (inner n) in absurd (cc)

  outside_stays : (x : Dtv) → inside x.base ≡ false → m x ≡ x
  outside_stays x e = λ i. record { base = at x.base e i; word = x.word }
    where
      at : (b : Base) → inside b ≡ false → moved class b ≡ b
      at (Proc n) f = refl
      at (Global n) f = refl
      at (Exist n) f = absurd (not_outside (Exist n) n refl f)
      at (Outer n) f = refl

  -- what becomes an outside variable is that variable
  outside_alone : (a x : Dtv) → inside x.base ≡ false → m a ≡ x → a ≡ x
  outside_alone a x out e = by (variable_cases class a x (e ∙ sym (outside_stays x out)))
    where
      by : (a ≡ x) ⊎ AreTwo class a x → a ≡ x
      by (inl f) = f
      by (inr t) = absurd (not_outside x.base t.w (ap (λ z. z.base) t.second) out)

  covers_forth : LooselyCovers order inside lines (refined class lines)
  covers_forth = covers_by order inside lines (refined class lines) m (λ x l. refl) outside_stays
      (λ l c. given order (refined class lines) (map_line m l) (Contains-map (map_line m) lines l c))

  -- members of one class are one, or have one shape
  shapes : (v w : ℕ) → class v ≡ class w → (v ≡ w) ⊎ Loosely order lines (Same (exist v) (exist w))
  shapes v w e = by (one_or_bounded order lines sign class is v w e)
    where
      by : (v ≡ w) ⊎ HaveBound order lines sign (exist v) (exist w) → (v ≡ w) ⊎ Loosely order lines (Same (exist v) (exist w))
      by (inl f) = inl f
      by (inr h) = inr (same_chain (same_back (embed order lines (same_turned_exactly order lines sign h.bound (exist v) h.first)))
          (embed order lines (same_turned_exactly order lines sign h.bound (exist w) h.second)))

  module _ (added : List Line) (out : All (IsOutside inside) added) where
    abbrev L : Line → Type 0
    L j = Loosely order (lines ++ added) j

    abbrev R : Line → Type 0
    R j = Loosely order (refined class lines ++ added) j

    -- a line of the second list comes from a line of the first
    abbrev Source : Line → Type 0
    Source l = (k : Line) × Contains (lines ++ added) k × (map_line m k ≡ l)

    source : (l : Line) → Contains (refined class lines ++ added) l → Source l
    source l c = by (Contains-append_cases (refined class lines) added l c)
      where
        by : Contains (refined class lines) l ⊎ Contains added l → Source l
        by (inl d) = let s : (k : Line) × Contains lines k × (map_line m k ≡ l) = Contains-map_source (map_line m) lines l d in
            (s.0, Contains-append_left lines added s.0 s.1, s.2)
        by (inr d) = (
          l,
          Contains-append_right lines added l d,
          map_line-fixed m l (λ x h. outside_stays x (All-contains (IsOutside inside) added l out d x h)),
        )

    -- what becomes a side of an added line is that side
    added_alone : (l : Line) (a x : Dtv) → Contains added l → HasSide l x → m a ≡ m x → a ≡ x
    added_alone l a x c h e =
        let o : inside x.base ≡ false = All-contains (IsOutside inside) added l out c x h in outside_alone a x o (e ∙ outside_stays x o)

    -- variables that become one have one shape
    one_shape : (a b : Dtv) → m a ≡ m b → L (Var a) → L (Same a b)
    one_shape a b e d = by (variable_cases class a b e)
      where
        of_two : (t : AreTwo class a b) → L (Var (of_exist t.v t.word)) → (t.v ≡ t.w) ⊎ Loosely order lines (Same (exist t.v) (exist t.w)) →
            L (Same (of_exist t.v t.word) (of_exist t.w t.word))
        of_two t f (inl g) = subst (λ n. L (Same (of_exist t.v t.word) (of_exist n t.word))) g (same_self f)
        of_two t f (inr s) = same_word order (lines ++ added) (exist t.v) (exist t.w) t.word (derives_left order lines added s) f

        by : (a ≡ b) ⊎ AreTwo class a b → L (Same a b)
        by (inl f) = subst (λ z. L (Same a z)) f (same_self d)
        by (inr t) = subst (λ z. L (Same z b)) (sym t.first) (subst (λ z. L (Same (of_exist t.v t.word) z)) (sym t.second)
            (of_two t (subst (λ z. L (Var z)) t.first d) (shapes t.v t.w t.one)))

    one_there : (a b : Dtv) → m a ≡ m b → L (Var a) → L (Var b)
    one_there a b e d = side order (lines ++ added) (Same a b) b (one_shape a b e d) (inr refl)

    -- what becomes the variable
    abbrev At : Dtv → Dtv → Type 0
    At x a = m a ≡ x

    abbrev SubForm : Bool → Bool → Dtv → Dtv → Type 0
    SubForm p q x y = Form p q (At x) (At y) (λ a b. L (Sub a b))

    -- What the first list derives of what becomes a judgement's variables: of each that becomes one of them, or of some, by whether it leads
    -- on.
    abbrev IsCovered : Line → Type 0
    IsCovered (Var x) = (a : Dtv) → m a ≡ x → L (Var a)
    IsCovered (Same x y) = (a b : Dtv) → m a ≡ x → m b ≡ y → L (Same a b)
    IsCovered (Sub x y) = SubForm (leads sign x) (leads sign y) x y
    IsCovered (Low k x) = Lowest (leads sign x) (At x) (λ a. L (Low k a))
    IsCovered (Up x k) = Highest (leads sign x) (At x) (λ a. L (Up a k))

    -- a line of the first list, for what becomes one with its sides
    sub_form : (x y : Dtv) (p q : Bool) → leads sign x ≡ p → leads sign y ≡ q → Contains lines (Sub x y) → SubForm p q (m x) (m y)
    sub_form x y true true e f c = λ a h.
        let s = match_above sign lines class is x y a (leads_left sign x e) c h in
        (s.0, s.2.but_for, sub_line (Contains-append_left lines added (Sub a s.0) s.1))
    sub_form x y true false e f c = λ a b h i. sub_line (Contains-append_left lines added (Sub a b)
        (match_both sign lines class is x y a b (leads_left sign x e) (leads_right sign y f) c h i))
    sub_form x y false true e f c = (x, y, refl, refl, sub_line (Contains-append_left lines added (Sub x y) c))
    sub_form x y false false e f c = λ b i.
        let s = match_beneath sign lines class is x y b (leads_right sign y f) c i in
        (s.0, s.2.but_for, sub_line (Contains-append_left lines added (Sub s.0 b) s.1))

    -- what holds of the sides themselves, which are alone, holds in each form
    alone_form : (p q : Bool) (x y : Dtv) → ((a : Dtv) → m a ≡ m x → a ≡ x) → ((b : Dtv) → m b ≡ m y → b ≡ y) → L (Sub x y) →
        SubForm p q (m x) (m y)
    alone_form true true x y e f d = λ a h. (y, refl, subst (λ z. L (Sub z y)) (sym (e a h)) d)
    alone_form true false x y e f d = λ a b h i. subst (λ z. L (Sub z b)) (sym (e a h)) (subst (λ z. L (Sub x z)) (sym (f b i)) d)
    alone_form false true x y e f d = (x, y, refl, refl, d)
    alone_form false false x y e f d = λ b i. (x, refl, subst (λ z. L (Sub x z)) (sym (f b i)) d)

    covered_sub : (x y : Dtv) → Contains (lines ++ added) (Sub x y) → IsCovered (Sub (m x) (m y))
    covered_sub x y c = by (Contains-append_cases lines added (Sub x y) c)
      where
        by : Contains lines (Sub x y) ⊎ Contains added (Sub x y) → IsCovered (Sub (m x) (m y))
        by (inl d) = sub_form x y (leads sign x) (leads sign y) refl refl d
        by (inr d) = alone_form (leads sign x) (leads sign y) x y (λ a h. added_alone (Sub x y) a x d (inl refl) h)
            (λ b i. added_alone (Sub x y) b y d (inr refl) i) (sub_line c)

    low_form : (k : ℕ) (x : Dtv) (p : Bool) → leads sign x ≡ p → Contains lines (Low k x) → Lowest p (At (m x)) (λ a. L (Low k a))
    low_form k x true e c = (x, refl, low_line (Contains-append_left lines added (Low k x) c))
    low_form k x false e c = λ a h. low_line (Contains-append_left lines added (Low k a)
        (match_low sign lines class is k x a (leads_right sign x e) c h))

    low_alone : (p : Bool) (k : ℕ) (x : Dtv) → ((a : Dtv) → m a ≡ m x → a ≡ x) → L (Low k x) → Lowest p (At (m x)) (λ a. L (Low k a))
    low_alone true k x e d = (x, refl, d)
    low_alone false k x e d = λ a h. subst (λ z. L (Low k z)) (sym (e a h)) d

    covered_low : (k : ℕ) (x : Dtv) → Contains (lines ++ added) (Low k x) → IsCovered (Low k (m x))
    covered_low k x c = by (Contains-append_cases lines added (Low k x) c)
      where
        by : Contains lines (Low k x) ⊎ Contains added (Low k x) → IsCovered (Low k (m x))
        by (inl d) = low_form k x (leads sign x) refl d
        by (inr d) = low_alone (leads sign x) k x (λ a h. added_alone (Low k x) a x d refl h) (low_line c)

    up_form : (x : Dtv) (k : ℕ) (p : Bool) → leads sign x ≡ p → Contains lines (Up x k) → Highest p (At (m x)) (λ a. L (Up a k))
    up_form x k true e c = λ a h. up_line (Contains-append_left lines added (Up a k)
        (match_up sign lines class is x k a (leads_left sign x e) c h))
    up_form x k false e c = (x, refl, up_line (Contains-append_left lines added (Up x k) c))

    up_alone : (p : Bool) (x : Dtv) (k : ℕ) → ((a : Dtv) → m a ≡ m x → a ≡ x) → L (Up x k) → Highest p (At (m x)) (λ a. L (Up a k))
    up_alone true x k e d = λ a h. subst (λ z. L (Up z k)) (sym (e a h)) d
    up_alone false x k e d = (x, refl, d)

    covered_up : (x : Dtv) (k : ℕ) → Contains (lines ++ added) (Up x k) → IsCovered (Up (m x) k)
    covered_up x k c = by (Contains-append_cases lines added (Up x k) c)
      where
        by : Contains lines (Up x k) ⊎ Contains added (Up x k) → IsCovered (Up (m x) k)
        by (inl d) = up_form x k (leads sign x) refl d
        by (inr d) = up_alone (leads sign x) x k (λ a h. added_alone (Up x k) a x d refl h) (up_line c)

    side_there : (k : Line) (x : Dtv) → Contains (lines ++ added) k → HasSide k x → L (Var x)
    side_there k x c h = side order (lines ++ added) k x (given order (lines ++ added) k c) h

    covered_line : (k : Line) → Contains (lines ++ added) k → IsCovered (map_line m k)
    covered_line (Var x) c = λ a e. one_there x a (sym e) (side_there (Var x) x c refl)
    covered_line (Same x y) c = λ a b e f.
        same_chain (same_back (one_shape x a (sym e) (side_there (Same x y) x c (inl refl))))
        (same_chain (same_line c) (one_shape y b (sym f) (side_there (Same x y) y c (inr refl))))
    covered_line (Sub x y) c = covered_sub x y c
    covered_line (Low k x) c = covered_low k x c
    covered_line (Up x k) c = covered_up x k c

    covered_given : (l : Line) → Contains (refined class lines ++ added) l → IsCovered l
    covered_given l c = let s : Source l = source l c in subst IsCovered s.2 (covered_line s.0 s.1)

    -- a side of a line of the second list
    abbrev SideSource : Dtv → Type 0
    SideSource x = (z : Dtv) × L (Var z) × (m z ≡ x)

    side_source : (l : Line) (x : Dtv) → Contains (refined class lines ++ added) l → HasSide l x → SideSource x
    side_source l x c h =
        let s : Source l = source l c in
        let t : (z : Dtv) × HasSide s.0 z × (m z ≡ x) = HasSide-map_line_source m s.0 x (subst (λ k. HasSide k x) (sym s.2) h) in
        (t.0, side_there s.0 t.0 s.1 t.1, t.2)

    covered_named : (l : Line) (x : Dtv) → Contains (refined class lines ++ added) l → HasSide l x → IsCovered (Var x)
    covered_named l x c h = λ a e. let s : SideSource x = side_source l x c h in one_there s.0 a (s.2 ∙ sym e) s.1

    -- each variable of what the second list derives becomes itself
    pub fixed : (x : Dtv) → R (Var x) → m x ≡ x
    fixed x d = λ i. record { base = still i; word = x.word }
      where
        at : (l : Line) (y : Dtv) → Contains (refined class lines ++ added) l → HasSide l y → moved class y.base ≡ y.base
        at l y c h = let s : SideSource y = side_source l y c h in
            subst (λ b. moved class b ≡ b) (ap (λ z. z.base) s.2) (moved_twice class is.own s.0.base)

        still : moved class x.base ≡ x.base
        still = hold order (refined class lines ++ added) (λ b. moved class b ≡ b) at (strict_of order (refined class lines ++ added) d)

    fixed_side : (j : Line) (x : Dtv) → R j → HasSide j x → m x ≡ x
    fixed_side j x d h = fixed x (side order (refined class lines ++ added) j x d h)

    there : (a x : Dtv) (l : Label) → IsCovered (Var (longer x l)) → m a ≡ x → L (Var (longer a l))
    there a x l d e = d (longer a l) (move_longer class a x l e)

    abbrev Shorter : Dtv → Dtv → Label → Type 0
    Shorter b y l = (z : Dtv) × (b ≡ longer z l) × (m z ≡ y)

    letter : (x y : Dtv) (l : Label) → IsCovered (Same x y) → IsCovered (Var (longer x l)) → m x ≡ x → IsCovered (Var (longer y l))
    letter x y l d e still b f =
        let s : Shorter b y l = shorter class b y l f in
        subst (λ z. L (Var z)) (sym s.1) (same_letter l (d x s.0 still s.2) (there x x l e still))

    longer_same : (x y : Dtv) (l : Label) → IsCovered (Same x y) → IsCovered (Var (longer x l)) → IsCovered (Same (longer x l) (longer y l))
    longer_same x y l d e a b f g =
        let s : Shorter a x l = shorter class a x l f in
        let t : Shorter b y l = shorter class b y l g in
        subst (λ z. L (Same z b)) (sym s.1) (subst (λ z. L (Same (longer s.0 l) z)) (sym t.1)
        (same_longer l (d s.0 t.0 s.2 t.2) (there s.0 x l e s.2)))

    -- between some two that become the sides
    abbrev SomeSub : Dtv → Dtv → Type 0
    SomeSub x y = (a : Dtv) × (b : Dtv) × (m a ≡ x) × (m b ≡ y) × L (Sub a b)

    some_sub : (x y : Dtv) → R (Sub x y) → IsCovered (Sub x y) → SomeSub x y
    some_sub x y d f = some_of (leads sign x) (leads sign y) (At x) (At y) (λ a b. L (Sub a b)) x y (fixed_side (Sub x y) x d (inl refl))
        (fixed_side (Sub x y) y d (inr refl)) f

    covered_left : (x y : Dtv) → SomeSub x y → IsCovered (Var x)
    covered_left x y s = λ a e. one_there s.0 a (s.2 ∙ sym e) (left_side s.4)

    covered_right : (x y : Dtv) → SomeSub x y → IsCovered (Var y)
    covered_right x y s = λ b e. one_there s.1 b (s.3 ∙ sym e) (right_side s.4)

    covered_same : (x y : Dtv) → SomeSub x y → IsCovered (Same x y)
    covered_same x y s = λ a b e f.
        same_chain (one_shape a s.0 (e ∙ sym s.2) (one_there s.0 a (s.2 ∙ sym e) (left_side s.4)))
        (same_chain (same_sub s.4) (one_shape s.1 b (s.3 ∙ sym f) (right_side s.4)))

    covered_self : (x : Dtv) (p : Bool) → IsCovered (Var x) → SubForm p p x x
    covered_self x true d = λ a e. (a, e, sub_self (d a e))
    covered_self x false d = λ b e. (b, e, sub_self (d b e))

    covered_chain : (x y z : Dtv) → IsCovered (Sub x y) → IsCovered (Sub y z) → IsCovered (Sub x z)
    covered_chain x y z d e = chained (leads sign x) (leads sign y) (leads sign z) (At x) (At y) (At z) (λ a b. L (Sub a b)) (λ a b. L (Sub a b))
        (λ a b. L (Sub a b)) (λ a b c f g. sub_chain f g) d e

    covered_co : (x y : Dtv) (l : Label) → label_variance l ≡ Co → IsCovered (Sub x y) → IsCovered (Var (longer y l)) →
        IsCovered (Sub (longer x l) (longer y l))
    covered_co x y l e d f =
        rw (leads-co sign x l e, leads-co sign y l e)
        (lettered l (leads sign x) (leads sign y) (At x) (At y) (At (longer x l)) (At (longer y l)) (λ a b. L (Sub a b)) (λ a b. L (Sub a b))
        (λ a h. shorter class a x l h) (λ b i. shorter class b y l i) (λ a h. move_longer class a x l h) (λ b i. move_longer class b y l i)
        (λ a b a' b' h i r g k. subst (λ z. L (Sub z b')) (sym g) (subst (λ z. L (Sub (longer a l) z)) (sym k)
        (sub_co l r (there b y l f i) e))) d)

    covered_contra : (x y : Dtv) (l : Label) → label_variance l ≡ Contra → IsCovered (Sub x y) → IsCovered (Var (longer y l)) →
        IsCovered (Sub (longer y l) (longer x l))
    covered_contra x y l e d f =
        rw (leads-contra sign x l e, leads-contra sign y l e)
        (lettered l (not (leads sign y)) (not (leads sign x)) (At y) (At x) (At (longer y l)) (At (longer x l)) (λ b a. L (Sub a b))
        (λ a b. L (Sub a b))
        (λ b i. shorter class b y l i) (λ a h. shorter class a x l h) (λ b i. move_longer class b y l i) (λ a h. move_longer class a x l h)
        (λ b a b' a' i h r k g. subst (λ z. L (Sub z a')) (sym k) (subst (λ z. L (Sub (longer b l) z)) (sym g)
        (sub_contra l r (there b y l f i) e)))
        (reversed (leads sign x) (leads sign y) (At x) (At y) (λ a b. L (Sub a b)) d))

    -- Variables that become one and don't lead on have something below both, so what is stored through the one lies below what is loaded
    -- through the other.
    turns : (a b : Dtv) → leads sign a ≡ false → m a ≡ m b → L (Var (longer a Load)) → L (Var (longer a Store)) → L (Var (longer b Load)) →
        L (Sub (longer a Store) (longer b Load))
    turns a b e f load store other = by (variable_cases class a b f)
      where
        of_bound : (t : AreTwo class a b) → HaveBound order lines sign (exist t.v) (exist t.w) → L (Sub (longer a Store) (longer b Load))
        of_bound t h =
            let u : Dtv = extended h.bound t.word in
            let sign_is : times sign (variance_of_word t.word) ≡ Co =
            ap (times sign) (subst (λ z. IsRightUse sign z.word) t.first (leads_right sign a e)) ∙ times-self sign in
            let there_a : L (Var (of_exist t.v t.word)) = subst (λ z. L (Var z)) t.first (prefix Load load) in
            let there_b : L (Var (of_exist t.w t.word)) = subst (λ z. L (Var z)) t.second (prefix Load other) in
            let below_a : L (Sub u (of_exist t.v t.word)) =
            subst (λ s. IsTurned order (lines ++ added) s u (of_exist t.v t.word)) sign_is
            (turned_word order (lines ++ added) sign h.bound (exist t.v) t.word (turned_more sign h.bound (exist t.v) h.first) there_a) in
            let below_b : L (Sub u (of_exist t.w t.word)) =
            subst (λ s. IsTurned order (lines ++ added) s u (of_exist t.w t.word)) sign_is
            (turned_word order (lines ++ added) sign h.bound (exist t.w) t.word (turned_more sign h.bound (exist t.w) h.second) there_b) in
            let below : L (Sub u a) = subst (λ z. L (Sub u z)) (sym t.first) below_a in
            let beneath : L (Sub u b) = subst (λ z. L (Sub u z)) (sym t.second) below_b in
            let u_load : L (Var (longer u Load)) = same_letter Load (same_back (same_sub below)) load in
            let u_store : L (Var (longer u Store)) = same_letter Store (same_back (same_sub below)) store in
            sub_chain (sub_contra Store below store refl) (sub_chain (sub_pointer u u_load u_store) (sub_co Load beneath other refl))
          where
            turned_more : (s : Variance) (x y : Dtv) → IsTurnedExactly order lines s x y → IsTurned order (lines ++ added) s x y
            turned_more Co x y d = derives_left order lines added (embed order lines d)
            turned_more Contra x y d = derives_left order lines added (embed order lines d)

        by : (a ≡ b) ⊎ AreTwo class a b → L (Sub (longer a Store) (longer b Load))
        by (inl g) = subst (λ z. L (Sub (longer a Store) (longer z Load))) g (sub_pointer a load store)
        by (inr t) = cases (one_or_bounded order lines sign class is t.v t.w t.one)
          where
            cases : (t.v ≡ t.w) ⊎ HaveBound order lines sign (exist t.v) (exist t.w) → L (Sub (longer a Store) (longer b Load))
            cases (inl g) =
                let h : a ≡ b = t.first ∙ ap (λ n. of_exist n t.word) g ∙ sym t.second in
                subst (λ z. L (Sub (longer a Store) (longer z Load))) h (sub_pointer a load store)
            cases (inr h) = of_bound t h

    -- Those that lead on have something above both, so what is loaded through the one lies loosely below what is stored through the other.
    loose_turns : (a b : Dtv) → leads sign a ≡ true → m a ≡ m b → L (Var (longer a Load)) → L (Var (longer a Store)) → L (Var (longer b Store)) →
        L (Sub (longer a Load) (longer b Store))
    loose_turns a b e f load store other = by (variable_cases class a b f)
      where
        of_bound : (t : AreTwo class a b) → HaveBound order lines sign (exist t.v) (exist t.w) → L (Sub (longer a Load) (longer b Store))
        of_bound t h =
            let u : Dtv = extended h.bound t.word in
            let sign_is : times sign (variance_of_word t.word) ≡ Contra =
            ap (times sign) (subst (λ z. IsLeftUse sign z.word) t.first (leads_left sign a e)) ∙ times-other sign in
            let there_a : L (Var (of_exist t.v t.word)) = subst (λ z. L (Var z)) t.first (prefix Load load) in
            let there_b : L (Var (of_exist t.w t.word)) = subst (λ z. L (Var z)) t.second (prefix Store other) in
            let above_a : L (Sub (of_exist t.v t.word) u) =
            subst (λ s. IsTurned order (lines ++ added) s u (of_exist t.v t.word)) sign_is
            (turned_word order (lines ++ added) sign h.bound (exist t.v) t.word (turned_more sign h.bound (exist t.v) h.first) there_a) in
            let above_b : L (Sub (of_exist t.w t.word) u) =
            subst (λ s. IsTurned order (lines ++ added) s u (of_exist t.w t.word)) sign_is
            (turned_word order (lines ++ added) sign h.bound (exist t.w) t.word (turned_more sign h.bound (exist t.w) h.second) there_b) in
            let above : L (Sub a u) = subst (λ z. L (Sub z u)) (sym t.first) above_a in
            let over : L (Sub b u) = subst (λ z. L (Sub z u)) (sym t.second) above_b in
            let u_load : L (Var (longer u Load)) = same_letter Load (same_sub above) load in
            let u_store : L (Var (longer u Store)) = same_letter Store (same_sub above) store in
            sub_chain (sub_co Load above u_load refl) (sub_chain (loose_pointer u u_load u_store) (sub_contra Store over u_store refl))
          where
            turned_more : (s : Variance) (x y : Dtv) → IsTurnedExactly order lines s x y → IsTurned order (lines ++ added) s x y
            turned_more Co x y d = derives_left order lines added (embed order lines d)
            turned_more Contra x y d = derives_left order lines added (embed order lines d)

        by : (a ≡ b) ⊎ AreTwo class a b → L (Sub (longer a Load) (longer b Store))
        by (inl g) = subst (λ z. L (Sub (longer a Load) (longer z Store))) g (loose_pointer a load store)
        by (inr t) = cases (one_or_bounded order lines sign class is t.v t.w t.one)
          where
            cases : (t.v ≡ t.w) ⊎ HaveBound order lines sign (exist t.v) (exist t.w) → L (Sub (longer a Load) (longer b Store))
            cases (inl g) =
                let h : a ≡ b = t.first ∙ ap (λ n. of_exist n t.word) g ∙ sym t.second in
                subst (λ z. L (Sub (longer a Load) (longer z Store))) h (loose_pointer a load store)
            cases (inr h) = of_bound t h

    loose_form : (x : Dtv) (p : Bool) → leads sign x ≡ p → m x ≡ x → IsCovered (Var (longer x Load)) → IsCovered (Var (longer x Store)) →
        SubForm p (not p) (longer x Load) (longer x Store)
    loose_form x false e still d f = (
      longer x Load,
      longer x Store,
      move_longer class x x Load still,
      move_longer class x x Store still,
      loose_pointer x (there x x Load d still) (there x x Store f still),
    )
    loose_form x true e still d f = λ a b h i.
        let s : Shorter a x Load = shorter class a x Load h in
        let t : Shorter b x Store = shorter class b x Store i in
        subst (λ z. L (Sub z b)) (sym s.1) (subst (λ z. L (Sub (longer s.0 Load) z)) (sym t.1)
        (loose_turns s.0 t.0 (of_moved s.0 s.2) (s.2 ∙ sym t.2) (there s.0 x Load d s.2) (there s.0 x Store f s.2) (there t.0 x Store f t.2)))
      where
        of_moved : (z : Dtv) → m z ≡ x → leads sign z ≡ true
        of_moved z g = ap (leads sign) g ∙ e

    covered_loose : (x : Dtv) → m x ≡ x → IsCovered (Var (longer x Load)) → IsCovered (Var (longer x Store)) →
        IsCovered (Sub (longer x Load) (longer x Store))
    covered_loose x still d f =
        rw (leads-contra sign x Store refl, leads-co sign x Load refl) (loose_form x (leads sign x) refl still d f)

    pointer_form : (x : Dtv) (p : Bool) → leads sign x ≡ p → m x ≡ x → IsCovered (Var (longer x Load)) → IsCovered (Var (longer x Store)) →
        SubForm (not p) p (longer x Store) (longer x Load)
    pointer_form x true e still d f = (
      longer x Store,
      longer x Load,
      move_longer class x x Store still,
      move_longer class x x Load still,
      sub_pointer x (there x x Load d still) (there x x Store f still),
    )
    pointer_form x false e still d f = λ a b h i.
        let s : Shorter a x Store = shorter class a x Store h in
        let t : Shorter b x Load = shorter class b x Load i in
        subst (λ z. L (Sub z b)) (sym s.1) (subst (λ z. L (Sub (longer s.0 Store) z)) (sym t.1)
        (turns s.0 t.0 (of_moved s.0 s.2) (s.2 ∙ sym t.2) (there s.0 x Load d s.2) (there s.0 x Store f s.2) (there t.0 x Load d t.2)))
      where
        of_moved : (z : Dtv) → m z ≡ x → leads sign z ≡ false
        of_moved z g = ap (leads sign) g ∙ e

    covered_pointer : (x : Dtv) → m x ≡ x → IsCovered (Var (longer x Load)) → IsCovered (Var (longer x Store)) →
        IsCovered (Sub (longer x Store) (longer x Load))
    covered_pointer x still d f =
        rw (leads-contra sign x Store refl, leads-co sign x Load refl) (pointer_form x (leads sign x) refl still d f)

    covered_low_sub : (j k : ℕ) (x y : Dtv) → ((a b : Dtv) → L (Low k a) → L (Sub a b) → L (Low j b)) → IsCovered (Low k x) → IsCovered (Sub x y) →
        IsCovered (Low j y)
    covered_low_sub j k x y go d e = raised (leads sign x) (leads sign y) (At x) (At y) (λ a. L (Low k a)) (λ a b. L (Sub a b)) (λ b. L (Low j b))
        go d e

    covered_up_sub : (j k : ℕ) (x y : Dtv) → ((a b : Dtv) → L (Sub a b) → L (Up b k) → L (Up a j)) → IsCovered (Sub x y) → IsCovered (Up y k) →
        IsCovered (Up x j)
    covered_up_sub j k x y go d e = lowered (leads sign x) (leads sign y) (At x) (At y) (λ a b. L (Sub a b)) (λ b. L (Up b k)) (λ a. L (Up a j))
        go d e

    -- what the second list derives is covered
    pub covered : {j : Line} → R j → IsCovered j
    covered (named l {x = x} c h) = covered_named l x c h
    covered (prefix {x = x} l d) = λ a e. prefix l (there a x l (covered d) e)
    covered (left_side {x = x} {y = y} d) = covered_left x y (some_sub x y d (covered d))
    covered (right_side {x = x} {y = y} d) = covered_right x y (some_sub x y d (covered d))
    covered (same_letter {x = x} {y = y} l d e) = letter x y l (covered d) (covered e) (fixed_side (Same x y) x d (inl refl))
    covered (same_line {x = x} {y = y} c) = covered_given (Same x y) c
    covered (same_sub {x = x} {y = y} d) = covered_same x y (some_sub x y d (covered d))
    covered (same_self d) = λ a b e f. one_shape a b (e ∙ sym f) (covered d a e)
    covered (same_back d) = λ a b e f. same_back (covered d b a f e)
    covered (same_chain {x = x} {y = y} d e) = λ a c f g.
        let still : m y ≡ y = fixed_side (Same x y) y d (inr refl) in same_chain (covered d a y f still) (covered e y c still g)
    covered (same_longer {x = x} {y = y} l d e) = longer_same x y l (covered d) (covered e)
    covered (sub_line {x = x} {y = y} c) = covered_given (Sub x y) c
    covered (sub_self {x = x} d) = covered_self x (leads sign x) (covered d)
    covered (sub_chain {x = x} {y = y} {z = z} d e) = covered_chain x y z (covered d) (covered e)
    covered (sub_co {x = x} {y = y} l d e s) = covered_co x y l s (covered d) (covered e)
    covered (sub_contra {x = x} {y = y} l d e s) = covered_contra x y l s (covered d) (covered e)
    covered (sub_pointer x d e) = covered_pointer x (fixed x (prefix Load d)) (covered d) (covered e)
    covered (loose_pointer x d e) = covered_loose x (fixed x (prefix Load d)) (covered d) (covered e)
    covered (low_line {k = k} {x = x} c) = covered_given (Low k x) c
    covered (up_line {k = k} {x = x} c) = covered_given (Up x k) c
    covered (low_sub {j = j} {k = k} {x = x} {y = y} d e h) = covered_low_sub j k x y (λ a b f g. low_sub f g h) (covered d) (covered e)
    covered (up_sub {j = j} {k = k} {x = x} {y = y} d e h) = covered_up_sub j k x y (λ a b f g. up_sub f g h) (covered d) (covered e)

    judged : (j : Judge) → R (line_of j) → IsOutside inside (line_of j) → IsCovered (line_of j) → L (line_of j)
    judged (JudgeVar x) d o c = c x (outside_stays x (o x refl))
    judged (JudgeSub x y) d o c =
        let s : SomeSub x y = some_sub x y d c in
        subst (λ z. L (Sub z y)) (outside_alone s.0 x (o x (inl refl)) s.2)
        (subst (λ z. L (Sub s.0 z)) (outside_alone s.1 y (o y (inr refl)) s.3) s.4)
    judged (JudgeLow k x) d o c =
        let s : (a : Dtv) × (m a ≡ x) × L (Low k a) =
        some_low (leads sign x) (At x) (λ a. L (Low k a)) x (outside_stays x (o x refl)) c in
        subst (λ z. L (Low k z)) (outside_alone s.0 x (o x refl) s.1) s.2
    judged (JudgeUp x k) d o c =
        let s : (a : Dtv) × (m a ≡ x) × L (Up a k) =
        some_high (leads sign x) (At x) (λ a. L (Up a k)) x (outside_stays x (o x refl)) c in
        subst (λ z. L (Up z k)) (outside_alone s.0 x (o x refl) s.1) s.2

  covers_back : LooselyCovers order inside (refined class lines) lines
  covers_back added j out o d = judged added out j d o (covered added out d)

pub twinned_alike_lem : TwinnedAlikeLaw
twinned_alike_lem order inside lines sign class inner is =
    (covers_forth order inside lines sign class inner is, covers_back order inside lines sign class inner is)
