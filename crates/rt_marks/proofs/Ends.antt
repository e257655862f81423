-- An idle existential: what a loose judgement says without the lines in which it stands.
use Rattle.std.proofs.Common.{◌≡◌, ◌≢◌, ℕ, zero, suc, ◌+◌, ◌-◌, ◌<◌, ◌≤◌, ◌⊎◌, inl, inr, List, [], ◌∷◌, ◌++◌, map, Contains}
use Rattle.std.proofs.Common.{refl, ap, sym, ◌∙◌, subst, arith, append_assoc, append-nil}
use Rattle.std.proofs.lemmas.Bool.{cases_lt}
use Rattle.rt_base.proofs.Lists.{map-push}
use Rattle.rt_lines.specs.declared.label.Label.{Label}
use Rattle.rt_lines.specs.declared.label.Label.TheVariants.{Load, Store}
use Rattle.rt_lines.specs.declared.label.Variance.TheVariants.{Co, Contra}
use Rattle.rt_lines.specs.declared.variable.Base.{Base}
use Rattle.rt_lines.specs.declared.variable.Base.TheVariants.{Exist}
use Rattle.rt_lines.specs.declared.variable.Dtv.{Dtv}
use Rattle.rt_lines.specs.declared.line.Line.{Line}
use Rattle.rt_lines.specs.declared.line.Line.TheVariants.{Var as VarLine, Same, Sub, Low, Up}
use Rattle.rt_lines.specs.Words.{label_variance}
use Rattle.rt_lines.specs.Orders.{Below, IsAtOrBelow}
use Rattle.rt_rules.specs.Rules.{longer, HasSide}
use Rattle.rt_loose.specs.Loose.{Loosely}
use Rattle.rt_loose.specs.Loose.Loosely.{named, prefix, left_side, right_side, same_letter, same_line, same_sub, same_self, same_back}
use Rattle.rt_loose.specs.Loose.Loosely.{same_chain, same_longer, sub_line, sub_self, sub_chain, sub_co, sub_contra, sub_pointer, loose_pointer}
use Rattle.rt_loose.specs.Loose.Loosely.{low_line, up_line, low_sub, up_sub}
use Rattle.rt_marks.proofs.Carrying.{side, are_there}
use Rattle.rt_rules.proofs.Renaming.{one_base}
use Rattle.rt_bridge.specs.Growing.{Var, at, dot, dv, rest, vd}
use Rattle.rt_bridge.proofs.Growing.{dv-vd, vd-longer}
use Rattle.rt_trim.specs.Idle.{as_load, Begins, HasFlow, IsIdle}
use Rattle.rt_trim.specs.Idle.Begins.{nothing, letter}
use Rattle.rt_trim.proofs.Ends.{IsFlowOf, shape_of, base_of, depth, front, onto, loaded}

front-loaded : (j : ℕ) (y : Var) → front j (loaded y) ≡ loaded (front j y)
front-loaded zero y = refl
front-loaded (suc j) (at b) = refl
front-loaded (suc j) (dot y l) = front-loaded j y

front-base : (j : ℕ) (b : Base) → front j (at b) ≡ at b
front-base zero b = refl
front-base (suc j) b = refl

-- so many letters less, and so many less again
front_twice : (i j k : ℕ) (y : Var) → k ≡ j + i → front i (front j y) ≡ front k y
front_twice i zero k y e = let f : i ≡ k = omega (arith, e) in ap (λ m. front m y) f
front_twice i (suc j) zero y e = let f : ⊥ = omega (arith, e) in absurd f
front_twice i (suc j) (suc k) (at b) e = front-base i b
front_twice i (suc j) (suc k) (dot y l) e = front_twice i j k y (omega (arith, e))

-- the letters of a front begin the word
front_begins : (j : ℕ) (y : Var) → (t : List Label) × ((dv y).word ≡ (dv (front j y)).word ++ t)
front_begins zero y = ([], sym (append-nil (dv y).word))
front_begins (suc j) (at b) = ([], refl)
front_begins (suc j) (dot y l) =
    let p : (t : List Label) × ((dv y).word ≡ (dv (front j y)).word ++ t) = front_begins j y in
    (p.0 ++ l ∷ [], ap (λ w. w ++ l ∷ []) p.1 ∙ append_assoc (dv (front j y)).word p.0 (l ∷ []))

loaded_word : (y : Var) → (dv (loaded y)).word ≡ map as_load (dv y).word
loaded_word (at b) = refl
loaded_word (dot y l) = ap (λ w. w ++ as_load l ∷ []) (loaded_word y) ∙ sym (map-push as_load (dv y).word l)

begins_by : (u w t : List Label) → map as_load w ≡ map as_load u ++ t → Begins u w
begins_by [] w t e = nothing w
begins_by (k ∷ u) [] t e = cc
begins_by (k ∷ u) (l ∷ w) t e =
    let f : as_load k ≡ as_load l = cc in
    let g : map as_load w ≡ map as_load u ++ t = cc in
    letter k l u w f (begins_by u w t g)

-- of two words of which the one, but for loads and stores, is a front of the other, it begins the other
begins_by_front : (d : ℕ) (x y : Dtv) → loaded (vd x) ≡ front d (loaded (vd y)) → Begins x.word y.word
begins_by_front d x y e =
    let p : (t : List Label) × ((dv (loaded (vd y))).word ≡ (dv (front d (loaded (vd y)))).word ++ t) = front_begins d (loaded (vd y)) in
    begins_by x.word y.word p.0
    (sym (word_of y) ∙ (p.1 ∙ (ap (λ v. (dv v).word ++ p.0) (sym e) ∙ ap (λ w. w ++ p.0) (word_of x))))
  where
    word_of : (z : Dtv) → (dv (loaded (vd z))).word ≡ map as_load z.word
    word_of z = loaded_word (vd z) ∙ ap (λ v. map as_load v.word) (dv-vd z)

module _ (order : Below) (others : List Line) where
  abbrev pub D : Line → Type 0
  D j = Loosely order others j

  abbrev pub IsThere : Var → Type 0
  IsThere x = D (VarLine (dv x))

  abbrev pub AreSame : Var → Var → Type 0
  AreSame x y = D (Same (dv x) (dv y))

  abbrev pub AreBelow : Var → Var → Type 0
  AreBelow x y = D (Sub (dv x) (dv y))

  -- one below the other, by nothing but that there are loads and stores
  pub data ByShape : Var → Var → Type 0 where
    itself : {x : Var} → IsThere x → ByShape x x
    chain : {x y z : Var} → ByShape x y → ByShape y z → ByShape x z
    letter_co : {x y : Var} (l : Label) → ByShape x y → IsThere (dot y l) → label_variance l ≡ Co → ByShape (dot x l) (dot y l)
    letter_contra : {x y : Var} (l : Label) → ByShape x y → IsThere (dot y l) → label_variance l ≡ Contra →
        ByShape (dot y l) (dot x l)
    pointer : {x : Var} → IsThere (dot x Load) → IsThere (dot x Store) → ByShape (dot x Store) (dot x Load)
    pointer_back : {x : Var} → IsThere (dot x Load) → IsThere (dot x Store) → ByShape (dot x Load) (dot x Store)

  below_by_shape : {x y : Var} → ByShape x y → AreBelow x y
  below_by_shape (itself d) = sub_self d
  below_by_shape (chain f g) = sub_chain (below_by_shape f) (below_by_shape g)
  below_by_shape (letter_co l f d e) = sub_co l (below_by_shape f) d e
  below_by_shape (letter_contra l f d e) = sub_contra l (below_by_shape f) d e
  below_by_shape (pointer {x = x} d e) = sub_pointer (dv x) d e
  below_by_shape (pointer_back {x = x} d e) = loose_pointer (dv x) d e

  same_by_shape : {x y : Var} → ByShape x y → AreSame x y
  same_by_shape f = same_sub (below_by_shape f)

  base_by_shape : {x y : Var} → ByShape x y → base_of x ≡ base_of y
  base_by_shape (itself d) = refl
  base_by_shape (chain f g) = base_by_shape f ∙ base_by_shape g
  base_by_shape (letter_co l f d e) = base_by_shape f
  base_by_shape (letter_contra l f d e) = sym (base_by_shape f)
  base_by_shape (pointer d e) = refl
  base_by_shape (pointer_back d e) = refl

  depth_by_shape : {x y : Var} → ByShape x y → depth x ≡ depth y
  depth_by_shape (itself d) = refl
  depth_by_shape (chain f g) = depth_by_shape f ∙ depth_by_shape g
  depth_by_shape (letter_co l f d e) = ap suc (depth_by_shape f)
  depth_by_shape (letter_contra l f d e) = ap suc (sym (depth_by_shape f))
  depth_by_shape (pointer d e) = refl
  depth_by_shape (pointer_back d e) = refl

  loaded_by_shape : {x y : Var} → ByShape x y → loaded x ≡ loaded y
  loaded_by_shape (itself d) = refl
  loaded_by_shape (chain f g) = loaded_by_shape f ∙ loaded_by_shape g
  loaded_by_shape (letter_co l f d e) = ap (λ v. dot v (as_load l)) (loaded_by_shape f)
  loaded_by_shape (letter_contra l f d e) = ap (λ v. dot v (as_load l)) (sym (loaded_by_shape f))
  loaded_by_shape (pointer d e) = refl
  loaded_by_shape (pointer_back d e) = refl

  loaded_fronts : {x y : Var} → ByShape x y → (j : ℕ) → loaded (front j x) ≡ loaded (front j y)
  loaded_fronts {x = x} {y = y} f j = sym (front-loaded j x) ∙ (ap (front j) (loaded_by_shape f) ∙ front-loaded j y)

  front_there : (j : ℕ) (y : Var) → IsThere y → IsThere (front j y)
  front_there zero y d = d
  front_there (suc j) (at b) d = d
  front_there (suc j) (dot y l) d = front_there j y (prefix l d)

  same_fronts : {y z : Var} → ByShape y z → (j : ℕ) → AreSame (front j y) (front j z)
  same_fronts (itself {x = y} d) j = same_self (front_there j y d)
  same_fronts (chain f g) j = same_chain (same_fronts f j) (same_fronts g j)
  same_fronts (letter_co l f d e) zero = same_by_shape (letter_co l f d e)
  same_fronts (letter_co l f d e) (suc j) = same_fronts f j
  same_fronts (letter_contra l f d e) zero = same_by_shape (letter_contra l f d e)
  same_fronts (letter_contra l f d e) (suc j) = same_back (same_fronts f j)
  same_fronts (pointer {x = x} d e) zero = same_by_shape (pointer {x = x} d e)
  same_fronts (pointer {x = x} d e) (suc j) = same_self (front_there j x (prefix Load d))
  same_fronts (pointer_back {x = x} d e) zero = same_by_shape (pointer_back {x = x} d e)
  same_fronts (pointer_back {x = x} d e) (suc j) = same_self (front_there j x (prefix Load d))

  -- letters after x in the place of a front that has its shape
  module _ (x : Var) (there : IsThere x) where
    same_onto : (j : ℕ) (y : Var) → IsThere y → AreSame (front j y) x → AreSame y (onto x j y)
    same_onto zero y d e = e
    same_onto (suc j) (at b) d e = e
    same_onto (suc j) (dot y l) d e = same_longer l (same_onto j y (prefix l d) e) d

    onto_letter : (j : ℕ) (y : Var) (l : Label) → IsThere (dot y l) → AreSame (front j y) x → IsThere (dot (onto x j y) l)
    onto_letter j y l d e = same_letter l (same_onto j y (prefix l d) e) d

    onto_there : (j : ℕ) (y : Var) → IsThere y → AreSame (front j y) x → IsThere (onto x j y)
    onto_there j y d e = (are_there order others (same_onto j y d e)).1

    below_onto : {y z : Var} → ByShape y z → (j : ℕ) → AreSame (front j z) x → AreBelow (onto x j y) (onto x j z)
    below_onto (itself {x = y} d) j e = sub_self (onto_there j y d e)
    below_onto (chain f g) j e = sub_chain (below_onto f j (same_chain (same_fronts g j) e)) (below_onto g j e)
    below_onto (letter_co l f d s) zero e = sub_self there
    below_onto (letter_co {y = z} l f d s) (suc j) e = sub_co l (below_onto f j e) (onto_letter j z l d e) s
    below_onto (letter_contra l f d s) zero e = sub_self there
    below_onto (letter_contra {x = y} {y = z} l f d s) (suc j) e =
        let e' : AreSame (front j z) x = same_chain (same_back (same_fronts f j)) e in
        sub_contra l (below_onto f j e') (onto_letter j z l d e') s
    below_onto (pointer d d') zero e = sub_self there
    below_onto (pointer {x = y} d d') (suc j) e = sub_pointer (dv (onto x j y)) (onto_letter j y Load d e) (onto_letter j y Store d' e)
    below_onto (pointer_back d d') zero e = sub_self there
    below_onto (pointer_back {x = y} d d') (suc j) e = loose_pointer (dv (onto x j y)) (onto_letter j y Load d e) (onto_letter j y Store d' e)

  -- where the existential n is idle in the lines
  module _ (n : ℕ) (lines : List Line) (idle : IsIdle lines n) where
    abbrev pub own : List Label → Dtv
    own w = record { base = Exist n; word = w }

    -- the variable has so many letters more, but for loads and stores, than one of n that is a side of the line
    pub record Met (y : Var) (l : Line) (w : List Label) (j : ℕ) : Type 0 where
      pub stands : Contains lines l
      pub flow : HasFlow n w l
      pub like : loaded (front j y) ≡ loaded (vd (own w))
      pub count : depth y ≡ j + depth (vd (own w))

    begun : (y : Var) (l l' : Line) (w w' : List Label) (j j' : ℕ) → Met y l w j → Met y l' w' j' → j ≤ j' → Begins w' w
    begun y l l' w w' j j' m m' less = begins_by_front (j' - j) (own w') (own w)
        (sym m'.like ∙ (ap loaded (sym (front_twice (j' - j) j j' y all)) ∙
        (sym (front-loaded (j' - j) (front j y)) ∙ ap (front (j' - j)) m.like)))
      where
        all : j' ≡ j + (j' - j)
        all = omega (arith, less)

    one_line : (y : Var) (l l' : Line) (w w' : List Label) (j j' : ℕ) → Met y l w j → Met y l' w' j' → l ≡ l'
    one_line y l l' w w' j j' m m' = by (cases_lt j j')
      where
        by : (j < j') ⊎ (j' ≤ j) → l ≡ l'
        by (inl less) = sym (idle.apart l' l w' w m'.stands m.stands m'.flow m.flow (begun y l l' w w' j j' m m' (omega (arith, less))))
        by (inr less) = idle.apart l l' w w' m.stands m'.stands m.flow m'.flow (begun y l' l w' w j' j m' m less)

    -- the line puts the one variable beside that of n
    abbrev pub IsBeside : Line → List Label → Dtv → Type 0
    IsBeside l w x = (l ≡ Sub x (own w)) ⊎ (l ≡ Sub (own w) x)

    abbrev IsOneBeside : List Label → List Label → Dtv → Dtv → Type 0
    IsOneBeside w w' x x' = (w ≡ w') × (x ≡ x')

    both_sides : {A : Type 0} (l : Line) (u w : List Label) → Contains lines l → l ≡ Sub (own u) (own w) → A
    both_sides l u w c e = absurd (idle.one_side (own u) (own w) (subst (Contains lines) e c) refl refl)

    one_beside : (l : Line) (w w' : List Label) (x x' : Dtv) → Contains lines l → IsBeside l w x → IsBeside l w' x' →
        IsOneBeside w w' x x'
    one_beside l w w' x x' c (inl e) (inl e') = let f : own w ≡ own w' = cc in let g : x ≡ x' = cc in (ap (λ v. v.word) f, g)
    one_beside l w w' x x' c (inr e) (inr e') = let f : own w ≡ own w' = cc in let g : x ≡ x' = cc in (ap (λ v. v.word) f, g)
    one_beside l w w' x x' c (inl e) (inr e') = let f : l ≡ Sub (own w') (own w) = cc in both_sides l w' w c f
    one_beside l w w' x x' c (inr e) (inl e') = let f : l ≡ Sub (own w) (own w') = cc in both_sides l w w' c f

    other_beside : (l : Line) (w : List Label) (x : Dtv) → Contains lines l → IsBeside l w x → x.base ≢ Exist n
    other_beside l w x c (inl e) f = idle.one_side x (own w) (subst (Contains lines) e c) f refl
    other_beside l w x c (inr e) f = idle.one_side (own w) x (subst (Contains lines) e c) refl f

    -- a variable of another base stands for itself, one of n that has the letters behind one that a line puts beside x for x with them
    pub data StandsFor (y z : Var) : Type 0 where
      outer : base_of y ≢ Exist n → IsThere y → z ≡ y → StandsFor y z
      inner : (l : Line) (w : List Label) (x : Dtv) (j : ℕ) → Met y l w j → IsBeside l w x → base_of y ≡ Exist n → IsThere y →
          AreSame (front j y) (vd x) → z ≡ onto (vd x) j y → StandsFor y z

    same_stand : (y z : Var) → StandsFor y z → AreSame y z
    same_stand y z (outer apart d e) = subst (AreSame y) (sym e) (same_self d)
    same_stand y z (inner l w x j m b o d e f) = subst (AreSame y) (sym f) (same_onto (vd x) (are_there order others e).1 j y d e)

    one_count : (j k m d : ℕ) → d ≡ j + m → d ≡ k + m → j ≡ k
    one_count j k m d e f = omega (arith, e, f)

    one_inner : (y : Var) (l l' : Line) (w w' : List Label) (x x' : Dtv) (j j' : ℕ) → Met y l w j → Met y l' w' j' → IsBeside l w x →
        IsBeside l' w' x' → onto (vd x) j y ≡ onto (vd x') j' y
    one_inner y l l' w w' x x' j j' m m' b b' =
        let e : l ≡ l' = one_line y l l' w w' j j' m m' in
        let p : IsOneBeside w w' x x' =
        one_beside l w w' x x' m.stands b (subst (λ k. IsBeside k w' x') (sym e) b') in
        let f : j ≡ j' = one_count j j' (depth (vd (own w))) (depth y) m.count
        (subst (λ v. depth y ≡ j' + depth (vd (own v))) (sym p.0) m'.count) in
        ap (λ v. onto (vd v) j y) p.1 ∙ ap (λ i. onto (vd x') i y) f

    one_stand : (y z z' : Var) → StandsFor y z → StandsFor y z' → z ≡ z'
    one_stand y z z' (outer apart d e) (outer apart' d' e') = e ∙ sym e'
    one_stand y z z' (outer apart d e) (inner l w x j m b o d' same e') = absurd (apart o)
    one_stand y z z' (inner l w x j m b o d same e) (outer apart d' e') = absurd (apart o)
    one_stand y z z' (inner l w x j m b o d same e) (inner l' w' x' j' m' b' o' d' same' e') =
        e ∙ (one_inner y l l' w w' x x' j j' m m' b b' ∙ sym e')

    suc_count : (d j m : ℕ) → d ≡ j + m → suc d ≡ suc j + m
    suc_count d j m e = omega (arith, e)

    met_letter : (y : Var) (a : Label) (l : Line) (w : List Label) (j : ℕ) → Met y l w j → Met (dot y a) l w (suc j)
    met_letter y a l w j m =
        record { stands = m.stands; flow = m.flow; like = m.like; count = suc_count (depth y) j (depth (vd (own w))) m.count }

    met_like : (y z : Var) (l : Line) (w : List Label) (j : ℕ) → loaded (front j z) ≡ loaded (front j y) → depth z ≡ depth y → Met y l w j →
        Met z l w j
    met_like y z l w j e f m = record { stands = m.stands; flow = m.flow; like = e ∙ m.like; count = f ∙ m.count }

    stand_letter : (y z : Var) (a : Label) → IsThere (dot y a) → StandsFor y z → StandsFor (dot y a) (dot z a)
    stand_letter y z a d (outer apart d' e) = outer apart d (ap (λ v. dot v a) e)
    stand_letter y z a d (inner l w x j m b o d' same e) =
        inner l w x (suc j) (met_letter y a l w j m) b o d same (ap (λ v. dot v a) e)

    -- what stands for one of two variables of n that differ by shape alone, goes on to the other
    stand_up : (y z y' : Var) → base_of y ≡ Exist n → ByShape y z → StandsFor y y' → (z' : Var) × StandsFor z z' × AreBelow y' z'
    stand_up y z y' o f (outer apart d e) = absurd (apart o)
    stand_up y z y' o f (inner l w x j m b o' d same e) =
        let same' : AreSame (front j z) (vd x) = same_chain (same_back (same_fronts f j)) same in (
          onto (vd x) j z,
          inner l w x j (met_like y z l w j (sym (loaded_fronts f j)) (sym (depth_by_shape f)) m) b (sym (base_by_shape f) ∙ o)
              (are_there order others (same_by_shape f)).1 same' refl,
          subst (λ v. AreBelow v (onto (vd x) j z)) (sym e) (below_onto (vd x) (are_there order others same).1 f j same'),
        )

    stand_down : (y z z' : Var) → base_of y ≡ Exist n → ByShape y z → StandsFor z z' → (y' : Var) × StandsFor y y' × AreBelow y' z'
    stand_down y z z' o f (outer apart d e) = absurd (apart (sym (base_by_shape f) ∙ o))
    stand_down y z z' o f (inner l w x j m b o' d same e) = (
      onto (vd x) j y,
      inner l w x j (met_like z y l w j (loaded_fronts f j) (depth_by_shape f) m) b o
          (are_there order others (same_by_shape f)).0 (same_chain (same_fronts f j) same) refl,
      subst (AreBelow (onto (vd x) j y)) (sym e) (below_onto (vd x) (are_there order others same).1 f j same),
    )

    abbrev IsBound : Line → Type 0
    IsBound (VarLine x) = ⊥
    IsBound (Same x y) = ⊥
    IsBound (Sub x y) = ⊥
    IsBound (Low k x) = Unit {0}
    IsBound (Up x k) = Unit {0}

    -- a variable of n that has letters behind one that a bound is of: so no line leads on from it
    pub data AtBound (y : Var) : Type 0 where
      at_bound : (l : Line) (w : List Label) (j : ℕ) → Met y l w j → IsBound l → base_of y ≡ Exist n → IsThere y → AtBound y

    bound_there : (y : Var) → AtBound y → IsThere y
    bound_there y (at_bound l w j m b o d) = d

    bound_up : (y z : Var) → ByShape y z → AtBound y → AtBound z
    bound_up y z f (at_bound l w j m b o d) =
        at_bound l w j (met_like y z l w j (sym (loaded_fronts f j)) (sym (depth_by_shape f)) m) b (sym (base_by_shape f) ∙ o)
        (are_there order others (same_by_shape f)).1

    bound_down : (y z : Var) → ByShape y z → AtBound z → AtBound y
    bound_down y z f (at_bound l w j m b o d) =
        at_bound l w j (met_like z y l w j (loaded_fronts f j) (depth_by_shape f) m) b (base_by_shape f ∙ o)
        (are_there order others (same_by_shape f)).0

    no_bound_beside : (l l' : Line) (w : List Label) (x : Dtv) → IsBound l → l ≡ l' → IsBeside l' w x → ⊥
    no_bound_beside l l' w x b e (inl f) = subst IsBound (e ∙ f) b
    no_bound_beside l l' w x b e (inr f) = subst IsBound (e ∙ f) b

    bound_ends : (y z : Var) → AtBound y → StandsFor y z → ⊥
    bound_ends y z (at_bound l w j m b o d) (outer apart d' e) = apart o
    bound_ends y z (at_bound l w j m b o d) (inner l' w' x j' m' b' o' d' same e) =
        no_bound_beside l l' w' x b (one_line y l l' w w' j j' m m') b'

    -- two variables of n by shape alone, or any two by what stands for them
    pub data Flows (y z : Var) : Type 0 where
      within : base_of y ≡ Exist n → ByShape y z → Flows y z
      across : (y' z' : Var) → StandsFor y y' → StandsFor z z' → AreBelow y' z' → Flows y z

    same_flow : (y z : Var) → Flows y z → AreSame y z
    same_flow y z (within o f) = same_by_shape f
    same_flow y z (across y' z' s t d) = same_chain (same_stand y y' s) (same_chain (same_sub d) (same_back (same_stand z z' t)))

    flow_chain : (v y z : Var) → Flows v y → Flows y z → Flows v z
    flow_chain v y z (within o f) (within o' g) = within o (chain f g)
    flow_chain v y z (within o f) (across y' z' s t d) =
        let p : (v' : Var) × StandsFor v v' × AreBelow v' y' = stand_down v y y' o f s in
        across p.0 z' p.1 t (sub_chain p.2 d)
    flow_chain v y z (across v' y' s t d) (within o g) =
        let p : (z' : Var) × StandsFor z z' × AreBelow y' z' = stand_up y z y' o g t in
        across v' p.0 s p.1 (sub_chain d p.2)
    flow_chain v y z (across v' y' s t d) (across y2 z' s' t' d') =
        across v' z' s t' (sub_chain d (subst (λ w. AreBelow w z') (one_stand y y2 y' s' t) d'))

    flow_co : (y z : Var) (l : Label) → Flows y z → IsThere (dot z l) → label_variance l ≡ Co → Flows (dot y l) (dot z l)
    flow_co y z l (within o f) d e = within o (letter_co l f d e)
    flow_co y z l (across y' z' s t b) d e =
        let d' : IsThere (dot y l) = same_letter l (same_back (same_flow y z (across y' z' s t b))) d in
        across (dot y' l) (dot z' l) (stand_letter y y' l d' s) (stand_letter z z' l d t)
        (sub_co l b (same_letter l (same_stand z z' t) d) e)

    flow_contra : (y z : Var) (l : Label) → Flows y z → IsThere (dot z l) → label_variance l ≡ Contra → Flows (dot z l) (dot y l)
    flow_contra y z l (within o f) d e = within (sym (base_by_shape f) ∙ o) (letter_contra l f d e)
    flow_contra y z l (across y' z' s t b) d e =
        let d' : IsThere (dot y l) = same_letter l (same_back (same_flow y z (across y' z' s t b))) d in
        across (dot z' l) (dot y' l) (stand_letter z z' l d t) (stand_letter y y' l d' s)
        (sub_contra l b (same_letter l (same_stand z z' t) d) e)

    flow_self : (y : Var) → IsThere y → Flows y y
    flow_self y d = by (one_base (base_of y) (Exist n))
      where
        by : (base_of y ≡ Exist n) ⊎ (base_of y ≡ Exist n → ⊥) → Flows y y
        by (inl o) = within o (itself d)
        by (inr apart) = across y y (outer apart d refl) (outer apart d refl) (sub_self d)

    flow_pointer : (y : Var) → IsThere (dot y Load) → IsThere (dot y Store) → Flows (dot y Store) (dot y Load)
    flow_pointer y d e = by (one_base (base_of y) (Exist n))
      where
        by : (base_of y ≡ Exist n) ⊎ (base_of y ≡ Exist n → ⊥) → Flows (dot y Store) (dot y Load)
        by (inl o) = within o (pointer d e)
        by (inr apart) = across (dot y Store) (dot y Load) (outer apart e refl) (outer apart d refl) (sub_pointer (dv y) d e)

    flow_back : (y : Var) → IsThere (dot y Load) → IsThere (dot y Store) → Flows (dot y Load) (dot y Store)
    flow_back y d e = by (one_base (base_of y) (Exist n))
      where
        by : (base_of y ≡ Exist n) ⊎ (base_of y ≡ Exist n → ⊥) → Flows (dot y Load) (dot y Store)
        by (inl o) = within o (pointer_back d e)
        by (inr apart) = across (dot y Load) (dot y Store) (outer apart d refl) (outer apart e refl) (loose_pointer (dv y) d e)

    -- what a judgement of the lines says without those of n
    abbrev pub Says : Line → Type 0
    Says (VarLine y) = D (VarLine y)
    Says (Same y z) = D (Same y z)
    Says (Sub y z) = Flows (vd y) (vd z)
    Says (Low k y) = ((z : Var) × StandsFor (vd y) z × D (Low k (dv z))) ⊎ AtBound (vd y)
    Says (Up y k) = ((z : Var) × StandsFor (vd y) z × D (Up (dv z) k)) ⊎ AtBound (vd y)

    there_of : (y : Dtv) → IsThere (vd y) → D (VarLine y)
    there_of y d = subst (λ v. D (VarLine v)) (dv-vd y) d

    there_to : (y : Dtv) → D (VarLine y) → IsThere (vd y)
    there_to y d = subst (λ v. D (VarLine v)) (sym (dv-vd y)) d

    letter_to : (y : Dtv) (l : Label) → D (VarLine (longer y l)) → IsThere (dot (vd y) l)
    letter_to y l d = subst (λ v. D (VarLine (longer v l))) (sym (dv-vd y)) d

    same_of : (y z : Dtv) → Flows (vd y) (vd z) → D (Same y z)
    same_of y z f = subst (λ v. D (Same v z)) (dv-vd y) (subst (λ v. D (Same (dv (vd y)) v)) (dv-vd z) (same_flow (vd y) (vd z) f))

    says_same : (y z w : Dtv) → D (Same y z) → (y ≡ w) ⊎ (z ≡ w) → D (VarLine w)
    says_same y z w d h = side order others (Same y z) w d h

    says_stand : (y w : Dtv) (z : Var) → StandsFor (vd y) z → y ≡ w → D (VarLine w)
    says_stand y w z s e = subst (λ v. D (VarLine v)) e (there_of y (are_there order others (same_stand (vd y) z s)).0)

    says_bound : (y w : Dtv) → AtBound (vd y) → y ≡ w → D (VarLine w)
    says_bound y w a e = subst (λ v. D (VarLine v)) e (there_of y (bound_there (vd y) a))

    says_side : (l : Line) (w : Dtv) → Says l → HasSide l w → D (VarLine w)
    says_side (VarLine y) w d e = subst (λ v. D (VarLine v)) e d
    says_side (Same y z) w d h = says_same y z w d h
    says_side (Sub y z) w f h = says_same y z w (same_of y z f) h
    says_side (Low k y) w (inl s) e = says_stand y w s.0 s.1 e
    says_side (Low k y) w (inr a) e = says_bound y w a e
    says_side (Up y k) w (inl s) e = says_stand y w s.0 s.1 e
    says_side (Up y k) w (inr a) e = says_bound y w a e

    low_on : (i k : ℕ) (y z : Dtv) → Says (Low k y) → Flows (vd y) (vd z) → IsAtOrBelow order i k → Says (Low i z)
    low_on i k y z (inl s) (within o f) b =
        let p : (z' : Var) × StandsFor (vd z) z' × AreBelow s.0 z' = stand_up (vd y) (vd z) s.0 o f s.1 in
        inl (p.0, p.1, low_sub s.2 p.2 b)
    low_on i k y z (inl s) (across y' z' t u d) b =
        inl (z', u, low_sub (subst (λ v. D (Low k (dv v))) (one_stand (vd y) s.0 y' s.1 t) s.2) d b)
    low_on i k y z (inr a) (within o f) b = inr (bound_up (vd y) (vd z) f a)
    low_on i k y z (inr a) (across y' z' t u d) b = absurd (bound_ends (vd y) y' a t)

    up_on : (i k : ℕ) (y z : Dtv) → Flows (vd y) (vd z) → Says (Up z k) → IsAtOrBelow order k i → Says (Up y i)
    up_on i k y z (within o f) (inl s) b =
        let p : (y' : Var) × StandsFor (vd y) y' × AreBelow y' s.0 = stand_down (vd y) (vd z) s.0 o f s.1 in
        inl (p.0, p.1, up_sub p.2 s.2 b)
    up_on i k y z (across y' z' t u d) (inl s) b =
        inl (y', t, up_sub d (subst (λ v. D (Up (dv v) k)) (one_stand (vd z) s.0 z' s.1 u) s.2) b)
    up_on i k y z (within o f) (inr a) b = inr (bound_down (vd y) (vd z) f a)
    up_on i k y z (across y' z' t u d) (inr a) b = absurd (bound_ends (vd z) z' a u)

    base_rest : (w : List Label) (v : Var) → base_of (rest v w) ≡ base_of v
    base_rest [] v = refl
    base_rest (l ∷ w) v = base_rest w (dot v l)

    outer_of : (y : Dtv) → y.base ≢ Exist n → D (VarLine y) → StandsFor (vd y) (vd y)
    outer_of y apart d = outer (λ o. apart (sym (base_rest y.word (at y.base)) ∙ o)) (there_to y d) refl

    base_of_vd : (y : Dtv) → base_of (vd y) ≡ y.base
    base_of_vd y = base_rest y.word (at y.base)

    no_letters : (d : ℕ) → d ≡ 0 + d
    no_letters d = omega arith

    met_side : (l : Line) (y : Dtv) → Contains lines l → HasFlow n y.word l → y ≡ own y.word → Met (vd y) l y.word 0
    met_side l y c h e = record {
      stands = c;
      flow = h;
      like = ap (λ v. loaded (vd v)) e;
      count = no_letters (depth (vd y)) ∙ ap (λ v. 0 + depth (vd v)) e;
    }

    own_is : (y : Dtv) → y.base ≡ Exist n → y ≡ own y.word
    own_is y e = ap (λ b. record { base = b; word = y.word }) e

    same_at : (y z : Dtv) → D (Same y z) → AreSame (vd y) (vd z)
    same_at y z d = subst (λ v. D (Same v (dv (vd z)))) (sym (dv-vd y)) (subst (λ v. D (Same y v)) (sym (dv-vd z)) d)

    low_at : (k : ℕ) (y : Dtv) → D (Low k y) → D (Low k (dv (vd y)))
    low_at k y d = subst (λ v. D (Low k v)) (sym (dv-vd y)) d

    sub_at : (y z : Dtv) → D (Sub y z) → AreBelow (vd y) (vd z)
    sub_at y z d = subst (λ v. D (Sub v (dv (vd z)))) (sym (dv-vd y)) (subst (λ v. D (Sub y v)) (sym (dv-vd z)) d)

    up_at : (k : ℕ) (y : Dtv) → D (Up y k) → D (Up (dv (vd y)) k)
    up_at k y d = subst (λ v. D (Up v k)) (sym (dv-vd y)) d

    -- a judgement that isn't of n says what it says
    says_apart : (l : Line) → (IsFlowOf n l → ⊥) → D l → Says l
    says_apart (VarLine y) none d = d
    says_apart (Same y z) none d = d
    says_apart (Sub y z) none d = across (vd y) (vd z) (outer_of y (λ e. none (inl e)) (left_side d))
        (outer_of z (λ e. none (inr e)) (right_side d)) (sub_at y z d)
    says_apart (Low k y) none d = inl (vd y, outer_of y none (are_there order others d), low_at k y d)
    says_apart (Up y k) none d = inl (vd y, outer_of y none (are_there order others d), up_at k y d)

    -- a line of n says that its other side is what its side of n stands for, or that its side of n is at a bound
    own_says : (l : Line) → Contains lines l → IsFlowOf n l → D (shape_of l) → Says l
    own_says (VarLine y) c h d = absurd h
    own_says (Same y z) c h d = absurd h
    own_says (Sub y z) c (inl h) d =
        let e : y ≡ own y.word = own_is y h in
        let b : IsBeside (Sub y z) y.word z = inr (ap (λ v. Sub v z) e) in
        let s : AreSame (vd y) (vd z) = same_at y z d in
        let both : IsThere (vd y) × IsThere (vd z) = are_there order others s in
        across (vd z) (vd z)
        (inner (Sub y z) y.word z 0 (met_side (Sub y z) y c (inl e) e) b (base_of_vd y ∙ h) both.0 s refl)
        (outer_of z (other_beside (Sub y z) y.word z c b) (are_there order others d).1) (sub_self both.1)
    own_says (Sub y z) c (inr h) d =
        let e : z ≡ own z.word = own_is z h in
        let b : IsBeside (Sub y z) z.word y = inl (ap (Sub y) e) in
        let s : AreSame (vd z) (vd y) = same_at z y (same_back d) in
        let both : IsThere (vd z) × IsThere (vd y) = are_there order others s in
        across (vd y) (vd y) (outer_of y (other_beside (Sub y z) z.word y c b) (are_there order others d).0)
        (inner (Sub y z) z.word y 0 (met_side (Sub y z) z c (inr e) e) b (base_of_vd z ∙ h) both.0 s refl) (sub_self both.1)
    own_says (Low k y) c h d =
        let e : y ≡ own y.word = own_is y h in
        inr (at_bound (Low k y) y.word 0 (met_side (Low k y) y c e e) tt (base_of_vd y ∙ h) (there_to y d))
    own_says (Up y k) c h d =
        let e : y ≡ own y.word = own_is y h in
        inr (at_bound (Up y k) y.word 0 (met_side (Up y k) y c e e) tt (base_of_vd y ∙ h) (there_to y d))

    stays : (y : Dtv) (z : Var) → y.base ≢ Exist n → StandsFor (vd y) z → dv z ≡ y
    stays y z apart (outer apart' d e) = ap dv e ∙ dv-vd y
    stays y z apart (inner l w x j m b o d same e) = absurd (apart (sym (base_of_vd y) ∙ o))

    not_at_bound : (y : Dtv) → y.base ≢ Exist n → AtBound (vd y) → ⊥
    not_at_bound y apart (at_bound l w j m b o d) = apart (sym (base_of_vd y) ∙ o)

    sub_apart : (y z : Dtv) → y.base ≢ Exist n → z.base ≢ Exist n → Flows (vd y) (vd z) → D (Sub y z)
    sub_apart y z apart apart' (within o f) = absurd (apart (sym (base_rest y.word (at y.base)) ∙ o))
    sub_apart y z apart apart' (across y' z' s t d) =
        subst (λ v. D (Sub v z)) (stays y y' apart s) (subst (λ v. D (Sub (dv y') v)) (stays z z' apart' t) d)

    apart_says : (l : Line) → (IsFlowOf n l → ⊥) → Says l → D l
    apart_says (VarLine y) none d = d
    apart_says (Same y z) none d = d
    apart_says (Sub y z) none f = sub_apart y z (λ e. none (inl e)) (λ e. none (inr e)) f
    apart_says (Low k y) none (inl s) = subst (λ v. D (Low k v)) (stays y s.0 none s.1) s.2
    apart_says (Low k y) none (inr a) = absurd (not_at_bound y none a)
    apart_says (Up y k) none (inl s) = subst (λ v. D (Up v k)) (stays y s.0 none s.1) s.2
    apart_says (Up y k) none (inr a) = absurd (not_at_bound y none a)

    -- a line that is not of n and that the others derive, or one of n whose shape they derive
    abbrev pub IsKept : Line → Type 0
    IsKept l = ((IsFlowOf n l → ⊥) × D l) ⊎ (Contains lines l × IsFlowOf n l × D (shape_of l))

    kept_says : (l : Line) → IsKept l → Says l
    kept_says l (inl p) = says_apart l p.0 p.1
    kept_says l (inr p) = own_says l p.0 p.1 p.2

    -- where each line says so, each judgement does
    module _ (all : List Line) (gives : (l : Line) → Contains all l → Says l) where
      said : {j : Line} → Loosely order all j → Says j
      said (named l {x = y} c h) = says_side l y (gives l c) h
      said (prefix l d) = prefix l (said d)
      said (left_side {x = y} {y = z} d) = (are_there order others (same_of y z (said d))).0
      said (right_side {x = y} {y = z} d) = (are_there order others (same_of y z (said d))).1
      said (same_letter l d e) = same_letter l (said d) (said e)
      said (same_line {x = y} {y = z} c) = gives (Same y z) c
      said (same_sub {x = y} {y = z} d) = same_of y z (said d)
      said (same_self d) = same_self (said d)
      said (same_back d) = same_back (said d)
      said (same_chain d e) = same_chain (said d) (said e)
      said (same_longer l d e) = same_longer l (said d) (said e)
      said (sub_line {x = y} {y = z} c) = gives (Sub y z) c
      said (sub_self {x = y} d) = flow_self (vd y) (there_to y (said d))
      said (sub_chain {x = v} {y = y} {z = z} d e) = flow_chain (vd v) (vd y) (vd z) (said d) (said e)
      said (sub_co {x = y} {y = z} l d e s) =
          rw (vd-longer y l, vd-longer z l) (flow_co (vd y) (vd z) l (said d) (letter_to z l (said e)) s)
      said (sub_contra {x = y} {y = z} l d e s) =
          rw (vd-longer y l, vd-longer z l) (flow_contra (vd y) (vd z) l (said d) (letter_to z l (said e)) s)
      said (sub_pointer y d e) =
          rw (vd-longer y Load, vd-longer y Store) (flow_pointer (vd y) (letter_to y Load (said d)) (letter_to y Store (said e)))
      said (loose_pointer y d e) =
          rw (vd-longer y Load, vd-longer y Store) (flow_back (vd y) (letter_to y Load (said d)) (letter_to y Store (said e)))
      said (low_line {k = k} {x = y} c) = gives (Low k y) c
      said (up_line {k = k} {x = y} c) = gives (Up y k) c
      said (low_sub {j = i} {k = k} {x = y} {y = z} d e b) = low_on i k y z (said d) (said e) b
      said (up_sub {j = i} {k = k} {x = y} {y = z} d e b) = up_on i k y z (said d) (said e) b

    -- what all lines derive that is not of n, the others derive, where each line is kept
    pub derived_without : (all : List Line) → ((l : Line) → Contains all l → IsKept l) → (j : Line) → (IsFlowOf n j → ⊥) →
        Loosely order all j → D j
    derived_without all kept j none d = apart_says j none (said all (λ l c. kept_says l (kept l c)) d)
