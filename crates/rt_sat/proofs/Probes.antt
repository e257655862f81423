-- Lines with a probe: what they derive of variables above it is what the lines alone derive, and below it there are the words of the probe.
use Rattle.std.proofs.Common.{◌≡◌, ℕ, zero, suc, ℤ, ◌+◌, ◌≤◌, inl, inr, Bool, true, false, List, [], ◌∷◌, map, length, Contains, refl, sym, ap, subst, ◌∙◌, arith}
use Rattle.std.proofs.lemmas.List.Elements.{Contains-append_left, Contains-append_right, Contains-append_cases}
use Rattle.rt_lines.specs.declared.label.Label.{Label}
use Rattle.rt_lines.specs.declared.label.Label.TheVariants.{In, Out, Load, Store, Field}
use Rattle.rt_lines.specs.declared.variable.Dtv.{Dtv}
use Rattle.rt_lines.specs.declared.line.Line.{Line}
use Rattle.rt_lines.specs.declared.line.Line.TheVariants.{Var as VarLine, Same, Sub, Low, Up}
use Rattle.rt_lines.specs.Equality.{label_eq}
use Rattle.rt_lines.proofs.Equal.{label_equal}
use Rattle.rt_rules.specs.Rules.{longer, extended, HasSide}
use Rattle.rt_rules.specs.Rules.Derivable.{named}
use Rattle.rt_rules.proofs.Carry.{given}
use Rattle.rt_rules.proofs.Lists.{Contains-none, Contains-here, Contains-cons_cases, Contains-map, Contains-map_source}
use Rattle.rt_bridge.specs.Growing.{Var, at, dot, dv, rest, vd, Given, V, E, Der}
use Rattle.rt_bridge.specs.Counted.{IsPointer}
use Rattle.rt_bridge.proofs.Growing.{der, q1 as one, q2 as one_self, q3 as one_back, q4 as one_chain, q5 as one_longer, s6 as pointer, both, prefix, vd-dv, dv-rest}
use Rattle.rt_bridge.proofs.Trees.{V as Is, E as One, S as Less, Lo, Hi, Fact as Shown, Tree, e1, e2, e3a, e3b, e4, q0, q1, q2, q3, q4, q5, s1, s2, s3, s4, s5, s6, c1l, c1u, c2, c3}
use Rattle.rt_sat.specs.Probe.{pointer_words, probed}
use Rattle.rt_lines.proofs.Same.{label_self}

-- where a variable lies: above the probe, so many letters below it, or elsewhere
pub data Part : Type 0 where
  above : Part
  below : ℕ → Part
  outside : Part

-- where it lies with a letter more, which may be the probe's
abbrev pub after : Part → Bool → Label → Part
after above true l = below 0
after above false l = above
after (below n) b Load = below (suc n)
after (below n) b Store = below (suc n)
after (below n) b (Field w j) = outside
after (below n) b (In a) = outside
after (below n) b (Out j) = outside
after outside b l = outside

abbrev pub top_after : Part → Var → Var → Var
top_after above x t = x
top_after (below n) x t = t
top_after outside x t = t

-- each letter is a load or a store
abbrev pub ArePointers : List Label → Type 0
ArePointers [] = Unit {0}
ArePointers (l ∷ w) = IsPointer l × ArePointers w

pointer_first : (m : ℕ) (l : Label) (w : List Label) → IsPointer l → ((v : List Label) → Contains (pointer_words m) v → ArePointers v × (length v ≡ m)) → Contains (map (λ (v : List Label). l ∷ v) (pointer_words m)) w →
    ArePointers w × (length w ≡ suc m)
pointer_first m l w p all d =
    let s : (v : List Label) × Contains (pointer_words m) v × (l ∷ v ≡ w) = Contains-map_source (λ (v : List Label). l ∷ v) (pointer_words m) w d in
    let i : ArePointers s.0 × (length s.0 ≡ m) = all s.0 s.1 in
    subst (λ v. ArePointers v × (length v ≡ suc m)) s.2 ((p, i.0), ap suc i.1)

pub pointers-of : (m : ℕ) (w : List Label) → Contains (pointer_words m) w → ArePointers w × (length w ≡ m)
pointers-of zero w c = elim (Contains-cons_cases [] [] w c) [ inl e ↦ subst (λ v. ArePointers v × (length v ≡ 0)) e (tt, refl) | inr d ↦ absurd (Contains-none w d) ]
pointers-of (suc m) w c = elim (Contains-append_cases (map (λ (v : List Label). Load ∷ v) (pointer_words m)) (map (λ (v : List Label). Store ∷ v) (pointer_words m)) w c) [
  | inl d ↦ pointer_first m Load w tt (λ v e. pointers-of m v e) d
  | inr d ↦ pointer_first m Store w tt (λ v e. pointers-of m v e) d
]

pub pointers-in : (w : List Label) → ArePointers w → Contains (pointer_words (length w)) w
pointers-in [] p = Contains-here [] []
pointers-in (Load ∷ w) p = Contains-append_left (map (λ (v : List Label). Load ∷ v) (pointer_words (length w))) (map (λ (v : List Label). Store ∷ v) (pointer_words (length w))) (Load ∷ w)
    (Contains-map (λ (v : List Label). Load ∷ v) (pointer_words (length w)) w (pointers-in w p.1))
pointers-in (Store ∷ w) p = Contains-append_right (map (λ (v : List Label). Load ∷ v) (pointer_words (length w))) (map (λ (v : List Label). Store ∷ v) (pointer_words (length w))) (Store ∷ w)
    (Contains-map (λ (v : List Label). Store ∷ v) (pointer_words (length w)) w (pointers-in w p.1))
pointers-in (Field v j ∷ w) p = absurd p.0
pointers-in (In a ∷ w) p = absurd p.0
pointers-in (Out j ∷ w) p = absurd p.0

module _ (k : ℤ) where
  abbrev pub part : Var → Part
  part (at b) = above
  part (dot x l) = after (part x) (label_eq l (Field 8 k)) l

  -- the part of a variable above the probe
  abbrev pub top : Var → Var
  top (at b) = at b
  top (dot x l) = top_after (after (part x) (label_eq l (Field 8 k)) l) (dot x l) (top x)

  pub top-above : (x : Var) → part x ≡ above → top x ≡ x
  top-above (at b) e = refl
  top-above (dot x l) e = ap (λ p. top_after p (dot x l) (top x)) e

  probe_here : label_eq (Field 8 k) (Field 8 k) ≡ true
  probe_here = label_self (Field 8 k)

  pub part-probe : (x : Var) → part x ≡ above → part (dot x (Field 8 k)) ≡ below 0
  part-probe x e = rw (e, probe_here) refl

  pub top-probe : (x : Var) → part x ≡ above → top (dot x (Field 8 k)) ≡ x
  top-probe x e = ap (λ p. top_after p (dot x (Field 8 k)) (top x)) (part-probe x e) ∙ top-above x e

  -- a variable without the probe's letter is above it
  pub part-plain : (x : Var) → (Contains (dv x).word (Field 8 k) → ⊥) → part x ≡ above
  part-plain (at b) n = refl
  part-plain (dot x l) n = by (label_eq l (Field 8 k)) refl (part-plain x (λ c. n (Contains-append_left (dv x).word (l ∷ []) (Field 8 k) c)))
    where
      by : (b : Bool) → label_eq l (Field 8 k) ≡ b → part x ≡ above → part (dot x l) ≡ above
      by true e f = absurd (n (Contains-append_right (dv x).word (l ∷ []) (Field 8 k) (subst (λ j. Contains (l ∷ []) j) (label_equal l (Field 8 k) e) (Contains-here l []))))
      by false e f = rw (f, e) refl

  -- pointer letters go on below it
  pub part-pointer : (u : Var) (n : ℕ) (l : Label) → part u ≡ below n → IsPointer l → part (dot u l) ≡ below (suc n)
  part-pointer u n Load e p = rw e refl
  part-pointer u n Store e p = rw e refl
  part-pointer u n (Field w j) e p = absurd p
  part-pointer u n (In a) e p = absurd p
  part-pointer u n (Out j) e p = absurd p

  pub top-pointer : (u : Var) (n : ℕ) (l : Label) → part u ≡ below n → IsPointer l → top (dot u l) ≡ top u
  top-pointer u n l e p = ap (λ q. top_after q (dot u l) (top u)) (part-pointer u n l e p)

  pub part-rest : (w : List Label) (u : Var) (n : ℕ) → ArePointers w → part u ≡ below n → part (rest u w) ≡ below (n + length w)
  part-rest [] u n p e = e ∙ ap below (omega arith)
  part-rest (l ∷ w) u n p e = part-rest w (dot u l) (suc n) p.1 (part-pointer u n l e p.0) ∙ ap below (omega arith)

  pub top-rest : (w : List Label) (u : Var) (n : ℕ) → ArePointers w → part u ≡ below n → top (rest u w) ≡ top u
  top-rest [] u n p e = refl
  top-rest (l ∷ w) u n p e = top-rest w (dot u l) (suc n) p.1 (part-pointer u n l e p.0) ∙ top-pointer u n l e p.0

  module _ (A : Given) (X : Var) (m : ℕ) (free : (l : Line) (x : Dtv) → Contains A.lines l → HasSide l x → Contains x.word (Field 8 k) → ⊥)
      (exists : Der A (V X)) (plain : part X ≡ above) where
    abbrev pub B : Given
    B = record { order = A.order; lines = probed A.lines (dv X) k m }

    -- what there is of a variable
    abbrev pub Has : Part → Var → Type 0
    Has above t = Der A (V t)
    Has (below n) t = Der A (E t X) × (n ≤ m)
    Has outside t = ⊥

    pub record Alike (x y : Var) : Type 0 where
      pub parts : part x ≡ part y
      pub tops : Der A (E (top x) (top y))
      pub first : Has (part x) (top x)
      pub second : Has (part y) (top y)

    abbrev pub Holds : Shown → Type 0
    Holds (Is x) = Has (part x) (top x)
    Holds (One x y) = Alike x y
    Holds (Less x y) = Alike x y
    Holds (Lo j x) = Unit {0}
    Holds (Hi x j) = Unit {0}

    has_one : (p : Part) (t : Var) → Has p t → Der A (E t t)
    has_one above t h = one_self h
    has_one (below n) t h = one_self (both A h.0).0
    has_one outside t h = absurd h

    has_class : (p : Part) (t u : Var) → Der A (E t u) → Has p t → Has p u
    has_class above t u e h = (both A e).1
    has_class (below n) t u e h = (one_chain (one_back e) h.0, h.1)
    has_class outside t u e h = h

    back_by : (p : Part) (b : Bool) (x t : Var) (l : Label) → (p ≡ above → t ≡ x) → Has (after p b l) (top_after (after p b l) (dot x l) t) → Has p t
    back_by above true x t l is h = (both A h.0).0
    back_by above false x t l is h = subst (λ u. Der A (V u)) (sym (is refl)) (prefix A (l ∷ []) h)
    back_by (below n) b x t Load is h = (h.0, omega (arith, h.1))
    back_by (below n) b x t Store is h = (h.0, omega (arith, h.1))
    back_by (below n) b x t (Field w j) is h = absurd h
    back_by (below n) b x t (In a) is h = absurd h
    back_by (below n) b x t (Out j) is h = absurd h
    back_by outside b x t l is h = absurd h

    forth_by : (p : Part) (b : Bool) (x y t u : Var) (l : Label) → (p ≡ above → t ≡ x) → (p ≡ above → u ≡ y) → Der A (E t u) → Has (after p b l) (top_after (after p b l) (dot x l) t) →
        Der A (E (top_after (after p b l) (dot x l) t) (top_after (after p b l) (dot y l) u))
    forth_by above true x y t u l is are e h = e
    forth_by above false x y t u l is are e h = one_longer l (subst (λ v. Der A (E v y)) (is refl) (subst (λ v. Der A (E t v)) (are refl) e)) h
    forth_by (below n) b x y t u Load is are e h = e
    forth_by (below n) b x y t u Store is are e h = e
    forth_by (below n) b x y t u (Field w j) is are e h = absurd h
    forth_by (below n) b x y t u (In a) is are e h = absurd h
    forth_by (below n) b x y t u (Out j) is are e h = absurd h
    forth_by outside b x y t u l is are e h = absurd h

    back : (x : Var) (l : Label) → Holds (Is (dot x l)) → Holds (Is x)
    back x l h = back_by (part x) (label_eq l (Field 8 k)) x (top x) l (top-above x) h

    alike_back : (x y : Var) → Alike x y → Alike y x
    alike_back x y a = record { parts = sym a.parts; tops = one_back a.tops; first = a.second; second = a.first }

    alike_self : (x : Var) → Holds (Is x) → Alike x x
    alike_self x h = record { parts = refl; tops = has_one (part x) (top x) h; first = h; second = h }

    alike_chain : (x y z : Var) → Alike x y → Alike y z → Alike x z
    alike_chain x y z a b = record { parts = a.parts ∙ b.parts; tops = one_chain a.tops b.tops; first = a.first; second = b.second }

    alike_of : (x y : Var) → part x ≡ part y → Der A (E (top x) (top y)) → Holds (Is x) → Alike x y
    alike_of x y p e h = record { parts = p; tops = e; first = h; second = subst (λ q. Has q (top y)) p (has_class (part x) (top x) (top y) e h) }

    alike_longer : (x y : Var) (l : Label) → Alike x y → Holds (Is (dot x l)) → Alike (dot x l) (dot y l)
    alike_longer x y l a h =
        alike_of (dot x l) (dot y l) (ap (λ p. after p (label_eq l (Field 8 k)) l) a.parts)
        (subst (λ p. Der A (E (top_after (after (part x) (label_eq l (Field 8 k)) l) (dot x l) (top x)) (top_after (after p (label_eq l (Field 8 k)) l) (dot y l) (top y)))) a.parts
        (forth_by (part x) (label_eq l (Field 8 k)) x y (top x) (top y) l (top-above x) (λ e. top-above y (sym a.parts ∙ e)) a.tops h)) h

    pointer_by : (p : Part) (x t : Var) (is : p ≡ above → t ≡ x) → Has (after p false Load) (top_after (after p false Load) (dot x Load) t) → Has (after p false Store) (top_after (after p false Store) (dot x Store) t) →
        (after p false Store ≡ after p false Load) × Der A (E (top_after (after p false Store) (dot x Store) t) (top_after (after p false Load) (dot x Load) t))
    pointer_by above x t is h g = (refl, one (pointer h g))
    pointer_by (below n) x t is h g = (refl, one_self (both A h.0).0)
    pointer_by outside x t is h g = absurd h

    pub line_there : (l : Line) (x : Var) → Contains A.lines l → HasSide l (dv x) → part x ≡ above
    line_there l x c h = part-plain x (λ d. free l (dv x) c h d)

    side_there : (l : Line) (x : Var) → Contains A.lines l → HasSide l (dv x) → Holds (Is x)
    side_there l x c h = subst (λ p. Has p (top x)) (sym (line_there l x c h)) (subst (λ t. Der A (V t)) (sym (top-above x (line_there l x c h))) (der A (V x) (named l c h)))

    word_there : (x : Var) (w : List Label) → Contains (pointer_words m) w → dv x ≡ extended (longer (dv X) (Field 8 k)) w → Holds (Is x)
    word_there x w c e =
        let q : ArePointers w × (length w ≡ m) = pointers-of m w c in
        let u : Var = dot X (Field 8 k) in
        let f : rest u w ≡ x = sym (vd-dv (rest u w)) ∙ ap vd (dv-rest w u ∙ sym e) ∙ vd-dv x in
        let p : part (rest u w) ≡ below (0 + length w) = part-rest w u 0 q.0 (part-probe X plain) in
        let t : top (rest u w) ≡ X = top-rest w u 0 q.0 (part-probe X plain) ∙ top-probe X plain in
        subst (λ y. Has (part y) (top y)) f (subst (λ r. Has r (top (rest u w))) (sym p) (subst (λ y. Der A (E y X)) (sym t) (one_self exists), omega (arith, q.1)))

    probe_there : (l : Line) (x : Var) → Contains (map (λ (w : List Label). VarLine (extended (longer (dv X) (Field 8 k)) w)) (pointer_words m)) l → HasSide l (dv x) → Holds (Is x)
    probe_there l x c h =
        let s : (w : List Label) × Contains (pointer_words m) w × (VarLine (extended (longer (dv X) (Field 8 k)) w) ≡ l) = Contains-map_source (λ (w : List Label). VarLine (extended (longer (dv X) (Field 8 k)) w)) (pointer_words m) l c in
        word_there x s.0 s.1 (sym (subst (λ z. HasSide z (dv x)) (sym s.2) h))

    named_there : (l : Line) (x : Var) → Contains B.lines l → HasSide l (dv x) → Holds (Is x)
    named_there l x c h = elim (Contains-append_cases A.lines (map (λ (w : List Label). VarLine (extended (longer (dv X) (Field 8 k)) w)) (pointer_words m)) l c) [
      | inl d ↦ side_there l x d h
      | inr d ↦ probe_there l x d h
    ]

    abbrev IsVar : Line → Type 0
    IsVar (VarLine x) = Unit {0}
    IsVar (Same x y) = ⊥
    IsVar (Sub x y) = ⊥
    IsVar (Low j x) = ⊥
    IsVar (Up x j) = ⊥

    -- a line that isn't `var` is one of the lines
    pub old_line : (l : Line) → (IsVar l → ⊥) → Contains B.lines l → Contains A.lines l
    old_line l n c = elim (Contains-append_cases A.lines (map (λ (w : List Label). VarLine (extended (longer (dv X) (Field 8 k)) w)) (pointer_words m)) l c) [
      | inl d ↦ d
      | inr d ↦ (let s : (w : List Label) × Contains (pointer_words m) w × (VarLine (extended (longer (dv X) (Field 8 k)) w) ≡ l) = Contains-map_source (λ (w : List Label). VarLine (extended (longer (dv X) (Field 8 k)) w)) (pointer_words m) l d in
          absurd (n (subst IsVar s.2 tt)))
    ]

    line_alike : (l : Line) (x y : Var) → Contains A.lines l → HasSide l (dv x) → HasSide l (dv y) → Der A (E x y) → Alike x y
    line_alike l x y c h g e =
        alike_of x y (line_there l x c h ∙ sym (line_there l y c g))
        (subst (λ t. Der A (E t (top y))) (sym (top-above x (line_there l x c h))) (subst (λ t. Der A (E x t)) (sym (top-above y (line_there l y c g))) e)) (side_there l x c h)

    -- what the lines with the probe derive
    pub fresh : {f : Shown} → Tree B.order B.lines f → Holds f
    fresh (e1 l {x} c h) = named_there l x c h
    fresh (e2 {x} l d) = back x l (fresh d)
    fresh (e3a d) = (fresh d).first
    fresh (e3b d) = (fresh d).second
    fresh (e4 {x} {y} l d e) = (alike_longer x y l (fresh d) (fresh e)).second
    fresh (q0 {x} {y} c) =
        let d : Contains A.lines (Same (dv x) (dv y)) = old_line (Same (dv x) (dv y)) (λ v. v) c in
        line_alike (Same (dv x) (dv y)) x y d (inl refl) (inr refl) (der A (E x y) (given A.order A.lines (Same (dv x) (dv y)) d))
    fresh (q1 d) = fresh d
    fresh (q2 {x} d) = alike_self x (fresh d)
    fresh (q3 {x} {y} d) = alike_back x y (fresh d)
    fresh (q4 {x} {y} {z} d e) = alike_chain x y z (fresh d) (fresh e)
    fresh (q5 {x} {y} l d e) = alike_longer x y l (fresh d) (fresh e)
    fresh (s1 {x} {y} c) =
        let d : Contains A.lines (Sub (dv x) (dv y)) = old_line (Sub (dv x) (dv y)) (λ v. v) c in
        line_alike (Sub (dv x) (dv y)) x y d (inl refl) (inr refl) (one (der A _ (given A.order A.lines (Sub (dv x) (dv y)) d)))
    fresh (s2 {x} d) = alike_self x (fresh d)
    fresh (s3 {x} {y} {z} d e) = alike_chain x y z (fresh d) (fresh e)
    fresh (s4 {x} {y} l d e h) = alike_back (dot y l) (dot x l) (alike_longer y x l (alike_back x y (fresh d)) (fresh e))
    fresh (s5 {x} {y} l d e h) = alike_longer y x l (alike_back x y (fresh d)) (fresh e)
    fresh (s6 {x} d e) =
        let r : (part (dot x Store) ≡ part (dot x Load)) × Der A (E (top (dot x Store)) (top (dot x Load))) = pointer_by (part x) x (top x) (top-above x) (fresh d) (fresh e) in
        alike_of (dot x Store) (dot x Load) r.0 r.1 (fresh e)
    fresh (c1l c) = tt
    fresh (c1u c) = tt
    fresh (c2 d e a) = tt
    fresh (c3 d e a) = tt
