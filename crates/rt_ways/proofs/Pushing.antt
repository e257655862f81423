-- What is pushed, noted number by number.
use Rattle.std.proofs.Common.{◌≡◌, ℕ, ◌+◌, ◌<◌, ◌≤◌, inl, inr, List, [], ◌∷◌, ◌++◌, Contains, Some, None, length, get_or, refl, sym, ap, subst, ◌∙◌, arith}
use Rattle.std.proofs.lemmas.Bool.{cases_eq}
use Rattle.std.proofs.lemmas.List.{get_or_default, length_push}
use Rattle.std.proofs.lemmas.List.Elements.{Contains-append_left, Contains-push_cases}
use Rattle.rt_lines.specs.declared.label.Label.{Label}
use Rattle.rt_lines.specs.declared.label.Variance.TheVariants.{Co, Contra}
use Rattle.rt_lines.specs.declared.variable.Base.{Base}
use Rattle.rt_lines.specs.declared.variable.Dtv.{Dtv}
use Rattle.rt_ways.specs.Arcs.{IsInRow}
use Rattle.rt_ways.specs.Pushes.{AreDistinct, AreSteps, IsClosed, IsClosedAt, IsGrown, IsMade, IsNoted, IsPair, IsPushed, step_of, variable_at}
use Rattle.rt_ways.specs.Pushes.IsPushed.{co, contra}
use Rattle.rt_named.proofs.Making.{no_base, last_letter}

-- what a number is made of is one
pub made_one : (named : List Dtv) (n p q : ℕ) (l m : Label) → AreDistinct named → IsMade named n p l → IsMade named n q m → (p ≡ q) × (l ≡ m)
made_one named n p q l m distinct x y =
    let s : (variable_at named p ≡ variable_at named q) × (l ≡ m) = last_letter (variable_at named p) (variable_at named q) l m (sym x.is ∙ y.is) in
    (distinct p q x.parent y.parent s.0, s.1)

-- the pair is one
pub pair_one : (l : Label) (n m v w v' w' : ℕ) → IsPair l n m v w → IsPair l n m v' w' → (v ≡ v') × (w ≡ w')
pair_one l n m v w v' w' (inl a) (inl b) = (sym a.1 ∙ b.1, sym a.2 ∙ b.2)
pair_one l n m v w v' w' (inl a) (inr b) = absurd (let e : Co ≡ Contra = sym a.0 ∙ b.0 in cc)
pair_one l n m v w v' w' (inr a) (inl b) = absurd (let e : Co ≡ Contra = sym b.0 ∙ a.0 in cc)
pair_one l n m v w v' w' (inr a) (inr b) = (sym a.1 ∙ b.1, sym a.2 ∙ b.2)

-- pairs noted one after another
pub grown_same : (P : ℕ → ℕ → Type 0) (old : List (ℕ × ℕ)) → IsGrown P old old
grown_same P old = record { kept = λ v w c. c; only = λ v w c. inl c; long = omega arith }

pub grown_more : (P Q : ℕ → ℕ → Type 0) (old mid new : List (ℕ × ℕ)) → ((v w : ℕ) → Q v w → P v w) → IsGrown P old mid → IsGrown Q mid new → IsGrown P old new
grown_more P Q old mid new more m n = record {
  kept = λ v w c. n.kept v w (m.kept v w c);
  only = λ v w c. (elim (n.only v w c) [ inl d ↦ m.only v w d | inr q ↦ inr (more v w q) ]);
  long = (let a : length old ≤ length mid = m.long in let b : length mid ≤ length new = n.long in omega (arith, a, b));
}

pub grown_one : (P : ℕ → ℕ → Type 0) (old new : List (ℕ × ℕ)) (pair : ℕ × ℕ) → new ≡ old ++ pair ∷ [] → P pair.0 pair.1 → IsGrown P old new
grown_one P old new pair e p = record {
  kept = λ v w c. subst (λ (xs : List (ℕ × ℕ)). Contains xs (v, w)) (sym e) (Contains-append_left old (pair ∷ []) (v, w) c);
  only = λ v w c. (elim (Contains-push_cases old pair (v, w) (subst (λ (xs : List (ℕ × ℕ)). Contains xs (v, w)) e c)) [
    | inl d ↦ inl d
    | inr f ↦ inr (subst (λ (q : ℕ × ℕ). P q.0 q.1) f p)
  ]);
  long = (let k : length new ≡ length old + 1 = ap length e ∙ length_push old pair in omega (arith, k));
}

pub none_before : (P : ℕ → ℕ → Type 0) (old new : List (ℕ × ℕ)) → IsGrown P old new → new ≡ [] → old ≡ []
none_before P old new g e = empty old (let a : length old ≤ length new = g.long in let b : length new ≡ 0 = ap length e in omega (arith, a, b))
  where
    empty : (xs : List (ℕ × ℕ)) → length xs ≤ 0 → xs ≡ []
    empty [] h = refl
    empty (x ∷ xs) h = absurd (omega (arith, h))

pub not_none : {X : Type 0} (old new : List X) (x : X) → new ≡ old ++ x ∷ [] → new ≡ [] → ⊥
not_none old new x e f = let k : length new ≡ length old + 1 = ap length e ∙ length_push old x in let z : length new ≡ 0 = ap length f in omega (arith, k, z)

-- nothing is behind the letter
pub noted_none : (steps : List ((ℕ × Label) × ℕ)) (rows : List (List ℕ)) (l : Label) (n q : ℕ) → step_of steps q l ≡ None → IsNoted steps rows l n q
noted_none steps rows l n q e m v w f p = absurd (let g : None ≡ Some m = sym e ∙ f in cc)

-- what is behind it is in the rows
pub noted_known : (steps : List ((ℕ × Label) × ℕ)) (rows : List (List ℕ)) (l : Label) (n q m a b : ℕ) → step_of steps q l ≡ Some m → IsPair l n m a b → IsInRow rows a b → IsNoted steps rows l n q
noted_known steps rows l n q m a b e p r k v w f p' =
    let g : Some m ≡ Some k = sym e ∙ f in
    let s : m ≡ k = cc in
    let t : (a ≡ v) × (b ≡ w) = pair_one l n m a b v w p (subst (λ j. IsPair l n j v w) (sym s) p') in
    subst (λ u. IsInRow rows u w) t.0 (subst (IsInRow rows a) t.1 r)

-- all in a row is noted
pub noted_next : (P : ℕ → Type 0) (row : List ℕ) (i : ℕ) → ((j : ℕ) → j < i → P (get_or row j 0)) → P (get_or row i 0) → (j : ℕ) → j < i + 1 → P (get_or row j 0)
noted_next P row i before here j less = elim (cases_eq j i) [ inl e ↦ subst (λ k. P (get_or row k 0)) (sym e) here | inr n ↦ before j (omega (arith, less, n)) ]

pub noted_all : (P : ℕ → Type 0) (row : List ℕ) (i : ℕ) → length row ≤ i → ((j : ℕ) → j < i → P (get_or row j 0)) → (q : ℕ) → Contains row q → P q
noted_all P row i h all q c = subst P (get_or_default row c.0 0 q c.1 ∙ c.2) (all c.0 (let less : c.0 < length row = c.1 in omega (arith, h, less)))

-- what is pushed by steps
pub pushed_by : (named : List Dtv) (steps : List ((ℕ × Label) × ℕ)) (Edge : ℕ → ℕ → Type 0) (n p q m v w : ℕ) (l : Label) → AreSteps named steps → IsMade named n p l →
    Edge p q → step_of steps q l ≡ Some m → IsPair l n m v w → IsPushed named Edge v w
pushed_by named steps Edge n p q m v w l are made e s (inl a) =
    co {p = p} {q = q} {l = l} a.0 (subst (λ k. IsMade named k p l) a.1 made) (subst (λ k. IsMade named k q l) a.2 ((are m q l).0 s)) e
pushed_by named steps Edge n p q m v w l are made e s (inr a) =
    contra {p = q} {q = p} {l = l} a.0 (subst (λ k. IsMade named k q l) a.1 ((are m q l).0 s)) (subst (λ k. IsMade named k p l) a.2 made) e

-- a number that is made of another one is closed when all in the row of that is noted
pub closed_at : (named : List Dtv) (steps : List ((ℕ × Label) × ℕ)) (rows : List (List ℕ)) (n p : ℕ) (l : Label) → AreDistinct named → AreSteps named steps → IsMade named n p l →
    ((q : ℕ) → IsInRow rows p q → IsNoted steps rows l n q) → IsClosedAt named (IsInRow rows) n
closed_at named steps rows n p l distinct are made noted a q m v w k x y e pair =
    let s : (a ≡ p) × (k ≡ l) = made_one named n a p k l distinct x made in
    noted q (subst (λ u. IsInRow rows u q) s.0 e) m v w ((are m q l).1 (subst (IsMade named m q) s.1 y)) (subst (λ u. IsPair u n m v w) s.1 pair)

-- a base alone is closed
pub closed_bare : (named : List Dtv) (Edge : ℕ → ℕ → Type 0) (n : ℕ) (b : Base) → variable_at named n ≡ record { base = b; word = [] } → IsClosedAt named Edge n
closed_bare named Edge n b e p q m v w l x y r pair = absurd (no_base (variable_at named p) l b (sym x.is ∙ e))

pub closed_all : (named : List Dtv) (Edge : ℕ → ℕ → Type 0) → ((n : ℕ) → n < length named → IsClosedAt named Edge n) → IsClosed named Edge
closed_all named Edge all v w (co {p} {q} {l} s x y e) = all v x.within p q w v w l x y e (inl (s, refl, refl))
closed_all named Edge all v w (contra {p} {q} {l} s x y e) = all w y.within q p v v w l y x e (inr (s, refl, refl))

-- what is read in a row is in it
pub in_row : (rows : List (List ℕ)) (v : ℕ) (row : List ℕ) (i : ℕ) → row ≡ get_or rows v [] → i < length row → IsInRow rows v (get_or row i 0)
in_row rows v row i e h = subst (λ xs. Contains xs (get_or row i 0)) e (i, h, get_or_default row i (get_or row i 0) 0 h)

pub grown_by : (P Q : ℕ → ℕ → Type 0) (old new : List (ℕ × ℕ)) → ((v w : ℕ) → P v w → Q v w) → IsGrown P old new → IsGrown Q old new
grown_by P Q old new more g = record { kept = g.kept; only = λ v w c. (elim (g.only v w c) [ inl d ↦ inl d | inr p ↦ inr (more v w p) ]); long = g.long }

-- numbers closed one after another
pub closed_next : (P : ℕ → Type 0) (i : ℕ) → ((n : ℕ) → n < i → P n) → P i → (n : ℕ) → n < i + 1 → P n
closed_next P i before here n less = elim (cases_eq n i) [ inl e ↦ subst P (sym e) here | inr d ↦ before n (omega (arith, less, d)) ]
