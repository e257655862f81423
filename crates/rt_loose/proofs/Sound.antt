-- Along a path, with letters of its kind behind both ends, the first lies loosely below the second.
use Rattle.std.proofs.Common.{◌≡◌, ◌∙◌, ◌⊎◌, inl, inr, List, [], ◌∷◌, refl, sym, ap, subst}
use Rattle.rt_lines.specs.declared.label.Label.{Label}
use Rattle.rt_lines.specs.declared.label.Label.TheVariants.{In, Out, Load, Store, Field}
use Rattle.rt_lines.specs.declared.label.Variance.{Variance}
use Rattle.rt_lines.specs.declared.label.Variance.TheVariants.{Co, Contra}
use Rattle.rt_lines.specs.declared.line.Line.TheVariants.{Sub}
use Rattle.rt_lines.specs.Words.{label_variance, times, variance_of_word}
use Rattle.rt_bridge.specs.Growing.{Var, dot, dv, rest, Given, V, E, Der, HasSub}
use Rattle.rt_bridge.specs.Counted.{IsPointer, Flip}
use Rattle.rt_bridge.proofs.Growing.{der, e4, q1, q2, q3, q5, s1, both, prefix, same_rest}
use Rattle.rt_bridge.proofs.Bridges.{pointer_same}
use Rattle.rt_bridge.proofs.Eliminating.{times-turn}
use Rattle.rt_loose.specs.Loose.{Loosely}
use Rattle.rt_loose.specs.Loose.Loosely.{sub_line, sub_self, sub_chain, sub_co, sub_contra, sub_pointer, loose_pointer}
use Rattle.rt_loose.specs.Kinds.{Kind, flexible, signed, before, half, kept}
use Rattle.rt_loose.proofs.Loosely.{embed, strict_of}
use Rattle.rt_loose.proofs.Paths.{Path, here, up, down, flexible_up, flexible_down, join, push, path_same, flip_of, flips_to}

-- loosely below
pub record Beneath (L : Given) (x y : Var) : Type 0 where
  pub derives : Loosely L.order L.lines (Sub (dv x) (dv y))

-- each below the other
abbrev pub Mutual : Given → Var → Var → Type 0
Mutual L x y = Beneath L x y × Beneath L y x

-- below, or above, as the variance says
abbrev pub Turns : Given → Variance → Var → Var → Type 0
Turns L Co x y = Beneath L x y
Turns L Contra x y = Beneath L y x

-- a load or store of what can be read and written through is among the letters
abbrev pub HasPlace : Given → Var → List Label → Type 0
HasPlace L x [] = ⊥
HasPlace L x (l ∷ z) = (IsPointer l × Flip L x) ⊎ HasPlace L (dot x l) z

-- letters are of a kind
abbrev pub Fits : Given → Var → List Label → Kind → Type 0
Fits L x z flexible = HasPlace L x z
Fits L x z (signed a) = variance_of_word z ≡ a

-- the other one of load and store
abbrev other : Label → Label
other Load = Store
other Store = Load
other l = l

module _ (L : Given) where
  beneath : (x y : Var) → Loosely L.order L.lines (Sub (dv x) (dv y)) → Beneath L x y
  beneath x y d = record { derives = d }

  same_of : {x y : Var} → Beneath L x y → Der L (E x y)
  same_of {x} {y} b = der L (E x y) (strict_of L.order L.lines b.derives)

  pub chain : {x y z : Var} → Beneath L x y → Beneath L y z → Beneath L x z
  chain {x} {y} {z} b c = beneath x z (sub_chain b.derives c.derives)

  pub self : (x : Var) → Der L (V x) → Beneath L x x
  self x d = beneath x x (sub_self (embed L.order L.lines d.derives))

  line : {x y : Var} → HasSub L x y → Beneath L x y
  line {x} {y} c = beneath x y (sub_line c)

  co : {x y : Var} (l : Label) → Beneath L x y → Der L (V (dot y l)) → label_variance l ≡ Co → Beneath L (dot x l) (dot y l)
  co {x} {y} l b d e = beneath (dot x l) (dot y l) (sub_co l b.derives (embed L.order L.lines d.derives) e)

  contra : {x y : Var} (l : Label) → Beneath L x y → Der L (V (dot y l)) → label_variance l ≡ Contra → Beneath L (dot y l) (dot x l)
  contra {x} {y} l b d e = beneath (dot y l) (dot x l) (sub_contra l b.derives (embed L.order L.lines d.derives) e)

  -- load and store of what can be read and written through
  pub pointers : (x : Var) → Flip L x → Mutual L (dot x Load) (dot x Store)
  pointers x f = (
    beneath (dot x Load) (dot x Store)
        (loose_pointer (dv x) (embed L.order L.lines f.0.derives) (embed L.order L.lines f.1.derives)),
    beneath (dot x Store) (dot x Load)
        (sub_pointer (dv x) (embed L.order L.lines f.0.derives) (embed L.order L.lines f.1.derives)),
  )

  pub either_pointer : (x : Var) (l m : Label) → IsPointer l → IsPointer m → Flip L x → Mutual L (dot x l) (dot x m)
  either_pointer x Load Load p q f = (self (dot x Load) f.0, self (dot x Load) f.0)
  either_pointer x Load Store p q f = pointers x f
  either_pointer x Store Load p q f = let b : Mutual L (dot x Load) (dot x Store) = pointers x f in (b.1, b.0)
  either_pointer x Store Store p q f = (self (dot x Store) f.1, self (dot x Store) f.1)
  either_pointer x (Field wide off) m p q f = absurd p
  either_pointer x (In loc) m p q f = absurd p
  either_pointer x (Out n) m p q f = absurd p
  either_pointer x Load (Field wide off) p q f = absurd q
  either_pointer x Load (In loc) p q f = absurd q
  either_pointer x Load (Out n) p q f = absurd q
  either_pointer x Store (Field wide off) p q f = absurd q
  either_pointer x Store (In loc) p q f = absurd q
  either_pointer x Store (Out n) p q f = absurd q

  -- what is behind letters, by their variance
  Turns-contra : (b : Variance) (x y : Var) → Turns L b y x → Turns L (times Contra b) x y
  Turns-contra Co x y h = h
  Turns-contra Contra x y h = h

  by_sign : (z : List Label) (l : Label) (x y : Var) (s : Variance) → label_variance l ≡ s →
      (label_variance l ≡ Co → Turns L (variance_of_word z) (rest (dot x l) z) (rest (dot y l) z)) →
      (label_variance l ≡ Contra → Turns L (variance_of_word z) (rest (dot y l) z) (rest (dot x l) z)) →
      Turns L (times (label_variance l) (variance_of_word z)) (rest (dot x l) z) (rest (dot y l) z)
  by_sign z l x y Co e f g = rw e (f e)
  by_sign z l x y Contra e f g = rw e (Turns-contra (variance_of_word z) (rest (dot x l) z) (rest (dot y l) z) (g e))

  pub behind : (z : List Label) (x y : Var) → Beneath L x y → Der L (V (rest y z)) → Turns L (variance_of_word z) (rest x z) (rest y z)
  behind [] x y h d = h
  behind (l ∷ z) x y h d =
      by_sign z l x y (label_variance l) refl
      (λ e. behind z (dot x l) (dot y l) (co l h (prefix L z d) e) d)
      (λ e. behind z (dot y l) (dot x l) (contra l h (prefix L z d) e) (both L (same_rest L z (q5 l (q3 (same_of h)) (prefix L z d)) d)).1)

  pair_by : (s : Variance) (x y : Var) → Turns L s x y → Turns L s y x → Mutual L x y
  pair_by Co x y b c = (b, c)
  pair_by Contra x y b c = (c, b)

  pub mutual_behind : (z : List Label) (x y : Var) → Mutual L x y → Der L (V (rest x z)) → Mutual L (rest x z) (rest y z)
  mutual_behind z x y b d =
      let e : Der L (V (rest y z)) = (both L (same_rest L z (same_of b.0) d)).1 in
      pair_by (variance_of_word z) (rest x z) (rest y z) (behind z x y b.0 e) (behind z y x b.1 d)

  -- letters of the other variance, which are behind each variable of the shape as good as these
  record Exchange (x : Var) (z : List Label) : Type 0 where
    word : List Label
    turns : variance_of_word word ≡ times Contra (variance_of_word z)
    there : Der L (V (rest x word))
    alike : (y : Var) → Der L (E x y) → Mutual L (rest y z) (rest y word)

  other-pointer : (l : Label) → IsPointer l → IsPointer (other l)
  other-pointer Load p = tt
  other-pointer Store p = tt
  other-pointer (In a) p = absurd p
  other-pointer (Out n) p = absurd p
  other-pointer (Field w k) p = absurd p

  other-turns : (l : Label) (s : Variance) → IsPointer l → times (label_variance (other l)) s ≡ times Contra (times (label_variance l) s)
  other-turns Load s p = refl
  other-turns Store Co p = refl
  other-turns Store Contra p = refl
  other-turns (In a) s p = absurd p
  other-turns (Out n) s p = absurd p
  other-turns (Field w k) s p = absurd p

  flip_along : {x y : Var} → Der L (E x y) → Flip L x → Flip L y
  flip_along e f = (e4 Load e f.0, e4 Store e f.1)

  exchange_here : (x : Var) (l : Label) (z : List Label) → Der L (V (rest (dot x l) z)) → IsPointer l → Flip L x → Exchange x (l ∷ z)
  exchange_here x l z d p f = record {
    word = other l ∷ z;
    turns = other-turns l (variance_of_word z) p;
    there = (both L (same_rest L z (pointer_same L x l (other l) p (other-pointer l p) f.0 f.1) d)).1;
    alike = λ y e.
        mutual_behind z (dot y l) (dot y (other l)) (either_pointer y l (other l) p (other-pointer l p) (flip_along e f))
        (both L (same_rest L z (q5 l e (prefix L z d)) d)).1;
  }

  exchange : (z : List Label) (x : Var) → Der L (V (rest x z)) → HasPlace L x z → Exchange x z
  exchange [] x d h = absurd h
  exchange (l ∷ z) x d (inl h) = exchange_here x l z d h.0 h.1
  exchange (l ∷ z) x d (inr h) =
      let r : Exchange (dot x l) z = exchange z (dot x l) d h in record {
        word = l ∷ r.word;
        turns = ap (times (label_variance l)) r.turns ∙ sym (times-turn (label_variance l) (variance_of_word z));
        there = r.there;
        alike = λ y e. r.alike (dot y l) (q5 l e (prefix L z d));
      }

  -- along a line, behind letters that can be exchanged
  line_turns : (z : List Label) (x y : Var) → HasSub L x y → Der L (V (rest x z)) → Turns L (variance_of_word z) (rest x z) (rest y z)
  line_turns z x y c d = behind z x y (line c) (both L (same_rest L z (q1 (s1 c)) d)).1

  both_ways : (s : Variance) (a b c d : Var) → Mutual L a c → Mutual L b d → Turns L s a b → Turns L (times Contra s) c d → Mutual L a b
  both_ways Co a b c d p q t u = (t, chain q.0 (chain u p.1))
  both_ways Contra a b c d p q t u = (chain p.0 (chain u q.1), t)

  line_mutual : (z : List Label) (x y : Var) → HasSub L x y → Der L (V (rest x z)) → HasPlace L x z → Mutual L (rest x z) (rest y z)
  line_mutual z x y c d h =
      let r : Exchange x z = exchange z x d h in
      both_ways (variance_of_word z) (rest x z) (rest y z) (rest x r.word) (rest y r.word)
      (r.alike x (q2 (prefix L z d))) (r.alike y (q1 (s1 c))) (line_turns z x y c d)
      (subst (λ s. Turns L s (rest x r.word) (rest y r.word)) r.turns (line_turns r.word x y c r.there))

  place_along : (z : List Label) {x y : Var} → Der L (E x y) → Der L (V (rest x z)) → HasPlace L x z → HasPlace L y z
  place_along [] e d h = h
  place_along (l ∷ z) e d (inl h) = inl (h.0, flip_along e h.1)
  place_along (l ∷ z) e d (inr h) = inr (place_along z (q5 l e (prefix L z d)) d h)

  fits_along : (k : Kind) (z : List Label) {x y : Var} → Der L (E x y) → Der L (V (rest x z)) → Fits L x z k → Fits L y z k
  fits_along flexible z e d h = place_along z e d h
  fits_along (signed a) z e d h = h

  module _ (M : Var → Type 0) where
    end_there : (z : List Label) {x y : Var} {k : Kind} → Path L M x y k → Der L (V (rest x z)) → Der L (V (rest y z))
    end_there z b d = (both L (same_rest L z (path_same L M b) d)).1

    fits_longer : (l : Label) (k : Kind) (x : Var) (z : List Label) → Fits L (dot x l) z k → Fits L x (l ∷ z) (before l k)
    fits_longer l flexible x z h = inr h
    fits_longer l (signed a) x z h = ap (times (label_variance l)) h

    pub sound : {x y : Var} {k : Kind} → Path L M x y k → (z : List Label) → Der L (V (rest x z)) → Fits L x z k →
        Beneath L (rest x z) (rest y z)
    sound (here {x} k m v) z d h = self (rest x z) d
    sound (up {x} {y} c) z d h = subst (λ s. Turns L s (rest x z) (rest y z)) h (line_turns z x y c d)
    sound (down {x} {y} c) z d h =
        subst (λ s. Turns L s (rest x z) (rest y z)) h (line_turns z x y c (both L (same_rest L z (q3 (q1 (s1 c))) d)).1)
    sound (flexible_up {x} {y} c) z d h = (line_mutual z x y c d h).0
    sound (flexible_down {x} {y} c) z d h =
        let e : Der L (E y x) = q3 (q1 (s1 c)) in
        (line_mutual z x y c (both L (same_rest L z e d)).1 (place_along z e d h)).1
    sound (join {k} b c) z d h =
        chain (sound b z d h) (sound c z (end_there z b d) (fits_along k z (path_same L M b) d h))
    sound (push {x} {y} {l} {m} p q v w b (half i j f)) z d h =
        let first : Beneath L (rest (dot x l) z) (rest (dot y l) z) = sound b (l ∷ z) d (inl (i, flip_of L x f)) in
        let there : Der L (V (rest (dot y l) z)) = end_there (l ∷ z) b d in
        chain first (mutual_behind z (dot y l) (dot y m) (either_pointer y l m i j (flip_of L y (flips_to L (path_same L M b) f))) there).0
    sound (push {x} {y} {l} {k} p q v w b kept) z d h = sound b (l ∷ z) d (fits_longer l k x z h)
