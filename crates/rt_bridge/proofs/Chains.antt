-- Spellings of a word and their numbers: a greater number lies above, and so counted judgements are sound.
use Rattle.std.proofs.Common.{◌≡◌, ℕ, zero, suc, ◌⊎◌, inl, inr, List, [], ◌∷◌, refl, ap, sym, ◌∙◌, subst, arith, ◌≤◌, ◌+◌, Bool, true, false, cond}
use Rattle.rt_lines.specs.declared.label.Label.{Label}
use Rattle.rt_lines.specs.declared.label.Label.TheVariants.{In, Out, Load, Store, Field}
use Rattle.rt_lines.specs.declared.label.Variance.{Variance}
use Rattle.rt_lines.specs.declared.label.Variance.TheVariants.{Co, Contra}
use Rattle.rt_lines.specs.Words.{label_variance, times, variance_of_word}
use Rattle.rt_bridge.specs.Growing.{Var, dot, rest, Given, V, E, S, Der}
use Rattle.rt_bridge.specs.Counted.{bit, differ, IsEven, State, st, IsPointer, Push, half, kept, Bridge, here, turn, up, down, join, push, Flip}
use Rattle.rt_bridge.proofs.Growing.{e4, q1, q2, q3, q4, q5, s1, s2, s3, s6, both, prefix, same_rest, Turned, below_rest}
use Rattle.rt_bridge.proofs.Bridges.{pointer_same, bridge_same, differ-times, bridge_even, bits_keep}
use Rattle.rt_bridge.proofs.Eliminating.{le_or}
use Rattle.rt_base.proofs.Booleans.{same_truth}

-- numbers by their lowest bit
pub record Halved (m : ℕ) : Type 0 where
  low : Variance
  half_of : ℕ
  whole : m ≡ bit low + (half_of + half_of)

pub next_by : (m h : ℕ) (a : Variance) → m ≡ bit a + (h + h) → Halved (suc m)
next_by m h Co e = record { low = Contra; half_of = suc h; whole = omega arith }
next_by m h Contra e = record { low = Co; half_of = h; whole = omega arith }

pub halve : (m : ℕ) → Halved m
halve zero = record { low = Contra; half_of = 0; whole = refl }
halve (suc m) = next_by m (halve m).half_of (halve m).low (halve m).whole

bits_low : (a b : Variance) (m n : ℕ) → bit a + (m + m) ≤ bit b + (n + n) → m ≤ n
bits_low Co Co m n h = omega arith
bits_low Co Contra m n h = omega arith
bits_low Contra Co m n h = omega arith
bits_low Contra Contra m n h = omega arith

-- the pointer letter that makes the lowest bit c before a rest of sign s
abbrev letter_for : Variance → Variance → Label
letter_for Co Co = Load
letter_for Co Contra = Store
letter_for Contra Co = Store
letter_for Contra Contra = Load

pub letter_for-bit : (c s : Variance) → times (label_variance (letter_for c s)) s ≡ c
letter_for-bit Co Co = refl
letter_for-bit Co Contra = refl
letter_for-bit Contra Co = refl
letter_for-bit Contra Contra = refl

pub letter_for-pointer : (c s : Variance) → IsPointer (letter_for c s)
letter_for-pointer Co Co = tt
letter_for-pointer Co Contra = tt
letter_for-pointer Contra Co = tt
letter_for-pointer Contra Contra = tt

letters_equal : (l m : Label) (s : Variance) → IsPointer l → IsPointer m → bit (times (label_variance l) s) ≡ bit (times (label_variance m) s) → l ≡ m
letters_equal Load Load s p q e = refl
letters_equal Store Store s p q e = refl
letters_equal Load Store Co p q e = absurd (omega arith)
letters_equal Load Store Contra p q e = absurd (omega arith)
letters_equal Store Load Co p q e = absurd (omega arith)
letters_equal Store Load Contra p q e = absurd (omega arith)
letters_equal (Field wide off) m s p q e = absurd p
letters_equal (In loc) m s p q e = absurd p
letters_equal (Out n) m s p q e = absurd p
letters_equal Load (Field wide off) s p q e = absurd q
letters_equal Load (In loc) s p q e = absurd q
letters_equal Load (Out n) s p q e = absurd q
letters_equal Store (Field wide off) s p q e = absurd q
letters_equal Store (In loc) s p q e = absurd q
letters_equal Store (Out n) s p q e = absurd q

bits_equal : (a b : Variance) (m n : ℕ) → bit a + (m + m) ≡ bit b + (n + n) → (bit a ≡ bit b) × (m ≡ n)
bits_equal Co Co m n h = (refl, omega arith)
bits_equal Co Contra m n h = absurd (omega arith)
bits_equal Contra Co m n h = absurd (omega arith)
bits_equal Contra Contra m n h = (refl, omega arith)

bits_high : (a b : Variance) (m n : ℕ) → bit a + (m + m) ≤ bit b + (n + n) → n ≤ m → (m ≡ n) × (bit a ≤ bit b)
bits_high Co Co m n h k = (omega arith, omega arith)
bits_high Co Contra m n h k = absurd (omega arith)
bits_high Contra Co m n h k = (omega arith, omega arith)
bits_high Contra Contra m n h k = (omega arith, omega arith)

-- of two letters before a rest, at one sign of the rest the first gives the lower bit, at the other the second
bits_turn : (a b c d : Variance) → suc (bit (times b c)) ≤ bit (times a c) → IsEven (1 + differ c d) → bit (times a d) ≤ bit (times b d)
bits_turn Co Co c d h e = absurd (omega arith)
bits_turn Contra Contra c d h e = absurd (omega arith)
bits_turn Co Contra Co Co h e = absurd (omega arith)
bits_turn Co Contra Co Contra h e = omega arith
bits_turn Co Contra Contra d h e = absurd (omega arith)
bits_turn Contra Co Co d h e = absurd (omega arith)
bits_turn Contra Co Contra Co h e = omega arith
bits_turn Contra Co Contra Contra h e = absurd (omega arith)

odd_step : (n m e : ℕ) → m ≡ suc n → IsEven ((n + m) + e) → IsEven (1 + e)
odd_step n m e h p = omega arith

abbrev pub is_pointer : Label → Bool
is_pointer Load = true
is_pointer Store = true
is_pointer (Field wide off) = false
is_pointer (In loc) = false
is_pointer (Out n) = false

module _ (fl : Var → Bool) where
  abbrev pub place : Var → Label → Bool
  place x l = cond (is_pointer l) (fl x) false

  abbrev pub num : Var → List Label → ℕ
  num x [] = 0
  num x (l ∷ z) = cond (place x l) (bit (times (label_variance l) (variance_of_word z)) + (num (dot x l) z + num (dot x l) z)) (num (dot x l) z)

  pub data Spell : Var → List Label → List Label → Type 0 where
    nil : {x : Var} → Spell x [] []
    keep : {x : Var} (l : Label) {r s : List Label} → place x l ≡ false → Spell (dot x l) r s → Spell x (l ∷ r) (l ∷ s)
    swap : {x : Var} (l m : Label) {r s : List Label} → place x l ≡ true → place x m ≡ true → Spell (dot x l) r s → Spell x (l ∷ r) (m ∷ s)

  pub num_plain : (x : Var) (l : Label) (z : List Label) → place x l ≡ false → num x (l ∷ z) ≡ num (dot x l) z
  num_plain x l z e = rw e refl

  pub num_flip : (x : Var) (l : Label) (z : List Label) → place x l ≡ true → num x (l ∷ z) ≡ bit (times (label_variance l) (variance_of_word z)) + (num (dot x l) z + num (dot x l) z)
  num_flip x l z e = rw e refl

  pub place_pointer : (x : Var) (l : Label) → place x l ≡ true → IsPointer l
  place_pointer x Load e = tt
  place_pointer x Store e = tt
  place_pointer x (Field wide off) e = absurd (cc)
  place_pointer x (In loc) e = absurd (cc)
  place_pointer x (Out n) e = absurd (cc)

  pub place_of : (x : Var) (l : Label) → IsPointer l → fl x ≡ true → place x l ≡ true
  place_of x Load p e = e
  place_of x Store p e = e
  place_of x (Field wide off) p e = absurd p
  place_of x (In loc) p e = absurd p
  place_of x (Out n) p e = absurd p

  pub place_flips : (x : Var) (l : Label) → place x l ≡ true → fl x ≡ true
  place_flips x Load e = e
  place_flips x Store e = e
  place_flips x (Field wide off) e = absurd (cc)
  place_flips x (In loc) e = absurd (cc)
  place_flips x (Out n) e = absurd (cc)

  module _ (L : Given) (yes : (x : Var) → fl x ≡ true → Flip L x) (no : (x : Var) → Flip L x → fl x ≡ true) where
    pub fl_class : (x y : Var) → Der L (E x y) → fl x ≡ fl y
    fl_class x y e = same_truth (fl x) (fl y)
        (λ h. no y (e4 Load e (yes x h).0, e4 Store e (yes x h).1))
        (λ h. no x (e4 Load (q3 e) (yes y h).0, e4 Store (q3 e) (yes y h).1))

    pub place_class : (x y : Var) (l : Label) → Der L (E x y) → place x l ≡ place y l
    place_class x y Load e = fl_class x y e
    place_class x y Store e = fl_class x y e
    place_class x y (Field wide off) e = refl
    place_class x y (In loc) e = refl
    place_class x y (Out n) e = refl

    pub num_class : (r : List Label) (x y : Var) → Der L (E x y) → Der L (V (rest x r)) → num x r ≡ num y r
    num_class [] x y e d = refl
    num_class (l ∷ r) x y e d = rw (place_class x y l e, num_class r (dot x l) (dot y l) (q5 l e (prefix L r d)) d) refl

    pub letters_same : (x : Var) (l m : Label) → place x l ≡ true → place x m ≡ true → Der L (E (dot x l) (dot x m))
    letters_same x l m p q =
        pointer_same L x l m (place_pointer x l p) (place_pointer x m q) (yes x (place_flips x l p)).0 (yes x (place_flips x l p)).1

    pub spell_class : {x : Var} {w r : List Label} (y : Var) → Spell x w r → Der L (E x y) → Der L (V (rest x w)) → Spell y w r
    spell_class y nil e d = nil
    spell_class {x} y (keep l {r = w} p s) e d = keep l (sym (place_class x y l e) ∙ p) (spell_class (dot y l) s (q5 l e (prefix L w d)) d)
    spell_class {x} y (swap l m {r = w} p q s) e d =
        swap l m (sym (place_class x y l e) ∙ p) (sym (place_class x y m e) ∙ q) (spell_class (dot y l) s (q5 l e (prefix L w d)) d)

    pub spell_same : {x : Var} {w r : List Label} → Spell x w r → Der L (V (rest x w)) → Der L (E (rest x w) (rest x r))
    spell_same nil d = q2 d
    spell_same (keep l p s) d = spell_same s d
    spell_same {x} (swap l m {s = r} p q s) d =
        q4 (spell_same s d) (same_rest L r (letters_same x l m p q) (both L (spell_same s d)).1)

    -- the number of the tail, at either letter
    pub tail_num : (x : Var) (l m : Label) {w r : List Label} → place x l ≡ true → place x m ≡ true → Spell (dot x l) w r → Der L (V (rest (dot x l) w)) →
        num (dot x m) r ≡ num (dot x l) r
    tail_num x l m {r} p q s d = num_class r (dot x m) (dot x l) (q3 (letters_same x l m p q))
        (both L (same_rest L r (letters_same x l m p q) (both L (spell_same s d)).1)).1

    -- parity
    bits_parity : (a b : Variance) (i j : ℕ) → IsEven (((bit a + (i + i)) + (bit b + (j + j))) + differ a b)
    bits_parity Co Co i j = omega arith
    bits_parity Co Contra i j = omega arith
    bits_parity Contra Co i j = omega arith
    bits_parity Contra Contra i j = omega arith

    pub parity : {x : Var} {w r s : List Label} → Spell x w r → Spell x w s → IsEven ((num x r + num x s) + differ (variance_of_word r) (variance_of_word s))
    parity nil nil = refl
    parity {x} (keep l {s = r} p a) (keep _ {s = t} q b) =
        rw (num_plain x l r p, num_plain x l t p, differ-times (label_variance l) (variance_of_word r) (variance_of_word t)) (parity a b)
    parity (keep l p a) (swap _ m q q' b) = absurd (cc)
    parity (swap l m p p' a) (keep _ q b) = absurd (cc)
    parity {x} (swap l m {s = r} p p' a) (swap _ o {s = t} q q' b) =
        rw (num_flip x m r p', num_flip x o t q') (bits_parity (times (label_variance m) (variance_of_word r)) (times (label_variance o) (variance_of_word t)) (num (dot x m) r) (num (dot x o) t))

    pub record Between (x : Var) (w : List Label) (m : ℕ) : Type 0 where
      word : List Label
      spells : Spell x w word
      counts : num x word ≡ m

    pub between : {x : Var} {w r s : List Label} (m : ℕ) → Spell x w r → Spell x w s → Der L (V (rest x w)) → num x r ≤ m → m ≤ num x s → Between x w m
    between m nil nil d h k = record { word = []; spells = nil; counts = omega arith }
    between {x} m (keep l {s = r} p a) (keep _ {s = t} q b) d h k =
        let z : Between (dot x l) _ m = between m a b d (rw (num_plain x l r p) at h) (rw (num_plain x l t p) at k) in
        record { word = l ∷ z.word; spells = keep l p z.spells; counts = num_plain x l z.word p ∙ z.counts }
    between m (keep l p a) (swap _ o q q' b) d h k = absurd (cc)
    between m (swap l o p p' a) (keep _ q b) d h k = absurd (cc)
    between {x} m (swap l o {r = w} {s = r} p p' a) (swap _ u {s = t} q q' b) d h k =
        let c : Halved m = halve m in
        let h' : bit (times (label_variance o) (variance_of_word r)) + (num (dot x l) r + num (dot x l) r) ≤ m = rw (num_flip x o r p', tail_num x l o p p' a d) at h in
        let k' : m ≤ bit (times (label_variance u) (variance_of_word t)) + (num (dot x l) t + num (dot x l) t) = rw (num_flip x u t q', tail_num x l u p q' b d) at k in
        let z : Between (dot x l) w c.half_of = between c.half_of a b d
        (bits_low (times (label_variance o) (variance_of_word r)) c.low (num (dot x l) r) c.half_of (omega (arith, c.whole)))
        (bits_low c.low (times (label_variance u) (variance_of_word t)) c.half_of (num (dot x l) t) (omega (arith, c.whole))) in
        let v : Label = letter_for c.low (variance_of_word z.word) in
        let pv : place x v ≡ true = place_of x v (letter_for-pointer c.low (variance_of_word z.word)) (place_flips x l p) in
        record {
          word = v ∷ z.word;
          spells = swap l v p pv z.spells;
          counts = num_flip x v z.word pv ∙ (rw (letter_for-bit c.low (variance_of_word z.word), tail_num x l v p pv z.spells d, z.counts) (sym c.whole));
        }

    pub one_spelling : {x : Var} {w r s : List Label} → Spell x w r → Spell x w s → Der L (V (rest x w)) → num x r ≡ num x s → r ≡ s
    one_spelling nil nil d e = refl
    one_spelling {x} (keep l {s = r} p a) (keep _ {s = t} q b) d e =
        ap (λ z. l ∷ z) (one_spelling a b d (rw (num_plain x l r p, num_plain x l t p) at e))
    one_spelling (keep l p a) (swap _ o q q' b) d e = absurd (cc)
    one_spelling (swap l o p p' a) (keep _ q b) d e = absurd (cc)
    one_spelling {x} (swap l o {s = r} p p' a) (swap _ u {s = t} q q' b) d e =
        let e' : bit (times (label_variance o) (variance_of_word r)) + (num (dot x l) r + num (dot x l) r) ≡ bit (times (label_variance u) (variance_of_word t)) + (num (dot x l) t + num (dot x l) t)
        = rw (num_flip x o r p', tail_num x l o p p' a d, num_flip x u t q', tail_num x l u p q' b d) at e in
        let f : (bit (times (label_variance o) (variance_of_word r)) ≡ bit (times (label_variance u) (variance_of_word t))) × (num (dot x l) r ≡ num (dot x l) t)
        = bits_equal (times (label_variance o) (variance_of_word r)) (times (label_variance u) (variance_of_word t)) (num (dot x l) r) (num (dot x l) t) e' in
        let g : r ≡ t = one_spelling a b d f.1 in
        let h : bit (times (label_variance o) (variance_of_word t)) ≡ bit (times (label_variance u) (variance_of_word t)) = rw g at f.0 in
        let i : o ≡ u = letters_equal o u (variance_of_word t) (place_pointer x o p') (place_pointer x u q') h in
        rw (i, g) refl

    below_co : (z : List Label) (x y : Var) → variance_of_word z ≡ Co → Der L (S x y) → Der L (V (rest y z)) → Der L (S (rest x z) (rest y z))
    below_co z x y e h d = subst (λ s. Turned L s (rest x z) (rest y z)) e (below_rest L z x y h d)

    below_contra : (z : List Label) (x y : Var) → variance_of_word z ≡ Contra → Der L (S x y) → Der L (V (rest y z)) → Der L (S (rest y z) (rest x z))
    below_contra z x y e h d = subst (λ s. Turned L s (rest x z) (rest y z)) e (below_rest L z x y h d)

    letter_by : (x : Var) (l m : Label) (r : List Label) (s : Variance) → variance_of_word r ≡ s → IsPointer l → IsPointer m → Flip L x → Der L (V (rest (dot x l) r)) → Der L (V (rest (dot x m) r)) →
        bit (times (label_variance l) s) ≤ bit (times (label_variance m) s) → Der L (S (rest (dot x l) r) (rest (dot x m) r))
    letter_by x Load Load r s e p q f d d' h = s2 d
    letter_by x Store Store r s e p q f d d' h = s2 d
    letter_by x Store Load r Co e p q f d d' h = below_co r (dot x Store) (dot x Load) e (s6 f.0 f.1) d'
    letter_by x Store Load r Contra e p q f d d' h = absurd (omega arith)
    letter_by x Load Store r Co e p q f d d' h = absurd (omega arith)
    letter_by x Load Store r Contra e p q f d d' h = below_contra r (dot x Store) (dot x Load) e (s6 f.0 f.1) d
    letter_by x (Field wide off) m r s e p q f d d' h = absurd p
    letter_by x (In loc) m r s e p q f d d' h = absurd p
    letter_by x (Out n) m r s e p q f d d' h = absurd p
    letter_by x Load (Field wide off) r s e p q f d d' h = absurd q
    letter_by x Load (In loc) r s e p q f d d' h = absurd q
    letter_by x Load (Out n) r s e p q f d d' h = absurd q
    letter_by x Store (Field wide off) r s e p q f d d' h = absurd q
    letter_by x Store (In loc) r s e p q f d d' h = absurd q
    letter_by x Store (Out n) r s e p q f d d' h = absurd q

    -- one letter, where its bit doesn't fall
    one_letter : (x : Var) (l m : Label) (r : List Label) → place x l ≡ true → place x m ≡ true → Der L (V (rest (dot x l) r)) →
        bit (times (label_variance l) (variance_of_word r)) ≤ bit (times (label_variance m) (variance_of_word r)) → Der L (S (rest (dot x l) r) (rest (dot x m) r))
    one_letter x l m r p q d h = letter_by x l m r (variance_of_word r) refl (place_pointer x l p) (place_pointer x m q) (yes x (place_flips x l p)) d
        (both L (same_rest L r (letters_same x l m p q) d)).1 h

    abbrev Chain : List Label → Var → Type 0
    Chain w x = (r s : List Label) → Spell x w r → Spell x w s → Der L (V (rest x w)) → num x r ≤ num x s → Der L (S (rest x r) (rest x s))

    -- a step of the chain at a flipping place; k is the letter of the pattern
    chain_equal : (x : Var) (k l m : Label) (w r s : List Label) → place x k ≡ true → place x l ≡ true → place x m ≡ true → Spell (dot x k) w r → Spell (dot x k) w s →
        Der L (V (rest (dot x k) w)) → num (dot x k) r ≡ num (dot x k) s → bit (times (label_variance l) (variance_of_word r)) ≤ bit (times (label_variance m) (variance_of_word s)) → Der L (S (rest (dot x l) r) (rest (dot x m) s))
    chain_equal x k l m w r s pk pl pm a b d e h =
        let g : r ≡ s = one_spelling a b d e in
        let h' : bit (times (label_variance l) (variance_of_word s)) ≤ bit (times (label_variance m) (variance_of_word s)) = rw g at h in
        let ds : Der L (V (rest (dot x l) s)) = (both L (same_rest L s (letters_same x k l pk pl) (both L (spell_same b d)).1)).1 in
        rw g (one_letter x l m s pl pm ds h')

    -- the word of the pattern with another first letter
    head_var : (x : Var) (k l : Label) (w : List Label) → place x k ≡ true → place x l ≡ true → Der L (V (rest (dot x k) w)) → Der L (V (rest (dot x l) w))
    head_var x k l w pk pl d = (both L (same_rest L w (letters_same x k l pk pl) d)).1

    pub spell_var : {x : Var} {w r : List Label} → Spell x w r → Der L (V (rest x w)) → Der L (V (rest x r))
    spell_var a d = (both L (spell_same a d)).1

    -- at a flipping place, from the chain of the tails; all spelled over the letter k
    chain_less : (x : Var) (k l m : Label) (w r s : List Label) → ((y : Var) → Chain w y) → place x k ≡ true → place x l ≡ true → place x m ≡ true →
        Spell (dot x k) w r → Spell (dot x k) w s → Der L (V (rest (dot x k) w)) → suc (num (dot x k) r) ≤ num (dot x k) s →
        (bit (times (label_variance l) (variance_of_word s)) ≤ bit (times (label_variance m) (variance_of_word s))) ⊎ (suc (bit (times (label_variance m) (variance_of_word s))) ≤ bit (times (label_variance l) (variance_of_word s))) →
        (bit (times (label_variance l) (variance_of_word r)) ≤ bit (times (label_variance m) (variance_of_word r))) ⊎ (suc (bit (times (label_variance m) (variance_of_word r))) ≤ bit (times (label_variance l) (variance_of_word r))) →
        Der L (S (rest (dot x l) r) (rest (dot x m) s))
    chain_less x k l m w r s c pk pl pm a b d h (inl i) j =
        let dl : Der L (V (rest (dot x l) w)) = head_var x k l w pk pl d in
        let al : Spell (dot x l) w r = spell_class (dot x l) a (letters_same x k l pk pl) d in
        let bl : Spell (dot x l) w s = spell_class (dot x l) b (letters_same x k l pk pl) d in
        s3 (c (dot x l) r s al bl dl (rw (tail_num x k l pk pl a d, tail_num x k l pk pl b d) (omega arith)))
        (one_letter x l m s pl pm (spell_var bl dl) i)
    chain_less x k l m w r s c pk pl pm a b d h (inr i) (inl j) =
        let dl : Der L (V (rest (dot x l) w)) = head_var x k l w pk pl d in
        let dm : Der L (V (rest (dot x m) w)) = head_var x k m w pk pm d in
        let al : Spell (dot x l) w r = spell_class (dot x l) a (letters_same x k l pk pl) d in
        let am : Spell (dot x m) w r = spell_class (dot x m) a (letters_same x k m pk pm) d in
        let bm : Spell (dot x m) w s = spell_class (dot x m) b (letters_same x k m pk pm) d in
        s3 (one_letter x l m r pl pm (spell_var al dl) j)
        (c (dot x m) r s am bm dm (rw (tail_num x k m pk pm a d, tail_num x k m pk pm b d) (omega arith)))
    chain_less x k l m w r s c pk pl pm a b d h (inr i) (inr j) =
        let z : Between (dot x k) w (suc (num (dot x k) r)) = between (suc (num (dot x k) r)) a b d (omega arith) h in
        let dl : Der L (V (rest (dot x l) w)) = head_var x k l w pk pl d in
        let dm : Der L (V (rest (dot x m) w)) = head_var x k m w pk pm d in
        let al : Spell (dot x l) w r = spell_class (dot x l) a (letters_same x k l pk pl) d in
        let zl : Spell (dot x l) w z.word = spell_class (dot x l) z.spells (letters_same x k l pk pl) d in
        let zm : Spell (dot x m) w z.word = spell_class (dot x m) z.spells (letters_same x k m pk pm) d in
        let bm : Spell (dot x m) w s = spell_class (dot x m) b (letters_same x k m pk pm) d in
        let e : IsEven (1 + differ (variance_of_word r) (variance_of_word z.word)) = odd_step (num (dot x k) r) (num (dot x k) z.word) (differ (variance_of_word r) (variance_of_word z.word)) z.counts (parity a z.spells) in
        let t : bit (times (label_variance l) (variance_of_word z.word)) ≤ bit (times (label_variance m) (variance_of_word z.word)) = bits_turn (label_variance l) (label_variance m) (variance_of_word r) (variance_of_word z.word) j e in
        s3 (c (dot x l) r z.word al zl dl (rw (tail_num x k l pk pl a d, tail_num x k l pk pl z.spells d) (omega (arith, z.counts))))
        (s3 (one_letter x l m z.word pl pm (spell_var zl dl) t)
        (c (dot x m) z.word s zm bm dm (rw (tail_num x k m pk pm z.spells d, tail_num x k m pk pm b d) (omega (arith, z.counts)))))

    chain_flip : (x : Var) (k l m : Label) (w r s : List Label) → ((y : Var) → Chain w y) → place x k ≡ true → place x l ≡ true → place x m ≡ true →
        Spell (dot x k) w r → Spell (dot x k) w s → Der L (V (rest (dot x k) w)) →
        bit (times (label_variance l) (variance_of_word r)) + (num (dot x k) r + num (dot x k) r) ≤ bit (times (label_variance m) (variance_of_word s)) + (num (dot x k) s + num (dot x k) s) →
        (num (dot x k) s ≤ num (dot x k) r) ⊎ (suc (num (dot x k) r) ≤ num (dot x k) s) → Der L (S (rest (dot x l) r) (rest (dot x m) s))
    chain_flip x k l m w r s c pk pl pm a b d h (inl i) =
        let e : (num (dot x k) r ≡ num (dot x k) s) × (bit (times (label_variance l) (variance_of_word r)) ≤ bit (times (label_variance m) (variance_of_word s)))
        = bits_high (times (label_variance l) (variance_of_word r)) (times (label_variance m) (variance_of_word s)) (num (dot x k) r) (num (dot x k) s) h i in
        chain_equal x k l m w r s pk pl pm a b d e.0 e.1
    chain_flip x k l m w r s c pk pl pm a b d h (inr i) =
        chain_less x k l m w r s c pk pl pm a b d i (le_or (bit (times (label_variance l) (variance_of_word s))) (bit (times (label_variance m) (variance_of_word s))))
        (le_or (bit (times (label_variance l) (variance_of_word r))) (bit (times (label_variance m) (variance_of_word r))))

    -- the chain is a counter: a greater number lies above
    pub chain : (w : List Label) (x : Var) → Chain w x
    chain [] x r s nil nil d h = s2 d
    chain (k ∷ w) x r s (keep _ {s = r'} p a) (keep _ {s = s'} q b) d h =
        chain w (dot x k) r' s' a b d (rw (num_plain x k r' p, num_plain x k s' p) at h)
    chain (k ∷ w) x r s (keep _ p a) (swap _ m q q' b) d h = absurd (cc)
    chain (k ∷ w) x r s (swap _ l p p' a) (keep _ q b) d h = absurd (cc)
    chain (k ∷ w) x r s (swap _ l {s = r'} p p' a) (swap _ m {s = s'} q q' b) d h =
        chain_flip x k l m w r' s' (λ y. chain w y) p p' q' a b d
        (rw (num_flip x l r' p', tail_num x k l p p' a d, num_flip x m s' q', tail_num x k m p q' b d) at h)
        (le_or (num (dot x k) s') (num (dot x k) r'))

    pub same_place : (x : Var) (l : Label) {w r : List Label} (b : Bool) → place x l ≡ b → Spell (dot x l) w r → Spell x (l ∷ w) (l ∷ r)
    same_place x l true e a = swap l l e e a
    same_place x l false e a = keep l e a

    sign_after : (a b c d : Variance) (i j k : ℕ) → a ≡ c → k ≡ i + j → IsEven (j + differ a b) → IsEven ((i + k) + differ c d) → d ≡ b
    sign_after Co Co Co Co i j k e f p q = refl
    sign_after Co Co Co Contra i j k e f p q = absurd (omega arith)
    sign_after Co Contra Co Co i j k e f p q = absurd (omega arith)
    sign_after Co Contra Co Contra i j k e f p q = refl
    sign_after Contra Co Contra Co i j k e f p q = refl
    sign_after Contra Co Contra Contra i j k e f p q = absurd (omega arith)
    sign_after Contra Contra Contra Co i j k e f p q = absurd (omega arith)
    sign_after Contra Contra Contra Contra i j k e f p q = refl
    sign_after Co b Contra d i j k e f p q = absurd (cc)
    sign_after Contra b Co d i j k e f p q = absurd (cc)

    pub kept_count : (x : Var) (l : Label) (w r s : List Label) (d : ℕ) (b : Bool) → place x l ≡ b → Spell (dot x l) w r → Spell (dot x l) w s →
        IsEven (d + differ (times (label_variance l) (variance_of_word r)) (times (label_variance l) (variance_of_word s))) → num (dot x l) r + d ≤ num (dot x l) s → num x (l ∷ r) + d ≤ num x (l ∷ s)
    kept_count x l w r s d false e a b p h = rw (num_plain x l r e, num_plain x l s e) h
    kept_count x l w r s d true e a b p h =
        rw (num_flip x l r e, num_flip x l s e) (omega (arith, bits_keep (times (label_variance l) (variance_of_word r)) (times (label_variance l) (variance_of_word s)) d p))

    abbrev pub Sound : State → State → ℕ → Type 0
    Sound x y k = (w r s : List Label) → Der L (V (rest x.var w)) → Spell x.var w r → Spell x.var w s → variance_of_word r ≡ x.sign → variance_of_word s ≡ y.sign →
        num x.var r + k ≤ num x.var s → Der L (S (rest x.var r) (rest y.var s))

    module _ (M : Var → Type 0) where
      sound_push : (x y : Var) (l m : Label) (a b : Variance) (d k : ℕ) → Der L (E x y) → IsEven (d + differ (times (label_variance l) a) (times (label_variance m) b)) →
          Sound (st x (times (label_variance l) a)) (st y (times (label_variance m) b)) d → Push L x l m d a b k → Sound (st (dot x l) a) (st (dot y m) b) k
      sound_push x y l m a b d k e v f (half p q g g' h i) w r s u ar bs sr ss n =
          let fx : fl x ≡ true = no x (g, g') in
          let pl : place x l ≡ true = place_of x l p fx in
          let pm : place x m ≡ true = place_of x m q fx in
          f (l ∷ w) (l ∷ r) (m ∷ s) u (swap l l pl pl ar) (swap l m pl pm bs) (rw sr refl) (rw ss refl)
          (rw (num_flip x l r pl, num_flip x m s pm, tail_num x l m pl pm bs u, sr, ss) (omega arith))
      sound_push x y l m a b d k e v f kept w r s u ar bs sr ss n =
          f (l ∷ w) (l ∷ r) (l ∷ s) u (same_place x l (place x l) refl ar) (same_place x l (place x l) refl bs) (rw sr refl) (rw ss refl)
          (kept_count x l w r s d (place x l) refl ar bs (rw (sr, ss) v) n)

      -- what has a bridge is derivable
      pub sound : {x y : State} {k : ℕ} → Bridge L M x y k → Sound x y k
      sound (here {x} a m v) w r s u ar bs sr ss n = chain w x r s ar bs u (omega arith)
      sound (turn {x} a m v) w r s u ar bs sr ss n = chain w x r s ar bs u (omega arith)
      sound (up {x} {y} m) w r s u ar bs sr ss n =
          s3 (chain w x r s ar bs u (omega arith)) (below_co s x y ss (s1 m) (both L (same_rest L s (q1 (s1 m)) (spell_var bs u))).1)
      sound (down {x} {y} m) w r s u ar bs sr ss n =
          s3 (chain w y r s ar bs u (omega arith)) (below_contra s x y ss (s1 m) (spell_var bs u))
      sound (join {x} {y} {z} {j} {k} b c) w r s u ar bs sr ss n =
          let t : Between x.var w (num x.var r + j) = between (num x.var r + j) ar bs u (omega arith) (omega arith) in
          let e : Der L (E x.var y.var) = bridge_same L M b in
          let st : variance_of_word t.word ≡ y.sign = sign_after x.sign y.sign (variance_of_word r) (variance_of_word t.word) (num x.var r) j (num x.var t.word) (sym sr) t.counts (bridge_even L M b) (parity ar t.spells) in
          s3 (sound b w r t.word u ar t.spells sr st (omega (arith, t.counts)))
          (sound c w t.word s (both L (same_rest L w e u)).1 (spell_class y.var t.spells e u) (spell_class y.var bs e u) st ss
          (rw (← num_class t.word x.var y.var e (spell_var t.spells u), ← num_class s x.var y.var e (spell_var bs u)) (omega (arith, t.counts))))
      sound (push {x} {y} {l} {m} {a} {b} {d} {k} q q' v v' c p) w r s u ar bs sr ss n =
          sound_push x y l m a b d k (bridge_same L M c) (bridge_even L M c) (sound c) p w r s u ar bs sr ss n

      pub derivable : {x y : Var} → Der L (V x) → Bridge L M (st x Co) (st y Co) 0 → Der L (S x y)
      derivable {x} v b = sound b [] [] [] v nil nil refl refl (omega arith)
