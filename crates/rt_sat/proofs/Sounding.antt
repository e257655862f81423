-- What counts nought between variables is derivable, by spellings of words of which it is known at some places alone that they flip.
use Rattle.std.proofs.Common.{◌≡◌, ℕ, zero, suc, ◌⊎◌, inl, inr, List, [], ◌∷◌, refl, ap, sym, arith, subst, ◌≤◌, ◌+◌, Bool, true, false}
use Rattle.rt_lines.specs.declared.label.Label.{Label}
use Rattle.rt_lines.specs.declared.label.Label.TheVariants.{In, Out, Load, Store, Field}
use Rattle.rt_lines.specs.declared.label.Variance.{Variance}
use Rattle.rt_lines.specs.declared.label.Variance.TheVariants.{Co, Contra}
use Rattle.rt_lines.specs.Words.{label_variance, times, variance_of_word}
use Rattle.rt_bridge.specs.Growing.{Var, dot, rest, Given, V, E, S, Der}
use Rattle.rt_bridge.specs.Counted.{bit, differ, IsEven, State, st, IsPointer, Push, half, kept, Bridge, here, turn, up, down, join, push, Flip}
use Rattle.rt_bridge.proofs.Growing.{e4, q1, q2, q4, q5, s1, s2, s3, s6, both, prefix, same_rest, Turned, below_rest}
use Rattle.rt_bridge.proofs.Bridges.{pointer_same, bridge_same, differ-times, bridge_even}
use Rattle.rt_bridge.proofs.Chains.{letter_for-bit, letter_for-pointer}
use Rattle.rt_bridge.proofs.Eliminating.{le_or}
use Rattle.rt_chain.proofs.Digits.{bit-small}

-- the number of a word where only some of its places flip
abbrev num : List Bool → List Label → ℕ
num [] z = 0
num (b ∷ p) [] = 0
num (true ∷ p) (l ∷ z) = bit (times (label_variance l) (variance_of_word z)) + (num p z + num p z)
num (false ∷ p) (l ∷ z) = num p z

-- spellings of a word behind a variable, at places that flip
data Spell (L : Given) : Var → List Bool → List Label → List Label → Type 0 where
  nil : {x : Var} → Spell L x [] [] []
  keep : {x : Var} {p : List Bool} (l : Label) {r s : List Label} → Spell L (dot x l) p r s → Spell L x (false ∷ p) (l ∷ r) (l ∷ s)
  swap : {x : Var} {p : List Bool} (l m : Label) {r s : List Label} → IsPointer l → IsPointer m → Flip L x → Spell L (dot x l) p r s → Spell L x (true ∷ p) (l ∷ r) (m ∷ s)

-- a number by its lowest bit
record Halved (m : ℕ) : Type 0 where
  low : Variance
  half_of : ℕ
  whole : m ≡ bit low + (half_of + half_of)

next_by : (m h : ℕ) (a : Variance) → m ≡ bit a + (h + h) → Halved (suc m)
next_by m h Co e = record { low = Contra; half_of = suc h; whole = omega arith }
next_by m h Contra e = record { low = Co; half_of = h; whole = omega arith }

halve : (m : ℕ) → Halved m
halve zero = record { low = Contra; half_of = 0; whole = refl }
halve (suc m) = next_by m (halve m).half_of (halve m).low (halve m).whole

bits_low : (a b : Variance) (m n : ℕ) → bit a + (m + m) ≤ bit b + (n + n) → m ≤ n
bits_low a b m n h = omega (arith, h, bit-small b)

bits_equal : (a b : Variance) (m n : ℕ) → bit a + (m + m) ≡ bit b + (n + n) → (bit a ≡ bit b) × (m ≡ n)
bits_equal a b m n h = (omega (arith, h, bit-small a, bit-small b), omega (arith, h, bit-small a, bit-small b))

bits_high : (a b : Variance) (m n : ℕ) → bit a + (m + m) ≤ bit b + (n + n) → n ≤ m → (m ≡ n) × (bit a ≤ bit b)
bits_high a b m n h k = (omega (arith, h, k, bit-small b), omega (arith, h, k, bit-small b))

letters_equal : (l m : Label) (s : Variance) → IsPointer l → IsPointer m → bit (times (label_variance l) s) ≡ bit (times (label_variance m) s) → l ≡ m
letters_equal Load Load s p q e = refl
letters_equal Store Store s p q e = refl
letters_equal Load Store Co p q e = absurd (omega arith)
letters_equal Load Store Contra p q e = absurd (omega arith)
letters_equal Store Load Co p q e = absurd (omega arith)
letters_equal Store Load Contra p q e = absurd (omega arith)
letters_equal (Field wide off) m s p q e = absurd p
letters_equal (In loc) m s p q e = absurd p
letters_equal (Out n) m s p q e = absurd p
letters_equal Load (Field wide off) s p q e = absurd q
letters_equal Load (In loc) s p q e = absurd q
letters_equal Load (Out n) s p q e = absurd q
letters_equal Store (Field wide off) s p q e = absurd q
letters_equal Store (In loc) s p q e = absurd q
letters_equal Store (Out n) s p q e = absurd q

-- of two letters before a rest, at one sign of the rest the first gives the lower bit, at the other the second
bits_turn : (a b c d : Variance) → suc (bit (times b c)) ≤ bit (times a c) → IsEven (1 + differ c d) → bit (times a d) ≤ bit (times b d)
bits_turn Co Co c d h e = absurd (omega arith)
bits_turn Contra Contra c d h e = absurd (omega arith)
bits_turn Co Contra Co Co h e = absurd (omega arith)
bits_turn Co Contra Co Contra h e = omega arith
bits_turn Co Contra Contra d h e = absurd (omega arith)
bits_turn Contra Co Co d h e = absurd (omega arith)
bits_turn Contra Co Contra Co h e = omega arith
bits_turn Contra Co Contra Contra h e = absurd (omega arith)

odd_step : (n m e : ℕ) → m ≡ suc n → IsEven ((n + m) + e) → IsEven (1 + e)
odd_step n m e h p = omega arith

bits_parity : (a b : Variance) (i j : ℕ) → IsEven (((bit a + (i + i)) + (bit b + (j + j))) + differ a b)
bits_parity Co Co i j = omega arith
bits_parity Co Contra i j = omega arith
bits_parity Contra Co i j = omega arith
bits_parity Contra Contra i j = omega arith

-- the sign of what counts so much
sign_after : (a b c d : Variance) (i j k : ℕ) → a ≡ c → k ≡ i + j → IsEven (j + differ a b) → IsEven ((i + k) + differ c d) → d ≡ b
sign_after Co Co Co Co i j k e f p q = refl
sign_after Co Co Co Contra i j k e f p q = absurd (omega arith)
sign_after Co Contra Co Co i j k e f p q = absurd (omega arith)
sign_after Co Contra Co Contra i j k e f p q = refl
sign_after Contra Co Contra Co i j k e f p q = refl
sign_after Contra Co Contra Contra i j k e f p q = absurd (omega arith)
sign_after Contra Contra Contra Co i j k e f p q = absurd (omega arith)
sign_after Contra Contra Contra Contra i j k e f p q = refl
sign_after Co b Contra d i j k e f p q = absurd (cc)
sign_after Contra b Co d i j k e f p q = absurd (cc)

module _ (L : Given) where
  letters_same : (x : Var) (l m : Label) → IsPointer l → IsPointer m → Flip L x → Der L (E (dot x l) (dot x m))
  letters_same x l m a b f = pointer_same L x l m a b f.0 f.1

  spell_class : {x : Var} {p : List Bool} {w r : List Label} (y : Var) → Spell L x p w r → Der L (E x y) → Der L (V (rest x w)) → Spell L y p w r
  spell_class y nil e d = nil
  spell_class y (keep l {r = w} s) e d = keep l (spell_class (dot y l) s (q5 l e (prefix L w d)) d)
  spell_class y (swap l m {r = w} a b f s) e d = swap l m a b (e4 Load e f.0, e4 Store e f.1) (spell_class (dot y l) s (q5 l e (prefix L w d)) d)

  spell_same : {x : Var} {p : List Bool} {w r : List Label} → Spell L x p w r → Der L (V (rest x w)) → Der L (E (rest x w) (rest x r))
  spell_same nil d = q2 d
  spell_same (keep l s) d = spell_same s d
  spell_same {x} (swap l m {s = r} a b f s) d = q4 (spell_same s d) (same_rest L r (letters_same x l m a b f) (both L (spell_same s d)).1)

  spell_var : {x : Var} {p : List Bool} {w r : List Label} → Spell L x p w r → Der L (V (rest x w)) → Der L (V (rest x r))
  spell_var a d = (both L (spell_same a d)).1

  parity : {x : Var} {p : List Bool} {w r s : List Label} → Spell L x p w r → Spell L x p w s → IsEven ((num p r + num p s) + differ (variance_of_word r) (variance_of_word s))
  parity nil nil = refl
  parity (keep l {s = r} a) (keep _ {s = t} b) = rw (differ-times (label_variance l) (variance_of_word r) (variance_of_word t)) (parity a b)
  parity (swap {p} l m {s = r} i j f a) (swap _ o {s = t} g h k b) =
      bits_parity (times (label_variance m) (variance_of_word r)) (times (label_variance o) (variance_of_word t)) (num p r) (num p t)

  record Between (x : Var) (p : List Bool) (w : List Label) (m : ℕ) : Type 0 where
    word : List Label
    spells : Spell L x p w word
    counts : num p word ≡ m

  between : {x : Var} {p : List Bool} {w r s : List Label} (m : ℕ) → Spell L x p w r → Spell L x p w s → num p r ≤ m → m ≤ num p s → Between x p w m
  between m nil nil h k = record { word = []; spells = nil; counts = omega arith }
  between {x} m (keep {p} l {r = w} a) (keep _ b) h k =
      let z : Between (dot x l) p w m = between m a b h k in
      record { word = l ∷ z.word; spells = keep l z.spells; counts = z.counts }
  between {x} m (swap {p} l o {r = w} {s = r} i j f a) (swap _ u {s = t} g e c b) h k =
      let n : Halved m = halve m in
      let z : Between (dot x l) p w n.half_of = between n.half_of a b
      (bits_low (times (label_variance o) (variance_of_word r)) n.low (num p r) n.half_of (omega (arith, h, n.whole)))
      (bits_low n.low (times (label_variance u) (variance_of_word t)) n.half_of (num p t) (omega (arith, k, n.whole))) in
      record {
        word = _ ∷ z.word;
        spells = swap l _ i (letter_for-pointer n.low (variance_of_word z.word)) f z.spells;
        counts = rw (letter_for-bit n.low (variance_of_word z.word), z.counts) (sym n.whole);
      }

  one_spelling : {x : Var} {p : List Bool} {w r s : List Label} → Spell L x p w r → Spell L x p w s → num p r ≡ num p s → r ≡ s
  one_spelling nil nil e = refl
  one_spelling (keep l a) (keep _ b) e = ap (λ z. l ∷ z) (one_spelling a b e)
  one_spelling (swap {p} l o {s = r} i j f a) (swap _ u {s = t} i' j' f' b) e =
      let h : (bit (times (label_variance o) (variance_of_word r)) ≡ bit (times (label_variance u) (variance_of_word t))) × (num p r ≡ num p t)
      = bits_equal (times (label_variance o) (variance_of_word r)) (times (label_variance u) (variance_of_word t)) (num p r) (num p t) e in
      let g : r ≡ t = one_spelling a b h.1 in
      let k : bit (times (label_variance o) (variance_of_word t)) ≡ bit (times (label_variance u) (variance_of_word t)) = rw g at h.0 in
      let c : o ≡ u = letters_equal o u (variance_of_word t) j j' k in
      rw (c, g) refl

  below_co : (z : List Label) (x y : Var) → variance_of_word z ≡ Co → Der L (S x y) → Der L (V (rest y z)) → Der L (S (rest x z) (rest y z))
  below_co z x y e h d = subst (λ s. Turned L s (rest x z) (rest y z)) e (below_rest L z x y h d)

  below_contra : (z : List Label) (x y : Var) → variance_of_word z ≡ Contra → Der L (S x y) → Der L (V (rest y z)) → Der L (S (rest y z) (rest x z))
  below_contra z x y e h d = subst (λ s. Turned L s (rest x z) (rest y z)) e (below_rest L z x y h d)

  letter_by : (x : Var) (l m : Label) (r : List Label) (s : Variance) → variance_of_word r ≡ s → IsPointer l → IsPointer m → Flip L x → Der L (V (rest (dot x l) r)) → Der L (V (rest (dot x m) r)) →
      bit (times (label_variance l) s) ≤ bit (times (label_variance m) s) → Der L (S (rest (dot x l) r) (rest (dot x m) r))
  letter_by x Load Load r s e p q f d d' h = s2 d
  letter_by x Store Store r s e p q f d d' h = s2 d
  letter_by x Store Load r Co e p q f d d' h = below_co r (dot x Store) (dot x Load) e (s6 f.0 f.1) d'
  letter_by x Store Load r Contra e p q f d d' h = absurd (omega arith)
  letter_by x Load Store r Co e p q f d d' h = absurd (omega arith)
  letter_by x Load Store r Contra e p q f d d' h = below_contra r (dot x Store) (dot x Load) e (s6 f.0 f.1) d
  letter_by x (Field wide off) m r s e p q f d d' h = absurd p
  letter_by x (In loc) m r s e p q f d d' h = absurd p
  letter_by x (Out n) m r s e p q f d d' h = absurd p
  letter_by x Load (Field wide off) r s e p q f d d' h = absurd q
  letter_by x Load (In loc) r s e p q f d d' h = absurd q
  letter_by x Load (Out n) r s e p q f d d' h = absurd q
  letter_by x Store (Field wide off) r s e p q f d d' h = absurd q
  letter_by x Store (In loc) r s e p q f d d' h = absurd q
  letter_by x Store (Out n) r s e p q f d d' h = absurd q

  -- one letter, where its bit doesn't fall
  one_letter : (x : Var) (l m : Label) (r : List Label) → IsPointer l → IsPointer m → Flip L x → Der L (V (rest (dot x l) r)) →
      bit (times (label_variance l) (variance_of_word r)) ≤ bit (times (label_variance m) (variance_of_word r)) → Der L (S (rest (dot x l) r) (rest (dot x m) r))
  one_letter x l m r p q f d h = letter_by x l m r (variance_of_word r) refl p q f d (both L (same_rest L r (letters_same x l m p q f) d)).1 h

  abbrev Chain : List Bool → List Label → Var → Type 0
  Chain p w x = (r s : List Label) → Spell L x p w r → Spell L x p w s → Der L (V (rest x w)) → num p r ≤ num p s → Der L (S (rest x r) (rest x s))

  -- a step of the chain at a place that flips, where k is the letter of the pattern
  module _ (x : Var) (k l m : Label) (i : IsPointer k) (j : IsPointer l) (o : IsPointer m) (f : Flip L x) (p : List Bool) (w r s : List Label)
      (a : Spell L (dot x k) p w r) (b : Spell L (dot x k) p w s) (d : Der L (V (rest (dot x k) w))) where
    chain_equal : num p r ≡ num p s → bit (times (label_variance l) (variance_of_word r)) ≤ bit (times (label_variance m) (variance_of_word s)) → Der L (S (rest (dot x l) r) (rest (dot x m) s))
    chain_equal e h =
        let g : r ≡ s = one_spelling a b e in
        let h' : bit (times (label_variance l) (variance_of_word s)) ≤ bit (times (label_variance m) (variance_of_word s)) = rw g at h in
        let ds : Der L (V (rest (dot x l) s)) = (both L (same_rest L s (letters_same x k l i j f) (spell_var b d))).1 in
        rw g (one_letter x l m s j o f ds h')

    -- the word of the pattern behind another first letter
    head_var : (n : Label) → IsPointer n → Der L (V (rest (dot x n) w))
    head_var n q = (both L (same_rest L w (letters_same x k n i q f) d)).1

    head_spell : (n : Label) → IsPointer n → {z : List Label} → Spell L (dot x k) p w z → Spell L (dot x n) p w z
    head_spell n q c = spell_class (dot x n) c (letters_same x k n i q f) d

    chain_less : ((y : Var) → Chain p w y) → suc (num p r) ≤ num p s →
        (bit (times (label_variance l) (variance_of_word s)) ≤ bit (times (label_variance m) (variance_of_word s))) ⊎ (suc (bit (times (label_variance m) (variance_of_word s))) ≤ bit (times (label_variance l) (variance_of_word s))) →
        (bit (times (label_variance l) (variance_of_word r)) ≤ bit (times (label_variance m) (variance_of_word r))) ⊎ (suc (bit (times (label_variance m) (variance_of_word r))) ≤ bit (times (label_variance l) (variance_of_word r))) →
        Der L (S (rest (dot x l) r) (rest (dot x m) s))
    chain_less c h (inl t) u =
        s3 (c (dot x l) r s (head_spell l j a) (head_spell l j b) (head_var l j) (omega arith))
        (one_letter x l m s j o f (spell_var (head_spell l j b) (head_var l j)) t)
    chain_less c h (inr t) (inl u) =
        s3 (one_letter x l m r j o f (spell_var (head_spell l j a) (head_var l j)) u)
        (c (dot x m) r s (head_spell m o a) (head_spell m o b) (head_var m o) (omega arith))
    chain_less c h (inr t) (inr u) =
        let z : Between (dot x k) p w (suc (num p r)) = between (suc (num p r)) a b (omega arith) h in
        let e : IsEven (1 + differ (variance_of_word r) (variance_of_word z.word)) = odd_step (num p r) (num p z.word) (differ (variance_of_word r) (variance_of_word z.word)) z.counts (parity a z.spells) in
        let v : bit (times (label_variance l) (variance_of_word z.word)) ≤ bit (times (label_variance m) (variance_of_word z.word)) = bits_turn (label_variance l) (label_variance m) (variance_of_word r) (variance_of_word z.word) u e in
        s3 (c (dot x l) r z.word (head_spell l j a) (head_spell l j z.spells) (head_var l j) (omega (arith, z.counts)))
        (s3 (one_letter x l m z.word j o f (spell_var (head_spell l j z.spells) (head_var l j)) v)
        (c (dot x m) z.word s (head_spell m o z.spells) (head_spell m o b) (head_var m o) (omega (arith, z.counts, h))))

    chain_flip : ((y : Var) → Chain p w y) →
        bit (times (label_variance l) (variance_of_word r)) + (num p r + num p r) ≤ bit (times (label_variance m) (variance_of_word s)) + (num p s + num p s) →
        (num p s ≤ num p r) ⊎ (suc (num p r) ≤ num p s) → Der L (S (rest (dot x l) r) (rest (dot x m) s))
    chain_flip c h (inl t) =
        let e : (num p r ≡ num p s) × (bit (times (label_variance l) (variance_of_word r)) ≤ bit (times (label_variance m) (variance_of_word s)))
        = bits_high (times (label_variance l) (variance_of_word r)) (times (label_variance m) (variance_of_word s)) (num p r) (num p s) h t in
        chain_equal e.0 e.1
    chain_flip c h (inr t) =
        chain_less c t (le_or (bit (times (label_variance l) (variance_of_word s))) (bit (times (label_variance m) (variance_of_word s))))
        (le_or (bit (times (label_variance l) (variance_of_word r))) (bit (times (label_variance m) (variance_of_word r))))

  -- a greater number lies above
  chain : (p : List Bool) (w : List Label) (x : Var) → Chain p w x
  chain [] [] x r s nil nil d h = s2 d
  chain [] (k ∷ w) x r s a b d h = elim a [ ]
  chain (false ∷ p) [] x r s a b d h = elim a [ ]
  chain (true ∷ p) [] x r s a b d h = elim a [ ]
  chain (false ∷ p) (k ∷ w) x r s (keep _ {s = r'} a) (keep _ {s = s'} b) d h = chain p w (dot x k) r' s' a b d h
  chain (true ∷ p) (k ∷ w) x r s (swap _ l {s = r'} i j f a) (swap _ m {s = s'} i' o f' b) d h =
      chain_flip x k l m i j o f p w r' s' a b d (λ y. chain p w y) h (le_or (num p s') (num p r'))

  abbrev Sound : State → State → ℕ → Type 0
  Sound x y k = (p : List Bool) (w r s : List Label) → Der L (V (rest x.var w)) → Spell L x.var p w r → Spell L x.var p w s → variance_of_word r ≡ x.sign → variance_of_word s ≡ y.sign →
      num p r + k ≤ num p s → Der L (S (rest x.var r) (rest y.var s))

  sound_push : (x y : Var) (l m : Label) (a b : Variance) (d k : ℕ) → Sound (st x (times (label_variance l) a)) (st y (times (label_variance m) b)) d → Push L x l m d a b k → Sound (st (dot x l) a) (st (dot y m) b) k
  sound_push x y l m a b d k f (half i j g g' h e) p w r s u ar bs sr ss n =
      f (true ∷ p) (l ∷ w) (l ∷ r) (m ∷ s) u (swap l l i i (g, g') ar) (swap l m i j (g, g') bs) (rw sr refl) (rw ss refl) (rw (sr, ss) (omega arith))
  sound_push x y l m a b d k f kept p w r s u ar bs sr ss n =
      f (false ∷ p) (l ∷ w) (l ∷ r) (l ∷ s) u (keep l ar) (keep l bs) (rw sr refl) (rw ss refl) n

  module _ (M : Var → Type 0) where
    sound : {x y : State} {k : ℕ} → Bridge L M x y k → Sound x y k
    sound (here {x} a m v) p w r s u ar bs sr ss n = chain p w x r s ar bs u (omega arith)
    sound (turn {x} a m v) p w r s u ar bs sr ss n = chain p w x r s ar bs u (omega arith)
    sound (up {x} {y} m) p w r s u ar bs sr ss n =
        s3 (chain p w x r s ar bs u (omega arith)) (below_co s x y ss (s1 m) (both L (same_rest L s (q1 (s1 m)) (spell_var bs u))).1)
    sound (down {x} {y} m) p w r s u ar bs sr ss n =
        s3 (chain p w y r s ar bs u (omega arith)) (below_contra s x y ss (s1 m) (spell_var bs u))
    sound (join {x} {y} {z} {j} {k} b c) p w r s u ar bs sr ss n =
        let t : Between x.var p w (num p r + j) = between (num p r + j) ar bs (omega arith) (omega arith) in
        let e : Der L (E x.var y.var) = bridge_same L M b in
        let v : variance_of_word t.word ≡ y.sign = sign_after x.sign y.sign (variance_of_word r) (variance_of_word t.word) (num p r) j (num p t.word) (sym sr) t.counts (bridge_even L M b) (parity ar t.spells) in
        s3 (sound b p w r t.word u ar t.spells sr v (omega (arith, t.counts)))
        (sound c p w t.word s (both L (same_rest L w e u)).1 (spell_class y.var t.spells e u) (spell_class y.var bs e u) v ss (omega (arith, t.counts, n)))
    sound (push {x} {y} {l} {m} {a} {b} {d} {k} q q' v v' c o) p w r s u ar bs sr ss n =
        sound_push x y l m a b d k (sound c) o p w r s u ar bs sr ss n

    -- what counts nought is derivable
    pub nought_derived : {x y : Var} → Der L (V x) → Bridge L M (st x Co) (st y Co) 0 → Der L (S x y)
    nought_derived {x} v b = sound b [] [] [] [] v nil nil refl refl (omega arith)
