-- What counts between variables is derivable below a probe.
use Rattle.std.proofs.Common.{◌≡◌, ℕ, zero, suc, ℤ, ◌+◌, ◌-◌, ◌≤◌, Bool, true, false, List, [], ◌∷◌, ◌++◌, map, length, Contains, refl, sym, ap, subst, ◌∙◌, arith}
use Rattle.std.specs.Prelude.{IsTrue, ◌&&◌, ◌↔◌}
use Rattle.std.proofs.lemmas.List.Elements.{Contains-append_left, Contains-append_right}
use Rattle.rt_lines.specs.declared.label.Label.{Label}
use Rattle.rt_lines.specs.declared.label.Label.TheVariants.{In, Out, Load, Store, Field}
use Rattle.rt_lines.specs.declared.label.Variance.{Variance}
use Rattle.rt_lines.specs.declared.label.Variance.TheVariants.{Co, Contra}
use Rattle.rt_lines.specs.declared.variable.Dtv.{Dtv}
use Rattle.rt_lines.specs.declared.line.Line.{Line}
use Rattle.rt_lines.specs.declared.line.Line.TheVariants.{Var as VarLine, Sub}
use Rattle.rt_lines.specs.Equality.{label_eq}
use Rattle.rt_lines.specs.Words.{label_variance, times, variance_of_word}
use Rattle.rt_lines.proofs.Equal.{label_equal}
use Rattle.rt_rules.specs.Rules.{longer, extended, HasSide}
use Rattle.rt_rules.specs.Rules.Derivable.{named as side_there}
use Rattle.rt_rules.proofs.Covering.{derives_left}
use Rattle.rt_rules.proofs.Lists.{Contains-map}
use Rattle.rt_bridge.specs.Growing.{Var, at, dot, dv, rest, Given, Fact, V, E, S, Der, HasSub}
use Rattle.rt_bridge.specs.Counted.{bit, differ, IsEven, State, st, IsPointer, Flip, Push, half, kept, Bridge, here, turn, up, down, join, push}
use Rattle.rt_bridge.specs.Laws.{AreFlips}
use Rattle.rt_bridge.proofs.Growing.{der, q2, q3, q5, both, prefix, same_rest, dv-rest, rest-append}
use Rattle.rt_bridge.proofs.Bridges.{Every, bridge_same}
use Rattle.rt_bridge.proofs.Chains.{Spell, nil, swap, place_of, num, num_flip, sound}
use Rattle.rt_sat.specs.Probe.{pointer_words}
use Rattle.rt_sat.proofs.Probes.{Part, above, below, outside, after, top_after, ArePointers, pointers-in, part, top, part-probe, top-probe, part-pointer, top-pointer, Has}
use Rattle.rt_sat.proofs.Descending.{number, number-more, P, shown_there}
use Rattle.std.proofs.lemmas.Bool.{and_parts, and_from}

-- numbers by their lowest digit
pub record Halved (n : ℕ) : Type 0 where
  pub low : Variance
  pub half_of : ℕ
  pub whole : n ≡ bit low + (half_of + half_of)

halved_next : (n h : ℕ) (a : Variance) → n ≡ bit a + (h + h) → Halved (suc n)
halved_next n h Co e = record { low = Contra; half_of = suc h; whole = omega arith }
halved_next n h Contra e = record { low = Co; half_of = h; whole = omega arith }

halved : (n : ℕ) → Halved n
halved zero = record { low = Contra; half_of = 0; whole = refl }
halved (suc n) = halved_next n (halved n).half_of (halved n).low (halved n).whole

-- the pointer letter with which a rest of the sign has the digit
abbrev letter_for : Variance → Variance → Label
letter_for Co Co = Load
letter_for Co Contra = Store
letter_for Contra Co = Store
letter_for Contra Contra = Load

letter_for-sign : (c s : Variance) → times (label_variance (letter_for c s)) s ≡ c
letter_for-sign Co Co = refl
letter_for-sign Co Contra = refl
letter_for-sign Contra Co = refl
letter_for-sign Contra Contra = refl

letter_for-pointer : (c s : Variance) → IsPointer (letter_for c s)
letter_for-pointer Co Co = tt
letter_for-pointer Co Contra = tt
letter_for-pointer Contra Co = tt
letter_for-pointer Contra Contra = tt

-- a word of so many letters with the number
pub record Spelling (m n : ℕ) : Type 0 where
  pub word : List Label
  pub pointers : ArePointers word
  pub size : length word ≡ m
  pub is : number word ≡ n

half_few : (a : Variance) (n h m : ℕ) → n ≡ bit a + (h + h) → n ≤ suc m → h ≤ m
half_few Co n h m e f = omega (arith, e, f)
half_few Contra n h m e f = omega (arith, e, f)

pub spelling : (m n : ℕ) → n ≤ m → Spelling m n
spelling zero n h = record { word = []; pointers = tt; size = refl; is = omega (arith, h) }
spelling (suc m) n h =
    let c : Halved n = halved n in
    let w : Spelling m c.half_of = spelling m c.half_of (half_few c.low n c.half_of m c.whole h) in
    let l : Label = letter_for c.low (variance_of_word w.word) in
    record {
      word = l ∷ w.word;
      pointers = (letter_for-pointer c.low (variance_of_word w.word), w.pointers);
      size = ap suc w.size;
      is = number-more l w.word ∙ (rw (letter_for-sign c.low (variance_of_word w.word), w.is) (sym c.whole));
    }

-- a word's sign is its number's lowest digit
number_sign : (w : List Label) → 1 ≤ length w → (q : ℕ) × (number w ≡ bit (variance_of_word w) + (q + q))
number_sign [] h = absurd (omega (arith, h))
number_sign (l ∷ w) h = (number w, number-more l w)

sign_left : (a v : Variance) (q : ℕ) → bit a ≡ bit v + (q + q) → v ≡ a
sign_left Co Co q e = refl
sign_left Co Contra q e = absurd (omega (arith, e))
sign_left Contra Co q e = absurd (omega (arith, e))
sign_left Contra Contra q e = refl

sign_right : (a b v : Variance) (n q : ℕ) → IsEven (n + differ a b) → bit a + n ≡ bit v + (q + q) → v ≡ b
sign_right Co Co Co n q p e = refl
sign_right Co Co Contra n q p e = absurd (omega (arith, p, e))
sign_right Co Contra Co n q p e = absurd (omega (arith, p, e))
sign_right Co Contra Contra n q p e = refl
sign_right Contra Co Co n q p e = refl
sign_right Contra Co Contra n q p e = absurd (omega (arith, p, e))
sign_right Contra Contra Co n q p e = absurd (omega (arith, p, e))
sign_right Contra Contra Contra n q p e = refl

-- words of the signs whose numbers are so far apart
pub record Spellings (a b : Variance) (n : ℕ) : Type 0 where
  pub letters : ℕ
  pub left : List Label
  pub right : List Label
  pub left_pointers : ArePointers left
  pub right_pointers : ArePointers right
  pub left_size : length left ≡ letters
  pub right_size : length right ≡ letters
  pub left_sign : variance_of_word left ≡ a
  pub right_sign : variance_of_word right ≡ b
  pub apart : number right ≡ number left + n

pub spellings : (a b : Variance) (n : ℕ) → IsEven (n + differ a b) → Spellings a b n
spellings a b n p =
    let m : ℕ = bit a + n + 1 in
    let v : Spelling m (bit a) = spelling m (bit a) (omega arith) in
    let w : Spelling m (bit a + n) = spelling m (bit a + n) (omega arith) in
    let q : (i : ℕ) × (number v.word ≡ bit (variance_of_word v.word) + (i + i)) = number_sign v.word (omega (arith, v.size)) in
    let r : (i : ℕ) × (number w.word ≡ bit (variance_of_word w.word) + (i + i)) = number_sign w.word (omega (arith, w.size)) in
    record {
      letters = m;
      left = v.word;
      right = w.word;
      left_pointers = v.pointers;
      right_pointers = w.pointers;
      left_size = v.size;
      right_size = w.size;
      left_sign = sign_left a (variance_of_word v.word) q.0 (sym v.is ∙ q.1);
      right_sign = sign_right a b (variance_of_word w.word) n r.0 p (sym w.is ∙ r.1);
      apart = w.is ∙ ap (λ i. i + n) (sym v.is);
    }

abbrev depth : Part → ℕ
depth above = 0
depth (below n) = n
depth outside = 0

below_one : (i j : ℕ) → ◌≡◌ {A = Part} (below i) (below j) → i ≡ j
below_one i j e = ap (λ p. depth p) e

abbrev is_fewer : ℕ → ℕ → Bool
is_fewer n zero = false
is_fewer zero (suc m) = true
is_fewer (suc n) (suc m) = is_fewer n m

fewer_from : (n m : ℕ) → is_fewer n m ≡ true → suc n ≤ m
fewer_from n zero e = absurd (cc)
fewer_from zero (suc m) e = omega arith
fewer_from (suc n) (suc m) e = omega (arith, fewer_from n m e)

fewer_to : (n m : ℕ) → suc n ≤ m → is_fewer n m ≡ true
fewer_to n zero h = absurd (omega (arith, h))
fewer_to zero (suc m) h = refl
fewer_to (suc n) (suc m) h = fewer_to n m (omega (arith, h))

rest-joined : (w v : List Label) (x : Var) → rest x (w ++ v) ≡ rest (rest x w) v
rest-joined [] v x = refl
rest-joined (l ∷ w) v x = rest-joined w v (dot x l)

abbrev loads : ℕ → List Label
loads zero = []
loads (suc n) = Load ∷ loads n

loads-size : (n : ℕ) → length (loads n) ≡ n
loads-size zero = refl
loads-size (suc n) = ap suc (loads-size n)

loads-pointers : (n : ℕ) → ArePointers (loads n)
loads-pointers zero = tt
loads-pointers (suc n) = (tt, loads-pointers n)

joined-pointers : (w v : List Label) → ArePointers w → ArePointers v → ArePointers (w ++ v)
joined-pointers [] v p q = q
joined-pointers (l ∷ w) v p q = (p.0, joined-pointers w v p.1 q)

joined-size : (w v : List Label) → length (w ++ v) ≡ length w + length v
joined-size [] v = omega arith
joined-size (l ∷ w) v = omega (arith, joined-size w v)

module _ (k : ℤ) (A : Given) (X : Var) (m : ℕ) (free : (l : Line) (x : Dtv) → Contains A.lines l → HasSide l x → Contains x.word (Field 8 k) → ⊥)
    (exists : Der A (V X)) (plain : part k X ≡ above) (flips : Var → Bool) (are : AreFlips A flips) (same : Var → Bool) (one : (z : Var) → IsTrue (same z) ↔ Der A (E z X)) where
  abbrev pub B : Given
  B = P k A X m free exists plain

  abbrev c : Label
  c = Field 8 k

  more : {f : Fact} → Der A f → Der B f
  more {f} d = der B f (derives_left A.order A.lines (map (λ (w : List Label). VarLine (extended (longer (dv X) (Field 8 k)) w)) (pointer_words m)) d.derives)

  -- each word of the probe is there
  word_there : (w : List Label) → ArePointers w → length w ≡ m → Der B (V (rest (dot X c) w))
  word_there w p e = der B (V (rest (dot X c) w)) (side_there (VarLine (extended (longer (dv X) c) w))
      (Contains-append_right A.lines (map (λ (v : List Label). VarLine (extended (longer (dv X) (Field 8 k)) v)) (pointer_words m)) (VarLine (extended (longer (dv X) c) w))
      (Contains-map (λ (v : List Label). VarLine (extended (longer (dv X) (Field 8 k)) v)) (pointer_words m) w (subst (λ n. Contains (pointer_words n) w) e (pointers-in w p)))) (sym (dv-rest w (dot X c))))

  pub short_there : (w : List Label) → ArePointers w → length w ≤ m → Der B (V (rest (dot X c) w))
  short_there w p h = prefix B (loads (m - length w))
      (subst (λ z. Der B (V z)) (rest-joined w (loads (m - length w)) (dot X c))
      (word_there (w ++ loads (m - length w)) (joined-pointers w (loads (m - length w)) p (loads-pointers (m - length w))) (joined-size w (loads (m - length w)) ∙ size (loads-size (m - length w)))))
    where
      size : length (loads (m - length w)) ≡ m - length w → length w + length (loads (m - length w)) ≡ m
      size e = omega (arith, e, h)

  -- a variable below the probe
  record Unders (z : Var) (n : ℕ) : Type 0 where
    word : List Label
    pointers : ArePointers word
    size : length word ≡ n
    is : rest (dot (top k z) c) word ≡ z

  under_probe : (z : Var) (l : Label) → part k z ≡ above → l ≡ c → Unders (dot z l) 0
  under_probe z l e f = record { word = []; pointers = tt; size = refl; is = ap (λ j. dot (top k (dot z j)) c) f ∙ ap (λ t. dot t c) (top-probe k z e) ∙ ap (dot z) (sym f) }

  under_more : (z : Var) (n : ℕ) (l : Label) → part k z ≡ below n → IsPointer l → Unders z n → Unders (dot z l) (suc n)
  under_more z n l e p u = record {
    word = u.word ++ l ∷ [];
    pointers = joined-pointers u.word (l ∷ []) u.pointers (p, tt);
    size = joined-size u.word (l ∷ []) ∙ (omega (arith, u.size));
    is = ap (λ t. rest (dot t c) (u.word ++ l ∷ [])) (top-pointer k z n l e p) ∙ rest-append u.word (dot (top k z) c) l ∙ ap (λ y. dot y l) u.is;
  }

  under_by : (p : Part) (b : Bool) (z : Var) (l : Label) (n : ℕ) → part k z ≡ p → label_eq l c ≡ b → ((i : ℕ) → part k z ≡ below i → Unders z i) → after p b l ≡ below n → Unders (dot z l) n
  under_by above true z l n e f u h = subst (Unders (dot z l)) (below_one 0 n h) (under_probe z l e (label_equal l c f))
  under_by above false z l n e f u h = absurd (cc)
  under_by (below i) b z Load n e f u h = subst (Unders (dot z Load)) (below_one (suc i) n h) (under_more z i Load e tt (u i e))
  under_by (below i) b z Store n e f u h = subst (Unders (dot z Store)) (below_one (suc i) n h) (under_more z i Store e tt (u i e))
  under_by (below i) b z (Field w j) n e f u h = absurd (cc)
  under_by (below i) b z (In a) n e f u h = absurd (cc)
  under_by (below i) b z (Out j) n e f u h = absurd (cc)
  under_by outside b z l n e f u h = absurd (cc)

  under : (z : Var) (n : ℕ) → part k z ≡ below n → Unders z n
  under (at b) n e = absurd (cc)
  under (dot z l) n e = under_by (part k z) (label_eq l c) z l n refl refl (λ i f. under z i f) e

  under_letter : (z : Var) (n : ℕ) (l : Label) → IsPointer l → Unders z n → suc n ≤ m → Der A (E (top k z) X) → Der B (V (dot z l))
  under_letter z n l p u h e =
      let w : List Label = u.word ++ l ∷ [] in
      let d : Der B (V (rest (dot X c) w)) = short_there w (joined-pointers u.word (l ∷ []) u.pointers (p, tt)) (size (joined-size u.word (l ∷ []))) in
      let f : Der B (E (dot X c) (dot (top k z) c)) = q5 c (q3 (more e)) (prefix B w d) in
      subst (λ y. Der B (V y)) (rest-append u.word (dot (top k z) c) l ∙ ap (λ y. dot y l) u.is) (both B (same_rest B w f d)).1
    where
      size : length (u.word ++ l ∷ []) ≡ length u.word + 1 → length (u.word ++ l ∷ []) ≤ m
      size e = omega (arith, e, h, u.size)

  abbrev flag : Part → Var → Bool
  flag above z = flips z
  flag (below n) z = is_fewer n m && same (top k z)
  flag outside z = false

  -- what flips with the probe
  abbrev fl : Var → Bool
  fl z = flag (part k z) z

  yes_by : (z : Var) (p : Part) → part k z ≡ p → flag p z ≡ true → Flip B z
  yes_by z above e h = let f : Flip A z = (are z).0 h in (more f.0, more f.1)
  yes_by z (below n) e h =
      let q : (is_fewer n m ≡ true) × (same (top k z) ≡ true) = and_parts (is_fewer n m) (same (top k z)) h in
      let o : Der A (E (top k z) X) = (one (top k z)).0 q.1 in
      (under_letter z n Load tt (under z n e) (fewer_from n m q.0) o, under_letter z n Store tt (under z n e) (fewer_from n m q.0) o)
  yes_by z outside e h = absurd (cc)

  yes : (z : Var) → fl z ≡ true → Flip B z
  yes z h = yes_by z (part k z) refl h

  there : (z : Var) → Der B (V z) → Has k A X m free exists plain (part k z) (top k z)
  there z d = shown_there k A X m free exists plain z d

  no_by : (z : Var) (p : Part) → part k z ≡ p → top k z ≡ top k z → Has k A X m free exists plain (after p false Load) (top_after (after p false Load) (dot z Load) (top k z)) →
      Has k A X m free exists plain (after p false Store) (top_after (after p false Store) (dot z Store) (top k z)) → flag p z ≡ true
  no_by z above e t f g = (are z).1 (f, g)
  no_by z (below n) e t f g = and_from (is_fewer n m) (same (top k z)) (fewer_to n m f.1) ((one (top k z)).1 f.0)
  no_by z outside e t f g = absurd f

  no : (z : Var) → Flip B z → fl z ≡ true
  no z f = no_by z (part k z) refl refl (there (dot z Load) f.0) (there (dot z Store) f.1)

  fl-below : (u : Var) (n : ℕ) → part k u ≡ below n → top k u ≡ X → suc n ≤ m → fl u ≡ true
  fl-below u n e t h = rw e (and_from (is_fewer n m) (same (top k u)) (fewer_to n m h) ((one (top k u)).1 (subst (λ z. Der A (E z X)) (sym t) (q2 exists))))

  spelled : (w r : List Label) (u : Var) (n : ℕ) → part k u ≡ below n → top k u ≡ X → n + length w ≤ m → ArePointers w → ArePointers r → length w ≡ length r → Spell fl u w r
  spelled [] [] u n e t h p q s = nil
  spelled [] (l ∷ r) u n e t h p q s = absurd (omega (arith, s))
  spelled (l ∷ w) [] u n e t h p q s = absurd (omega (arith, s))
  spelled (l ∷ w) (o ∷ r) u n e t h p q s =
      swap l o (place_of fl u l p.0 (fl-below u n e t (omega (arith, h)))) (place_of fl u o q.0 (fl-below u n e t (omega (arith, h))))
      (spelled w r (dot u l) (suc n) (part-pointer k u n l e p.0) (top-pointer k u n l e p.0 ∙ t) (omega (arith, h)) p.1 q.1 (omega (arith, s)))

  numbered : (r : List Label) (u : Var) (n : ℕ) → part k u ≡ below n → top k u ≡ X → n + length r ≤ m → ArePointers r → num fl u r ≡ number r
  numbered [] u n e t h p = refl
  numbered (l ∷ r) u n e t h p =
      num_flip fl u l r (place_of fl u l p.0 (fl-below u n e t (omega (arith, h))))
      ∙ ap (λ i. bit (times (label_variance l) (variance_of_word r)) + (i + i)) (numbered r (dot u l) (suc n) (part-pointer k u n l e p.0) (top-pointer k u n l e p.0 ∙ t) (omega (arith, h)) p.1)
      ∙ sym (number-more l r)

  more_push : {x : Var} {l o : Label} {d n : ℕ} {a b : Variance} → Push A x l o d a b n → Push B x l o d a b n
  more_push (half p q f g h i) = half p q (more f) (more g) h i
  more_push kept = kept

  more_sub : (x y : Var) → HasSub A x y → HasSub B x y
  more_sub x y h = Contains-append_left A.lines (map (λ (w : List Label). VarLine (extended (longer (dv X) (Field 8 k)) w)) (pointer_words m)) (Sub (dv x) (dv y)) h

  more_bridge : {M : Var → Type 0} {x y : State} {n : ℕ} → Bridge A M x y n → Bridge B Every x y n
  more_bridge (here a h v) = here a tt (more v)
  more_bridge (turn a h v) = turn a tt (more v)
  more_bridge (up {x} {y} h) = up (more_sub x y h)
  more_bridge (down {x} {y} h) = down (more_sub x y h)
  more_bridge (join b d) = join (more_bridge b) (more_bridge d)
  more_bridge (push h g v w b s) = push tt tt (more v) (more w) (more_bridge b) (more_push s)

  -- what counts between two variables is derivable below the probe
  pub raised : {M : Var → Type 0} (Y : Var) (a b : Variance) (n : ℕ) (r s : List Label) → Bridge A M (st X a) (st Y b) n → ArePointers r → ArePointers s → length r ≡ m → length s ≡ m →
      variance_of_word r ≡ a → variance_of_word s ≡ b → number s ≡ number r + n → Der B (S (rest (dot X c) r) (rest (dot Y c) s))
  raised {M} Y a b n r s bridge p q i j e f h =
      let u : Var = dot X c in
      let x : Der B (V u) = short_there [] tt (omega arith) in
      let o : Der B (E X Y) = more (bridge_same A M bridge) in
      let y : Der B (V (dot Y c)) = (both B (q5 c o x)).1 in
      let d : Bridge B Every (st u a) (st (dot Y c) b) n = push tt tt x y (more_bridge bridge) kept in
      let eu : part k u ≡ below 0 = part-probe k X plain in
      let tu : top k u ≡ X = top-probe k X plain in
      sound fl B yes no Every d r r s (word_there r p i) (spelled r r u 0 eu tu (omega (arith, i)) p p refl) (spelled r s u 0 eu tu (omega (arith, i)) p q (i ∙ sym j)) e f
      (rw (numbered r u 0 eu tu (omega (arith, i)) p, numbered s u 0 eu tu (omega (arith, j)) q) (omega (arith, h)))
