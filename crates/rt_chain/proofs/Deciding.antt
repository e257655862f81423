-- On `var` lines alone it is decided which variables there are.
use Rattle.std.proofs.Common.{◌≡◌, ◌⊎◌, inl, inr, List, [], ◌∷◌, ◌++◌, Contains, Bool, true, false, cond, ◌&&◌, refl, append-nil, ap, sym, ◌∙◌, subst}
use Rattle.rt_lines.specs.declared.label.Label.{Label}
use Rattle.rt_lines.specs.declared.label.Label.TheVariants.{In, Out, Load, Store, Field}
use Rattle.rt_lines.specs.declared.variable.Base.{Base}
use Rattle.rt_lines.specs.declared.variable.Dtv.{Dtv}
use Rattle.rt_lines.specs.declared.line.Line.{Line}
use Rattle.rt_lines.specs.declared.line.Line.TheVariants.{Var as VarLine, Same, Sub, Low, Up}
use Rattle.rt_lines.specs.Equality.{base_eq, label_eq}
use Rattle.rt_lines.specs.contracts.label.LabelEq.TheImpl.Laws as label_laws
use Rattle.rt_lines.specs.contracts.variable.BaseEq.TheImpl.Laws as base_laws
use Rattle.rt_lines.proofs.Equal.{label_equal, base_equal}
use Rattle.rt_rules.specs.Rules.{HasSide, Derivable}
use Rattle.rt_rules.specs.Rules.Derivable.{named}
use Rattle.rt_rules.proofs.Lists.{Contains-none, Contains-here, Contains-there, Contains-cons_cases}
use Rattle.rt_bridge.specs.Growing.{Var, at, dot, dv, rest, vd, Given, V, Der}
use Rattle.rt_bridge.specs.Counted.{IsPointer, Flip}
use Rattle.rt_bridge.proofs.Growing.{der, prefix, same_rest, both, vd-dv, dv-vd}
use Rattle.rt_bridge.proofs.Bridges.{pointer_same}
use Rattle.rt_bridge.proofs.Chains.{is_pointer}
use Rattle.rt_bridge.proofs.Trees.{V as Is, E as One, S as Less, Lo, Hi, Fact as Shown, Tree, e1, e2, e3a, e3b, e4, q0, q1, q2, q3, q4, q5, s1, s2, s3, s4, s5, s6, c1l, c1u, c2, c3, tree}
use Rattle.rt_chain.specs.Numbers.{AreVars}
use Rattle.rt_lines.proofs.Same.{label_self, base_self}
use Rattle.std.proofs.lemmas.Bool.{and_parts}

-- a word is in the list
pub data Has : List (List Label) → List Label → Type 0 where
  first : {w : List Label} {ws : List (List Label)} → Has (w ∷ ws) w
  later : {v w : List Label} {ws : List (List Label)} → Has ws w → Has (v ∷ ws) w

Has-cases : {w v : List Label} {ws : List (List Label)} → Has (w ∷ ws) v → (w ≡ v) ⊎ Has ws v
Has-cases first = inl refl
Has-cases (later h) = inr h

-- the words that lines have at a base
abbrev pub words : Base → List Line → List (List Label)
words b [] = []
words b (VarLine x ∷ ls) = cond (base_eq x.base b) (x.word ∷ words b ls) (words b ls)
words b (Same x y ∷ ls) = words b ls
words b (Sub x y ∷ ls) = words b ls
words b (Low k x ∷ ls) = words b ls
words b (Up x k ∷ ls) = words b ls

-- what follows a first letter that passes a test
abbrev pub tails : (Label → Bool) → List (List Label) → List (List Label)
tails p [] = []
tails p ([] ∷ ws) = tails p ws
tails p ((l ∷ w) ∷ ws) = cond (p l) (w ∷ tails p ws) (tails p ws)

abbrev pub is_some_word : List (List Label) → Bool
is_some_word [] = false
is_some_word (w ∷ ws) = true

-- words begin with a load, and words begin with a store
abbrev pub has_both : List (List Label) → Bool
has_both ws = is_some_word (tails (label_eq Load) ws) && is_some_word (tails (label_eq Store) ws)

-- the letters that lead where the letter leads
abbrev pub alike : List (List Label) → Label → Label → Bool
alike ws l = cond (is_pointer l && has_both ws) is_pointer (label_eq l)

-- the words that may follow a variable
abbrev pub follow : List Line → Var → List (List Label)
follow lines (at b) = words b lines
follow lines (dot x l) = tails (alike (follow lines x) l) (follow lines x)

some_word : (ws : List (List Label)) → is_some_word ws ≡ true → (w : List Label) × Has ws w
some_word [] e = absurd (cc)
some_word (w ∷ ws) e = (w, first)

is_some : (ws : List (List Label)) (w : List Label) → Has ws w → is_some_word ws ≡ true
is_some ws w first = refl
is_some ws w (later h) = refl

-- a letter that passes the test and makes one of the words with the tail
abbrev From : (Label → Bool) → List (List Label) → List Label → Type 0
From p ws v = (l : Label) × (p l ≡ true) × Has ws (l ∷ v)

from_later : (p : Label → Bool) (w : List Label) (ws : List (List Label)) (v : List Label) → From p ws v → From p (w ∷ ws) v
from_later p w ws v r = (r.0, r.1, later r.2)

from_by : (p : Label → Bool) (l : Label) (w : List Label) (ws : List (List Label)) (v : List Label) (b : Bool) → p l ≡ b → (Has (tails p ws) v → From p ws v) →
    Has (cond b (w ∷ tails p ws) (tails p ws)) v → From p ((l ∷ w) ∷ ws) v
from_by p l w ws v true e f h = by (Has-cases h)
  where
    by : (w ≡ v) ⊎ Has (tails p ws) v → From p ((l ∷ w) ∷ ws) v
    by (inl same) = (l, e, subst (λ u. Has ((l ∷ w) ∷ ws) (l ∷ u)) same first)
    by (inr k) = from_later p (l ∷ w) ws v (f k)
from_by p l w ws v false e f h = from_later p (l ∷ w) ws v (f h)

-- a tail has a first letter that passes the test
tails_from : (p : Label → Bool) (ws : List (List Label)) (v : List Label) → Has (tails p ws) v → From p ws v
tails_from p [] v h = elim h [ ]
tails_from p ([] ∷ ws) v h = from_later p [] ws v (tails_from p ws v h)
tails_from p ((l ∷ w) ∷ ws) v h = from_by p l w ws v (p l) refl (λ k. tails_from p ws v k) h

tail_by : (w v : List Label) (us : List (List Label)) (b : Bool) → Has us v → Has (cond b (w ∷ us) us) v
tail_by w v us true h = later h
tail_by w v us false h = h

tails_to : (p : Label → Bool) (ws : List (List Label)) (l : Label) (v : List Label) → p l ≡ true → Has ws (l ∷ v) → Has (tails p ws) v
tails_to p [] l v e h = elim h [ ]
tails_to p (_ ∷ ws) l v e first = rw e first
tails_to p ([] ∷ ws) l v e (later h) = tails_to p ws l v e h
tails_to p ((m ∷ w) ∷ ws) l v e (later h) = tail_by w v (tails p ws) (p m) (tails_to p ws l v e h)

-- the words of a base are those of lines
abbrev Line_of : Base → List Label → Line
Line_of b w = VarLine (record { base = b; word = w })

words_by : (b : Base) (x : Dtv) (ls : List Line) (w : List Label) (c : Bool) → base_eq x.base b ≡ c → (Has (words b ls) w → Contains ls (Line_of b w)) →
    Has (cond c (x.word ∷ words b ls) (words b ls)) w → Contains (VarLine x ∷ ls) (Line_of b w)
words_by b x ls w true e f h = by (base_equal x.base b e) (Has-cases h)
  where
    by : x.base ≡ b → (x.word ≡ w) ⊎ Has (words b ls) w → Contains (VarLine x ∷ ls) (Line_of b w)
    by e (inl same) = subst (λ v. Contains (VarLine x ∷ ls) (Line_of b v)) same (subst (λ c. Contains (VarLine x ∷ ls) (Line_of c x.word)) e (Contains-here (VarLine x) ls))
    by e (inr k) = Contains-there (VarLine x) ls (Line_of b w) (f k)
words_by b x ls w false e f h = Contains-there (VarLine x) ls (Line_of b w) (f h)

words_from : (b : Base) (lines : List Line) (w : List Label) → Has (words b lines) w → Contains lines (Line_of b w)
words_from b [] w h = elim h [ ]
words_from b (VarLine x ∷ ls) w h = words_by b x ls w (base_eq x.base b) refl (λ k. words_from b ls w k) h
words_from b (Same x y ∷ ls) w h = Contains-there (Same x y) ls (Line_of b w) (words_from b ls w h)
words_from b (Sub x y ∷ ls) w h = Contains-there (Sub x y) ls (Line_of b w) (words_from b ls w h)
words_from b (Low k x ∷ ls) w h = Contains-there (Low k x) ls (Line_of b w) (words_from b ls w h)
words_from b (Up x k ∷ ls) w h = Contains-there (Up x k) ls (Line_of b w) (words_from b ls w h)

words_later : (b : Base) (w : List Label) (l : Line) (ls : List Line) → Has (words b ls) w → Has (words b (l ∷ ls)) w
words_later b w (VarLine x) ls h = tail_by x.word w (words b ls) (base_eq x.base b) h
words_later b w (Same x y) ls h = h
words_later b w (Sub x y) ls h = h
words_later b w (Low k x) ls h = h
words_later b w (Up x k) ls h = h

words_here : (x : Dtv) (ls : List Line) → Has (words x.base (VarLine x ∷ ls)) x.word
words_here x ls = rw (base_self x.base) first

words_to_by : (l : Line) (ls : List Line) (x : Dtv) → (Contains ls (VarLine x) → Has (words x.base ls) x.word) → (l ≡ VarLine x) ⊎ Contains ls (VarLine x) → Has (words x.base (l ∷ ls)) x.word
words_to_by l ls x f (inl e) = subst (λ k. Has (words x.base (k ∷ ls)) x.word) (sym e) (words_here x ls)
words_to_by l ls x f (inr k) = words_later x.base x.word l ls (f k)

words_to : (lines : List Line) (x : Dtv) → Contains lines (VarLine x) → Has (words x.base lines) x.word
words_to [] x c = absurd (Contains-none (VarLine x) c)
words_to (l ∷ ls) x c = words_to_by l ls x (λ k. words_to ls x k) (Contains-cons_cases l ls (VarLine x) c)

pointer_is : (l : Label) → is_pointer l ≡ true → IsPointer l
pointer_is Load e = tt
pointer_is Store e = tt
pointer_is (In a) e = absurd (cc)
pointer_is (Out n) e = absurd (cc)
pointer_is (Field wide off) e = absurd (cc)

alike_true : (ws : List (List Label)) (l : Label) → is_pointer l ≡ true → has_both ws ≡ true → alike ws l ≡ is_pointer
alike_true ws l e f = rw (e, f) refl

alike_false : (ws : List (List Label)) (l : Label) → has_both ws ≡ false → alike ws l ≡ label_eq l
alike_false ws l f = by (is_pointer l)
  where
    by : (b : Bool) → cond (b && has_both ws) is_pointer (label_eq l) ≡ label_eq l
    by true = rw f refl
    by false = refl

-- each letter is alike to itself
alike_self : (ws : List (List Label)) (l : Label) → alike ws l l ≡ true
alike_self ws l = by (is_pointer l && has_both ws) refl
  where
    by : (b : Bool) → (is_pointer l && has_both ws) ≡ b → cond b is_pointer (label_eq l) l ≡ true
    by true e = (and_parts (is_pointer l) (has_both ws) e).0
    by false e = label_self l

-- what follows both begins words with both
both_from : (ws : List (List Label)) (v w : List Label) → Has (tails (alike ws Load) ws) v → Has (tails (alike ws Store) ws) w → has_both ws ≡ true
both_from ws v w h k = by (has_both ws) refl
  where
    by : (b : Bool) → has_both ws ≡ b → has_both ws ≡ true
    by true e = e
    by false e =
        let h' : Has (tails (label_eq Load) ws) v = subst (λ p. Has (tails p ws) v) (alike_false ws Load e) h in
        let k' : Has (tails (label_eq Store) ws) w = subst (λ p. Has (tails p ws) w) (alike_false ws Store e) k in
        rw (is_some (tails (label_eq Load) ws) v h', is_some (tails (label_eq Store) ws) w k') refl

module _ (L : Given) where
  line_seen : (x : Dtv) → Contains L.lines (VarLine x) → Der L (V (vd x))
  line_seen x c = der L (V (vd x)) (subst (λ y. Derivable L.order L.lines (VarLine y)) (sym (dv-vd x)) (named (VarLine x) c refl))

  abbrev After : Var → Type 0
  After x = (v : List Label) → Has (follow L.lines x) v → Der L (V (rest x v))

  -- a variable whose words begin with both letters can be read and written through
  flip_from : (x : Var) → After x → has_both (follow L.lines x) ≡ true → Flip L x
  flip_from x after e =
      let h : (is_some_word (tails (label_eq Load) (follow L.lines x)) ≡ true) × (is_some_word (tails (label_eq Store) (follow L.lines x)) ≡ true) = and_parts (is_some_word (tails (label_eq Load) (follow L.lines x))) (is_some_word (tails (label_eq Store) (follow L.lines x))) e in
      (letter Load h.0, letter Store h.1)
    where
      letter : (l : Label) → is_some_word (tails (label_eq l) (follow L.lines x)) ≡ true → Der L (V (dot x l))
      letter l f =
          let w : (v : List Label) × Has (tails (label_eq l) (follow L.lines x)) v = some_word (tails (label_eq l) (follow L.lines x)) f in
          let t : (m : Label) × (label_eq l m ≡ true) × Has (follow L.lines x) (m ∷ w.0) = tails_from (label_eq l) (follow L.lines x) w.0 w.1 in
          subst (λ n. Der L (V (dot x n))) (sym (label_equal l t.0 t.1)) (prefix L w.0 (after (t.0 ∷ w.0) t.2))

  sound_by : (x : Var) (l m : Label) (v : List Label) → After x → Der L (V (rest (dot x m) v)) → (b : Bool) → (is_pointer l && has_both (follow L.lines x)) ≡ b → cond b is_pointer (label_eq l) m ≡ true → Der L (V (rest (dot x l) v))
  sound_by x l m v after d true e f =
      let g : (is_pointer l ≡ true) × (has_both (follow L.lines x) ≡ true) = and_parts (is_pointer l) (has_both (follow L.lines x)) e in
      let k : Flip L x = flip_from x after g.1 in
      (both L (same_rest L v (pointer_same L x m l (pointer_is m f) (pointer_is l g.0) k.0 k.1) d)).1
  sound_by x l m v after d false e f = subst (λ n. Der L (V (rest (dot x n) v))) (sym (label_equal l m f)) d

  -- what may follow does
  pub sound : (x : Var) → After x
  sound (at b) v h = line_seen (record { base = b; word = v }) (words_from b L.lines v h)
  sound (dot x l) v h =
      let t : From (alike (follow L.lines x) l) (follow L.lines x) v = tails_from (alike (follow L.lines x) l) (follow L.lines x) v h in
      sound_by x l t.0 v (λ u k. sound x u k) (sound x (t.0 ∷ v) t.2) (is_pointer l && has_both (follow L.lines x)) refl t.1

  -- and there is nothing else
  module _ (vars : AreVars L.lines) where
    abbrev Holds : Shown → Type 0
    Holds (Is x) = (v : List Label) × Has (follow L.lines x) v
    Holds (One x y) = follow L.lines x ≡ follow L.lines y
    Holds (Less x y) = (follow L.lines x ≡ follow L.lines y) × ((v : List Label) × Has (follow L.lines y) v)
    Holds (Lo k x) = Unit {0}
    Holds (Hi x k) = Unit {0}

    walk : (x : Var) (w v : List Label) → Has (follow L.lines x) (w ++ v) → Has (follow L.lines (rest x w)) v
    walk x [] v h = h
    walk x (l ∷ w) v h = walk (dot x l) w v (tails_to (alike (follow L.lines x) l) (follow L.lines x) l (w ++ v) (alike_self (follow L.lines x) l) h)

    at_side : (x : Dtv) → Contains L.lines (VarLine x) → Has (follow L.lines (vd x)) []
    at_side x c = walk (at x.base) x.word [] (subst (λ w. Has (words x.base L.lines) w) (sym (append-nil x.word)) (words_to L.lines x c))

    back_one : (x : Var) (l : Label) → ((v : List Label) × Has (follow L.lines (dot x l)) v) → (v : List Label) × Has (follow L.lines x) v
    back_one x l h = let t : (m : Label) × (alike (follow L.lines x) l m ≡ true) × Has (follow L.lines x) (m ∷ h.0) = tails_from (alike (follow L.lines x) l) (follow L.lines x) h.0 h.1 in (t.0 ∷ h.0, t.2)

    longer_one : (x y : Var) (l : Label) → follow L.lines x ≡ follow L.lines y → follow L.lines (dot x l) ≡ follow L.lines (dot y l)
    longer_one x y l e = ap (λ ws. tails (alike ws l) ws) e

    moved : (x y : Var) → follow L.lines x ≡ follow L.lines y → ((v : List Label) × Has (follow L.lines x) v) → (v : List Label) × Has (follow L.lines y) v
    moved x y e h = (h.0, subst (λ ws. Has ws h.0) e h.1)

    -- each line is one of existence
    no_sub : {x y : Dtv} → Contains L.lines (Sub x y) → ⊥
    no_sub {x} {y} c = let h : (z : Dtv) × (Sub x y ≡ VarLine z) = vars (Sub x y) c in cc

    no_same : {x y : Dtv} → Contains L.lines (Same x y) → ⊥
    no_same {x} {y} c = let h : (z : Dtv) × (Same x y ≡ VarLine z) = vars (Same x y) c in cc

    named_one : (l : Line) (x : Var) → Contains L.lines l → HasSide l (dv x) → (v : List Label) × Has (follow L.lines x) v
    named_one (VarLine y) x c e = ([], subst (λ z. Has (follow L.lines z) []) (ap vd e ∙ vd-dv x) (at_side y c))
    named_one (Same y z) x c h = absurd (no_same c)
    named_one (Sub y z) x c h = absurd (no_sub c)
    named_one (Low k y) x c h = let e : (z : Dtv) × (Low k y ≡ VarLine z) = vars (Low k y) c in absurd (cc)
    named_one (Up y k) x c h = let e : (z : Dtv) × (Up y k ≡ VarLine z) = vars (Up y k) c in absurd (cc)

    pub holds : {f : Shown} → Tree L.order L.lines f → Holds f
    holds (e1 l {x} c h) = named_one l x c h
    holds (e2 {x} l d) = back_one x l (holds d)
    holds (e3a {x} {y} d) = let h : Holds (Less x y) = holds d in moved y x (sym h.0) h.1
    holds (e3b d) = (holds d).1
    holds (e4 {x} {y} l d e) = moved (dot x l) (dot y l) (longer_one x y l (holds d)) (holds e)
    holds (q0 c) = absurd (no_same c)
    holds (q1 d) = (holds d).0
    holds (q2 d) = refl
    holds (q3 d) = sym (holds d)
    holds (q4 d e) = holds d ∙ holds e
    holds (q5 {x} {y} l d e) = longer_one x y l (holds d)
    holds (s1 c) = absurd (no_sub c)
    holds (s2 d) = (refl, holds d)
    holds (s3 d e) = ((holds d).0 ∙ (holds e).0, (holds e).1)
    holds (s4 {x} {y} l d e h) = (longer_one x y l (holds d).0, holds e)
    holds (s5 {x} {y} l d e h) = (longer_one y x l (sym (holds d).0), moved (dot y l) (dot x l) (longer_one y x l (sym (holds d).0)) (holds e))
    holds (s6 {x} d e) = (pointers x (holds d) (holds e), holds d)
      where
        pointers : (x : Var) → ((v : List Label) × Has (follow L.lines (dot x Load)) v) → ((v : List Label) × Has (follow L.lines (dot x Store)) v) → follow L.lines (dot x Store) ≡ follow L.lines (dot x Load)
        pointers x h k =
            let b : has_both (follow L.lines x) ≡ true = both_from (follow L.lines x) h.0 k.0 h.1 k.1 in
            ap (λ p. tails p (follow L.lines x)) (alike_true (follow L.lines x) Store refl b ∙ sym (alike_true (follow L.lines x) Load refl b))
    holds (c1l c) = tt
    holds (c1u c) = tt
    holds (c2 d e a) = tt
    holds (c3 d e a) = tt

    -- which variables can be read and written through
    pub flips_yes : (x : Var) → has_both (follow L.lines x) ≡ true → Flip L x
    flips_yes x e = flip_from x (sound x) e

    shown : (x : Var) → Der L (V x) → Tree L.order L.lines (Is x)
    shown x d = subst (λ y. Tree L.order L.lines (Is y)) (vd-dv x) (tree L.order L.lines d.derives)

    pub flips_no : (x : Var) → Flip L x → has_both (follow L.lines x) ≡ true
    flips_no x f =
        let h : (v : List Label) × Has (follow L.lines (dot x Load)) v = holds (shown (dot x Load) f.0) in
        let k : (v : List Label) × Has (follow L.lines (dot x Store)) v = holds (shown (dot x Store) f.1) in
        both_from (follow L.lines x) h.0 k.0 h.1 k.1
