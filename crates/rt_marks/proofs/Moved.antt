-- Each loose derivation carried from the lines to the split lines.
use Rattle.std.proofs.Common.{◌≡◌, ℕ, ◌⊎◌, inl, inr, List, [], ◌∷◌, ◌++◌, Contains, Bool, true, false, cond, Option, Some, None}
use Rattle.std.proofs.Common.{refl, ap, sym, ◌∙◌, subst}
use Rattle.rt_base.proofs.Lists.{Contains-here, Contains-there}
use Rattle.rt_lines.specs.declared.label.Label.{Label}
use Rattle.rt_lines.specs.declared.label.Label.TheVariants.{Load, Store}
use Rattle.rt_lines.specs.declared.label.Variance.TheVariants.{Co, Contra}
use Rattle.rt_lines.specs.declared.variable.Base.{Base}
use Rattle.rt_lines.specs.declared.variable.Base.TheVariants.{Proc, Global, Exist, Outer}
use Rattle.rt_lines.specs.declared.variable.Dtv.{Dtv}
use Rattle.rt_lines.specs.declared.line.Line.{Line}
use Rattle.rt_lines.specs.declared.line.Line.TheVariants.{Var, Same, Sub, Low, Up}
use Rattle.rt_lines.specs.Words.{label_variance}
use Rattle.rt_lines.specs.Orders.{Below}
use Rattle.rt_rules.specs.Rules.{longer, HasSide}
use Rattle.rt_loose.specs.Loose.{Loosely}
use Rattle.rt_loose.specs.Loose.Loosely.{named, prefix, left_side, right_side, same_letter, same_line, same_sub, same_self}
use Rattle.rt_loose.specs.Loose.Loosely.{same_back, same_chain, same_longer}
use Rattle.rt_loose.specs.Loose.Loosely.{sub_line, sub_self, sub_chain, sub_co, sub_contra, sub_pointer, loose_pointer}
use Rattle.rt_loose.specs.Loose.Loosely.{low_line, up_line, low_sub, up_sub}
use Rattle.rt_rules.specs.Put.{exist}
use Rattle.rt_marks.proofs.Carrying.{side, are_there}
use Rattle.rt_marks.proofs.Covering.{front}
use Rattle.rt_marks.proofs.Turned.{same_word}
use Rattle.rt_record.specs.Records.{is_access, IsField, part, number_of, moved_to, moved_at, moved, moved_line, flow_sides}
use Rattle.rt_record.proofs.Moving.{Moves, Stays, moving}
use Rattle.rt_marks.proofs.Places.{access_same}

-- what a variable is of an existential that holds fields: itself, what is loaded from it or stored in it, or anything else
pub data Stub : Type 0 where
  bare : ℕ → Stub
  opened : ℕ → Stub
  beyond : Stub

-- with a letter more
abbrev pub next : Stub → Label → Stub
next (bare n) a = cond (is_access a) (opened n) beyond
next (opened n) a = beyond
next beyond a = beyond

next-pointer : (s : Stub) → next s Store ≡ next s Load
next-pointer (bare n) = refl
next-pointer (opened n) = refl
next-pointer beyond = refl

-- the existential's variable, or else the one with a letter more
abbrev grown : Option ℕ → Dtv → Label → Dtv
grown (Some m) y a = exist m
grown None y a = longer y a

module _ (holds : ℕ → Bool) (parts : ℕ → Label → Option ℕ)
    (of_records : (n : ℕ) (f : Label) (m : ℕ) → parts n f ≡ Some m → holds n ≡ true)
    (fields : (n : ℕ) (f : Label) (m : ℕ) → parts n f ≡ Some m → IsField f) where
  abbrev pub word_stub : ℕ → List Label → Stub
  word_stub n [] = bare n
  word_stub n (a ∷ []) = next (bare n) a
  word_stub n (a ∷ f ∷ u) = beyond

  abbrev pub base_stub : Base → List Label → Stub
  base_stub (Proc n) w = beyond
  base_stub (Global n) w = beyond
  base_stub (Exist n) w = cond (holds n) (word_stub n w) beyond
  base_stub (Outer n) w = beyond

  abbrev pub stub : Dtv → Stub
  stub x = base_stub x.base x.word

  cond_next : (b : Bool) (s : Stub) (a : Label) → cond b (next s a) beyond ≡ next (cond b s beyond) a
  cond_next true s a = refl
  cond_next false s a = refl

  cond_beyond : (b : Bool) → cond b beyond beyond ≡ beyond
  cond_beyond true = refl
  cond_beyond false = refl

  next_twice : (b : Bool) (n : ℕ) (a c : Label) → next (cond b (opened n) beyond) c ≡ beyond
  next_twice true n a c = refl
  next_twice false n a c = refl

  -- a variable that no existential that holds fields is the base of, or that is a part of one, is anything else
  pub part_far : (n : ℕ) (a f : Label) (u : List Label) → stub (part n a f u) ≡ beyond
  part_far n a f u = cond_beyond (holds n)

  base_far : (b : Base) (w : List Label) → ((n : ℕ) → b ≡ Exist n → holds n ≡ false) → base_stub b w ≡ beyond
  base_far (Proc n) w none = refl
  base_far (Global n) w none = refl
  base_far (Outer n) w none = refl
  base_far (Exist n) w none = ap (λ h. cond h (word_stub n w) beyond) (none n refl)

  pub other_far : (x : Dtv) → ((n : ℕ) → x.base ≡ Exist n → holds n ≡ false) → stub x ≡ beyond
  other_far x none = base_far x.base x.word none

  base_stub-longer : (b : Base) (w : List Label) (a : Label) → base_stub b (w ++ a ∷ []) ≡ next (base_stub b w) a
  base_stub-longer (Proc n) w a = refl
  base_stub-longer (Global n) w a = refl
  base_stub-longer (Outer n) w a = refl
  base_stub-longer (Exist n) [] a = cond_next (holds n) (bare n) a
  base_stub-longer (Exist n) (c ∷ []) a = by (holds n) (is_access c)
    where
      by : (h b : Bool) → cond h beyond beyond ≡ next (cond h (cond b (opened n) beyond) beyond) a
      by true true = refl
      by true false = refl
      by false b = refl
  base_stub-longer (Exist n) (c ∷ f ∷ u) a = cond_next (holds n) beyond a

  stub-longer : (x : Dtv) (a : Label) → stub (longer x a) ≡ next (stub x) a
  stub-longer x a = base_stub-longer x.base x.word a

  -- the number of the existential that the letter leads to
  abbrev part_at : Stub → Label → Option ℕ
  part_at (bare n) a = None
  part_at (opened n) a = parts n a
  part_at beyond a = None

  no_access : (s : Stub) (a : Label) → (IsField a → ⊥) → part_at s a ≡ None
  no_access (bare n) a none = refl
  no_access beyond a none = refl
  no_access (opened n) a none = by (parts n a) refl
    where
      by : (o : Option ℕ) → parts n a ≡ o → parts n a ≡ None
      by None e = e
      by (Some m) e = absurd (none (fields n a m e))

  no_load : IsField Load → ⊥
  no_load (w, k, e) = cc

  no_store : IsField Store → ⊥
  no_store (w, k, e) = cc

  part_here : (n : ℕ) (a : Label) (h b : Bool) (o : Option ℕ) → ((m : ℕ) → o ≡ Some m → h ≡ true) → o ≡ parts n a →
      part_at (cond h (cond b (opened n) beyond) beyond) a ≡ cond b o None
  part_here n a true true o of e = sym e
  part_here n a true false o of e = refl
  part_here n a false false o of e = refl
  part_here n a false true None of e = refl
  part_here n a false true (Some m) of e = let f : false ≡ true = of m refl in cc

  part_bare : (n : ℕ) (a : Label) (h : Bool) → part_at (cond h (bare n) beyond) a ≡ None
  part_bare n a true = refl
  part_bare n a false = refl

  no_part : (a : Label) (h : Bool) → part_at (cond h beyond beyond) a ≡ None
  no_part a true = refl
  no_part a false = refl

  moved_grown : (n : ℕ) (o : Option ℕ) (y z : Dtv) (a : Label) → z ≡ longer y a → moved_to o [] z ≡ grown o y a
  moved_grown n (Some m) y z a e = refl
  moved_grown n None y z a e = e

  moved_longer : (o : Option ℕ) (n : ℕ) (c f a : Label) (u : List Label) →
      moved_to o (u ++ a ∷ []) (part n c f (u ++ a ∷ [])) ≡ longer (moved_to o u (part n c f u)) a
  moved_longer (Some m) n c f a u = refl
  moved_longer None n c f a u = refl

  moved_at-longer : (b : Base) (w : List Label) (a : Label) →
      moved_at parts b (w ++ a ∷ []) ≡ grown (part_at (base_stub b w) a) (moved_at parts b w) a
  moved_at-longer (Proc n) w a = refl
  moved_at-longer (Global n) w a = refl
  moved_at-longer (Outer n) w a = refl
  moved_at-longer (Exist n) [] a = rw (part_bare n a (holds n)) refl
  moved_at-longer (Exist n) (c ∷ []) a =
      rw (part_here n a (holds n) (is_access c) (parts n a) (λ m e. of_records n a m e) refl)
      (moved_grown n (number_of parts n c a) (record { base = Exist n; word = c ∷ [] }) (part n c a []) a refl)
  moved_at-longer (Exist n) (c ∷ f ∷ u) a = rw (no_part a (holds n)) (moved_longer (number_of parts n c f) n c f a u)

  -- what a variable with a letter more goes to
  moved-longer : (x : Dtv) (a : Label) → moved parts (longer x a) ≡ grown (part_at (stub x) a) (moved parts x) a
  moved-longer x a = moved_at-longer x.base x.word a

  module _ (order : Below) (others : List Line)
      (shaped : (n : ℕ) (f : Label) (m : ℕ) → parts n f ≡ Some m →
      (a : Label) × (is_access a ≡ true) × Loosely order others (Same (exist m) (part n a f []))) where
    abbrev D : Line → Type 0
    D j = Loosely order others j

    -- a variable has the shape of the one that it goes to
    same_moved : (x : Dtv) → D (Var x) → D (Same x (moved parts x))
    same_moved x d = by (moving parts x)
      where
        by : Stays parts x ⊎ ((m : ℕ) × Moves parts x m) → D (Same x (moved parts x))
        by (inl p) = subst (λ y. D (Same x y)) (sym p.0) (same_self d)
        by (inr (m, s)) =
            let p : (a : Label) × (is_access a ≡ true) × D (Same (exist m) (part s.holder a s.field [])) =
            shaped s.holder s.field m s.number in
            let there : D (Var (part s.holder s.access s.field s.more)) = subst (λ v. D (Var v)) s.same d in
            let here : D (Same (part s.holder p.0 s.field []) (part s.holder s.access s.field [])) =
            access_same order others s.holder s.access p.0 s.field s.is_access p.1 (fields s.holder s.field m s.number)
            (are_there order others p.2).1
            (front order others (part s.holder s.access s.field []) s.more there) in
            let e : D (Same (part s.holder s.access s.field s.more) (record { base = Exist m; word = s.more })) =
            same_word order others (part s.holder s.access s.field []) (exist m) s.more (same_back (same_chain p.2 here)) there in
            subst (λ y. D (Same y (moved parts x))) (sym s.same)
            (subst (λ y. D (Same (part s.holder s.access s.field s.more) y)) (sym s.goes) e)

    moved_there : (x : Dtv) → D (Var x) → D (Var (moved parts x))
    moved_there x d = (are_there order others (same_moved x d)).1

    -- what a judgement of the lines says of the others
    abbrev pub Says : Line → Type 0
    Says (Var x) = D (Var x)
    Says (Same x y) = D (Same x y)
    Says (Sub x y) = D (Var x) × D (Var y) × D (Sub (moved parts x) (moved parts y)) × (stub x ≡ stub y)
    Says (Low k x) = D (Var x) × D (Low k (moved parts x))
    Says (Up x k) = D (Var x) × D (Up (moved parts x) k)

    -- so of a line of which what it becomes is derivable
    pub line_says : (l : Line) → ((x : Dtv) → Contains (flow_sides l) x → stub x ≡ beyond) →
        ((x : Dtv) → Contains (flow_sides l) x → D (Var (moved parts x)) → D (Var x)) → D (moved_line parts l) → Says l
    line_says (Var x) far there d = d
    line_says (Same x y) far there d = d
    line_says (Sub x y) far there d =
        let both : D (Var (moved parts x)) × D (Var (moved parts y)) = are_there order others d in
        let first : Contains (x ∷ y ∷ []) x = Contains-here x (y ∷ []) in
        let second : Contains (x ∷ y ∷ []) y = Contains-there x (y ∷ []) y (Contains-here y []) in
        (there x first both.0, there y second both.1, d, far x first ∙ sym (far y second))
    line_says (Low k x) far there d = (there x (Contains-here x []) (are_there order others d), d)
    line_says (Up x k) far there d = (there x (Contains-here x []) (are_there order others d), d)

    same_of : (x y : Dtv) → Says (Sub x y) → D (Same x y)
    same_of x y s = same_chain (same_moved x s.0) (same_chain (same_sub s.2) (same_back (same_moved y s.1)))

    says_side : (l : Line) (z : Dtv) → Says l → HasSide l z → D (Var z)
    says_side (Var x) z s e = subst (λ v. D (Var v)) e s
    says_side (Same x y) z s h = side order others (Same x y) z s h
    says_side (Sub x y) z s (inl e) = subst (λ v. D (Var v)) e s.0
    says_side (Sub x y) z s (inr e) = subst (λ v. D (Var v)) e s.1
    says_side (Low k x) z s e = subst (λ v. D (Var v)) e s.0
    says_side (Up x k) z s e = subst (λ v. D (Var v)) e s.0

    grown_co : (o : Option ℕ) (x y : Dtv) (l : Label) → D (Sub x y) → D (Var (grown o y l)) → label_variance l ≡ Co →
        D (Sub (grown o x l) (grown o y l))
    grown_co (Some m) x y l d e s = sub_self e
    grown_co None x y l d e s = sub_co l d e s

    grown_contra : (o : Option ℕ) (x y : Dtv) (l : Label) → D (Sub x y) → D (Var (grown o y l)) → label_variance l ≡ Contra →
        D (Sub (grown o y l) (grown o x l))
    grown_contra (Some m) x y l d e s = sub_self e
    grown_contra None x y l d e s = sub_contra l d e s

    -- of two variables of one stub, the longer ones
    grown_by : (x y : Dtv) (l : Label) → stub x ≡ stub y → moved parts (longer x l) ≡ grown (part_at (stub y) l) (moved parts x) l
    grown_by x y l e = moved-longer x l ∙ ap (λ s. grown (part_at s l) (moved parts x) l) e

    stub_by : (x y : Dtv) (l : Label) → stub x ≡ stub y → stub (longer x l) ≡ stub (longer y l)
    stub_by x y l e = stub-longer x l ∙ (ap (λ s. next s l) e ∙ sym (stub-longer y l))

    letter_there : (y : Dtv) (l : Label) → D (Var (longer y l)) → D (Var (grown (part_at (stub y) l) (moved parts y) l))
    letter_there y l d = subst (λ v. D (Var v)) (moved-longer y l) (moved_there (longer y l) d)

    says_co : (x y : Dtv) (l : Label) → Says (Sub x y) → D (Var (longer y l)) → label_variance l ≡ Co → Says (Sub (longer x l) (longer y l))
    says_co x y l s d v = (
      same_letter l (same_back (same_of x y s)) d,
      d,
      rw (grown_by x y l s.3, moved-longer y l)
          (grown_co (part_at (stub y) l) (moved parts x) (moved parts y) l s.2 (letter_there y l d) v),
      stub_by x y l s.3,
    )

    says_contra : (x y : Dtv) (l : Label) → Says (Sub x y) → D (Var (longer y l)) → label_variance l ≡ Contra →
        Says (Sub (longer y l) (longer x l))
    says_contra x y l s d v = (
      d,
      same_letter l (same_back (same_of x y s)) d,
      rw (grown_by x y l s.3, moved-longer y l)
          (grown_contra (part_at (stub y) l) (moved parts x) (moved parts y) l s.2 (letter_there y l d) v),
      sym (stub_by x y l s.3),
    )

    access_stays : (x : Dtv) (a : Label) → (IsField a → ⊥) → moved parts (longer x a) ≡ longer (moved parts x) a
    access_stays x a none = moved-longer x a ∙ ap (λ o. grown o (moved parts x) a) (no_access (stub x) a none)

    says_pointer : (x : Dtv) → D (Var (longer x Load)) → D (Var (longer x Store)) → Says (Sub (longer x Store) (longer x Load))
    says_pointer x d e = (
      e,
      d,
      rw (access_stays x Store no_store, access_stays x Load no_load) (sub_pointer (moved parts x)
          (subst (λ v. D (Var v)) (access_stays x Load no_load) (moved_there (longer x Load) d))
          (subst (λ v. D (Var v)) (access_stays x Store no_store) (moved_there (longer x Store) e))),
      stub-longer x Store ∙ (next-pointer (stub x) ∙ sym (stub-longer x Load)),
    )

    says_loose : (x : Dtv) → D (Var (longer x Load)) → D (Var (longer x Store)) → Says (Sub (longer x Load) (longer x Store))
    says_loose x d e = (
      d,
      e,
      rw (access_stays x Store no_store, access_stays x Load no_load) (loose_pointer (moved parts x)
          (subst (λ v. D (Var v)) (access_stays x Load no_load) (moved_there (longer x Load) d))
          (subst (λ v. D (Var v)) (access_stays x Store no_store) (moved_there (longer x Store) e))),
      stub-longer x Load ∙ (sym (next-pointer (stub x)) ∙ sym (stub-longer x Store)),
    )

    -- where each line says so, each judgement does
    module _ (all : List Line) (gives : (l : Line) → Contains all l → Says l) where
      pub said : {j : Line} → Loosely order all j → Says j
      said (named l {x = x} c h) = says_side l x (gives l c) h
      said (prefix l d) = prefix l (said d)
      said (left_side d) = (said d).0
      said (right_side d) = (said d).1
      said (same_letter l d e) = same_letter l (said d) (said e)
      said (same_line {x = x} {y = y} c) = gives (Same x y) c
      said (same_sub {x = x} {y = y} d) = same_of x y (said d)
      said (same_self d) = same_self (said d)
      said (same_back d) = same_back (said d)
      said (same_chain d e) = same_chain (said d) (said e)
      said (same_longer l d e) = same_longer l (said d) (said e)
      said (sub_line {x = x} {y = y} c) = gives (Sub x y) c
      said (sub_self {x = x} d) = let there : D (Var x) = said d in (there, there, sub_self (moved_there x there), refl)
      said (sub_chain d e) = ((said d).0, (said e).1, sub_chain (said d).2 (said e).2, (said d).3 ∙ (said e).3)
      said (sub_co {x = x} {y = y} l d e v) = says_co x y l (said d) (said e) v
      said (sub_contra {x = x} {y = y} l d e v) = says_contra x y l (said d) (said e) v
      said (sub_pointer x d e) = says_pointer x (said d) (said e)
      said (loose_pointer x d e) = says_loose x (said d) (said e)
      said (low_line {k = k} {x = x} c) = gives (Low k x) c
      said (up_line {k = k} {x = x} c) = gives (Up x k) c
      said (low_sub d e a) = ((said e).1, low_sub (said d).1 (said e).2 a)
      said (up_sub d e a) = ((said d).0, up_sub (said d).2 (said e).1 a)
