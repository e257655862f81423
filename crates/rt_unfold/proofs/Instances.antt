-- Instances of lists alike.
use Rattle.std.proofs.Common.{◌≡◌, ℕ, ◌⊎◌, inl, inr, Bool, true, false, ◌||◌, IsTrue, nat_eq, if◌then◌else◌, Option, Some, None}
use Rattle.std.proofs.Common.{unwrap_or, List, [], ◌∷◌, ◌++◌, map, flat_map, Contains, refl, sym, ap, subst, ◌∙◌, eq-eqb, true≢false}
use Rattle.std.proofs.lemmas.Bool.{eqb-true, and_parts}
use Rattle.std.proofs.lemmas.List.{map-append}
use Rattle.std.proofs.lemmas.List.Elements.{Contains-append_left, Contains-append_right, Contains-append_cases, All-contains, All-append}
use Rattle.rt_base.proofs.Lists.{Contains-none, Contains-here, Contains-cons_cases, Contains-map_source, map-map}
use Rattle.rt_base.proofs.Lists.{Contains-flat_map, Contains-flat_map_source}
use Rattle.rt_lines.specs.declared.label.Label.{Label}
use Rattle.rt_lines.specs.declared.label.Label.TheVariants.{In, Out, Load, Store, Field}
use Rattle.rt_lines.specs.declared.variable.Base.{Base}
use Rattle.rt_lines.specs.declared.variable.Base.TheVariants.{Proc, Global, Exist, Outer}
use Rattle.rt_lines.specs.declared.variable.Dtv.{Dtv}
use Rattle.rt_lines.specs.declared.line.Line.{Line}
use Rattle.rt_lines.specs.declared.line.Line.TheVariants.{Var, Same, Sub, Low, Up}
use Rattle.rt_lines.specs.Numbering.{existential_of, existentials_of}
use Rattle.rt_lines.specs.Sides.{map_line, renamed, sides}
use Rattle.rt_lines.proofs.LineSides.{map_line-twice}
use Rattle.rt_rules.specs.Rules.{HasSide}
use Rattle.rt_rules.specs.Alike.{Alike, IsOutside}
use Rattle.rt_rules.specs.Laws.{NamesBase}
use Rattle.rt_rules.proofs.LineSides.{Contains-sides, HasSide-in_sides, HasSide-map_line_source}
use Rattle.rt_rules.proofs.Covering.{map_line-fixed}
use Rattle.rt_scheme.specs.Schemes.{AreSchemeLines, is_interface, is_scheme_line, is_scheme_side, is_scheme_variable}
use Rattle.rt_scheme.specs.declared.interface.Interface.{Interface}
use Rattle.rt_scheme.specs.Splitting.{IsSplitting, interface_of, interfaces_of, interfaces, split_line, split_variable, split_side}
use Rattle.rt_unfold.specs.Instances.{IsInstancing, InstanceLaw, instance_by, instance_side, instance_variable}
use Rattle.rt_unfold.proofs.Finding.{find, find-found, find-itself, find-nothing}
use Rattle.rt_unfold.proofs.Mapping.{map-back, map-same}
use Rattle.rt_unfold.proofs.Widening.{AreOwnLines, IsFresh, IsOwnBase, fresh, is_new_base}
use Rattle.rt_unfold.proofs.Instancing.{instance_alike}

-- Lines of schemes.

scheme_line-side : (own : ℕ) (l : Line) (x : Dtv) → IsTrue (is_scheme_line own l) → HasSide l x → is_scheme_variable own x ≡ true
scheme_line-side own (Var y) x h e = subst (λ z. is_scheme_variable own z ≡ true) e h
scheme_line-side own (Same y z) x h (inl e) =
    subst (λ v. is_scheme_variable own v ≡ true) e (and_parts (is_scheme_variable own y) (is_scheme_variable own z) h).0
scheme_line-side own (Same y z) x h (inr e) =
    subst (λ v. is_scheme_variable own v ≡ true) e (and_parts (is_scheme_variable own y) (is_scheme_variable own z) h).1
scheme_line-side own (Sub y z) x h (inl e) =
    subst (λ v. is_scheme_variable own v ≡ true) e (and_parts (is_scheme_variable own y) (is_scheme_variable own z) h).0
scheme_line-side own (Sub y z) x h (inr e) =
    subst (λ v. is_scheme_variable own v ≡ true) e (and_parts (is_scheme_variable own y) (is_scheme_variable own z) h).1
scheme_line-side own (Low k y) x h e = subst (λ z. is_scheme_variable own z ≡ true) e h
scheme_line-side own (Up y k) x h e = subst (λ z. is_scheme_variable own z ≡ true) e h

-- each side of the lines is a variable of a scheme
pub scheme_lines-side : (own : ℕ) (lines : List Line) (l : Line) (x : Dtv) → AreSchemeLines own lines → Contains lines l → HasSide l x
    → is_scheme_variable own x ≡ true
scheme_lines-side own lines l x fit c h = scheme_line-side own l x (All-contains (λ line. IsTrue (is_scheme_line own line)) lines l fit c) h

own_base : (own : ℕ) (b : Base) (w : List Label) → is_scheme_side own b w ≡ true → IsOwnBase own b
own_base own (Proc n) w h = eqb-true n own (and_parts (nat_eq n own) (is_interface w) h).0
own_base own (Global n) w h = tt
own_base own (Exist n) w h = tt
own_base own (Outer n) w h = cc

scheme_own : (own : ℕ) (lines : List Line) → AreSchemeLines own lines → AreOwnLines own lines
scheme_own own lines fit l x c h = own_base own x.base x.word (scheme_lines-side own lines l x fit c h)

scheme_interface : (own : ℕ) (b : Base) (w : List Label) (n : ℕ) → is_scheme_side own b w ≡ true → b ≡ Proc n → is_interface w ≡ true
scheme_interface own (Proc m) w n h e = (and_parts (nat_eq m own) (is_interface w) h).1
scheme_interface own (Global m) w n h e = cc
scheme_interface own (Exist m) w n h e = cc
scheme_interface own (Outer m) w n h e = cc

-- The existentials that lines name.

abbrev named_in : List Line → List ℕ
named_in lines = flat_map existentials_of lines

of_base : (b : Base) (n : ℕ) → b ≡ Exist n → Contains (existential_of b) n
of_base b n e = subst (λ c. Contains (existential_of c) n) (sym e) (Contains-here n [])

base_from : (b : Base) (n : ℕ) → Contains (existential_of b) n → b ≡ Exist n
base_from (Proc m) n c = absurd (Contains-none n c)
base_from (Global m) n c = absurd (Contains-none n c)
base_from (Exist m) n c = by (Contains-cons_cases m [] n c)
  where
    by : (m ≡ n) ⊎ Contains [] n → Exist m ≡ Exist n
    by (inl e) = ap Exist e
    by (inr none) = absurd (Contains-none n none)
base_from (Outer m) n c = absurd (Contains-none n c)

named-has : (lines : List Line) (n : ℕ) → NamesBase lines (Exist n) → Contains (named_in lines) n
named-has lines n (l, x, c, h, e) =
    Contains-flat_map existentials_of lines l n c
    (Contains-flat_map (λ y. existential_of y.base) (sides l) x n (Contains-sides l x h) (of_base x.base n e))

named-from : (lines : List Line) (n : ℕ) → Contains (named_in lines) n → NamesBase lines (Exist n)
named-from lines n c =
    let s = Contains-flat_map_source existentials_of lines n c in
    let t = Contains-flat_map_source (λ y. existential_of y.base) (sides s.0) n s.2 in
    (s.0, t.0, s.1, HasSide-in_sides s.0 t.0 t.1, base_from (t.0).base n t.2)

-- The first labels of the procedure that lines name.

abbrev first_label : Base → List Label → List Label
first_label (Proc n) [] = []
first_label (Proc n) (l ∷ w) = l ∷ []
first_label (Global n) w = []
first_label (Exist n) w = []
first_label (Outer n) w = []

abbrev labels_in : List Line → List Label
labels_in lines = flat_map (λ line. flat_map (λ x. first_label x.base x.word) (sides line)) lines

label-here : (b : Base) (w : List Label) (q : ℕ) (l : Label) (v : List Label) → b ≡ Proc q → w ≡ l ∷ v → Contains (first_label b w) l
label-here b w q l v e f = subst (λ c. Contains (first_label c w) l) (sym e)
    (subst (λ u. Contains (first_label (Proc q) u) l) (sym f) (Contains-here l []))

labels-has : (lines : List Line) (k : Line) (x : Dtv) (q : ℕ) (l : Label) (v : List Label) → Contains lines k → HasSide k x
    → x.base ≡ Proc q → x.word ≡ l ∷ v → Contains (labels_in lines) l
labels-has lines k x q l v c h e f =
    Contains-flat_map (λ line. flat_map (λ y. first_label y.base y.word) (sides line)) lines k l c
    (Contains-flat_map (λ y. first_label y.base y.word) (sides k) x l (Contains-sides k x h) (label-here x.base x.word q l v e f))

abbrev is_some : Option ℕ → Bool
is_some (Some n) = true
is_some None = false

-- New existentials of a list.

module _ (port : Label → ℕ) (lines rest : List Line) (new : ℕ → ℕ) (instancing : IsInstancing port lines rest new) where
  abbrev pub old : ℕ → Option ℕ
  old m = find new (named_in lines) m

  abbrev pub is_new : ℕ → Bool
  is_new m = is_some (old m)

  abbrev pub returning : ℕ → ℕ
  returning m = unwrap_or (old m) 0

  old-of : (n : ℕ) → NamesBase lines (Exist n) → old (new n) ≡ Some n
  old-of n names = find-itself new (named_in lines) n (λ m c e. instancing.one_new m n (named-from lines m c) names e)
      (named-has lines n names)

  pub fresh_lines : IsFresh lines is_new new returning
  fresh_lines = record {
    new = λ l x n c h e. ap is_some (old-of n (l, x, c, h, e));
    returns = λ l x n c h e. ap (λ o. unwrap_or o 0) (old-of n (l, x, c, h, e));
  }

  -- what the other lines name is no new one
  pub not_new : (n : ℕ) → NamesBase rest (Exist n) → is_new n ≡ false
  not_new n names = ap is_some (find-nothing new (named_in lines) n
      (λ m c e. instancing.unnamed m (named-from lines m c) (subst (λ k. NamesBase rest (Exist k)) (sym e) names)))

module _ (own : ℕ) (port : Label → ℕ) (labels : List Label) where
  abbrev place : Interface → ℕ
  place a = port a.label

  abbrev is_own : ℕ → Bool
  is_own n = nat_eq n own

  abbrev pub splits : Line → Line
  splits = split_line is_own place

  -- the variable of which an existential is the port
  abbrev put_label : Option Label → ℕ → List Label → Dtv
  put_label None n w = record { base = Exist n; word = w }
  put_label (Some l) n w = record { base = Proc own; word = l ∷ w }

  abbrev meant : ℕ → Option Label
  meant n = find port labels n

  abbrev before_side : Base → List Label → Dtv
  before_side (Proc n) w = record { base = Proc n; word = w }
  before_side (Global n) w = record { base = Global n; word = w }
  before_side (Exist n) w = put_label (meant n) n w
  before_side (Outer n) w = record { base = Outer n; word = w }

  abbrev pub before : Dtv → Dtv
  before x = before_side x.base x.word

  put_label-split : (found : Option Label) (n : ℕ) (w : List Label) → ((l : Label) → found ≡ Some l → port l ≡ n)
      → split_variable is_own place (put_label found n w) ≡ record { base = Exist n; word = w }
  put_label-split None n w h = refl
  put_label-split (Some l) n w h = rw (eq-eqb own own refl) (λ i. record { base = Exist (h l refl i); word = w })

  not_own : (n : ℕ) (t : Bool) → nat_eq n own ≡ t → (Proc n ≡ Proc own → ⊥) → nat_eq n own ≡ false
  not_own n true e h = absurd (h (ap Proc (eqb-true n own e)))
  not_own n false e h = e

  proc-split : (n : ℕ) (w : List Label) → nat_eq n own ≡ false → split_side is_own place (Proc n) w ≡ record { base = Proc n; word = w }
  proc-split n [] e = refl
  proc-split n (l ∷ w) e = rw e refl

  before_side-split : (b : Base) (w : List Label) → (b ≡ Proc own → ⊥)
      → split_variable is_own place (before_side b w) ≡ record { base = b; word = w }
  before_side-split (Proc n) w h = proc-split n w (not_own n (nat_eq n own) refl h)
  before_side-split (Global n) w h = refl
  before_side-split (Exist n) w h = put_label-split (meant n) n w (λ l e. (find-found port labels n l e).1)
  before_side-split (Outer n) w h = refl

-- Mapped lists.

map_line-same : (f g : Dtv → Dtv) (l : Line) → ((x : Dtv) → f x ≡ g x) → map_line f l ≡ map_line g l
map_line-same f g (Var x) h = ap Var (h x)
map_line-same f g (Same x y) h = rw (h x, h y) refl
map_line-same f g (Sub x y) h = rw (h x, h y) refl
map_line-same f g (Low k x) h = rw (h x) refl
map_line-same f g (Up x k) h = rw (h x) refl

-- the variable is a side of one of the lines
abbrev pub HasVariable : List Line → Dtv → Type 0
HasVariable lines x = (l : Line) × Contains lines l × HasSide l x

variable-source : (f : Dtv → Dtv) (lines : List Line) (x : Dtv) → HasVariable (map (map_line f) lines) x → (y : Dtv)
    × HasVariable lines y × (f y ≡ x)
variable-source f lines x (k, c, h) =
    let s = Contains-map_source (map_line f) lines k c in
    let t = HasSide-map_line_source f s.0 x (subst (λ m. HasSide m x) (sym s.2) h) in
    (t.0, (s.0, s.1, t.1), t.2)

is_interface-first : (l : Label) (v w : List Label) → is_interface (l ∷ v) ≡ true → is_interface (l ∷ w) ≡ true
is_interface-first (In k) v w h = h
is_interface-first (Out n) v w h = h
is_interface-first Load v w h = h
is_interface-first Store v w h = h
is_interface-first (Field b k) v w h = h

first_label-from : (b : Base) (w : List Label) (l : Label) → Contains (first_label b w) l → (q : ℕ) × (v : List Label) × (b ≡ Proc q)
    × (w ≡ l ∷ v)
first_label-from (Proc n) [] l c = absurd (Contains-none l c)
first_label-from (Proc n) (m ∷ w) l c = by (Contains-cons_cases m [] l c)
  where
    by : (m ≡ l) ⊎ Contains [] l → (q : ℕ) × (v : List Label) × (Proc n ≡ Proc q) × (m ∷ w ≡ l ∷ v)
    by (inl e) = (n, w, refl, ap (λ k. k ∷ w) e)
    by (inr none) = absurd (Contains-none l none)
first_label-from (Global n) w l c = absurd (Contains-none l c)
first_label-from (Exist n) w l c = absurd (Contains-none l c)
first_label-from (Outer n) w l c = absurd (Contains-none l c)

-- a first label of scheme lines is an argument or a result
label-fits : (own : ℕ) (lines : List Line) (l : Label) (w : List Label) → AreSchemeLines own lines → Contains (labels_in lines) l
    → is_interface (l ∷ w) ≡ true
label-fits own lines l w fit c =
    let s = Contains-flat_map_source (λ line. flat_map (λ x. first_label x.base x.word) (sides line)) lines l c in
    let t = Contains-flat_map_source (λ x. first_label x.base x.word) (sides s.0) l s.2 in
    let f = first_label-from (t.0).base (t.0).word l t.2 in
    let whole = scheme_interface own (t.0).base (t.0).word f.0
    (scheme_lines-side own lines s.0 t.0 fit s.1 (HasSide-in_sides s.0 t.0 t.1)) f.2 in
    is_interface-first l f.1 w (subst (λ u. is_interface u ≡ true) f.3 whole)

-- what is split of a variable
interface-from : (own : ℕ) (b : Base) (w : List Label) (a : Interface) → Contains (interface_of (λ n. nat_eq n own) b w) a
    → (a.procedure ≡ own) × (v : List Label) × (b ≡ Proc own) × (w ≡ a.label ∷ v)
interface-from own (Proc n) [] a c = absurd (Contains-none a c)
interface-from own (Proc n) (l ∷ w) a c = by (nat_eq n own) refl c
  where
    same : n ≡ own → (record { procedure = n; label = l } ≡ a) ⊎ Contains [] a → (a.procedure ≡ own) × (v : List Label)
        × (Proc n ≡ Proc own) × (l ∷ w ≡ a.label ∷ v)
    same e (inl f) = ((λ i. (sym f i).procedure) ∙ e, w, ap Proc e, λ i. (f i).label ∷ w)
    same e (inr none) = absurd (Contains-none a none)

    by : (t : Bool) → nat_eq n own ≡ t → Contains (if t then record { procedure = n; label = l } ∷ [] else []) a → (a.procedure ≡ own)
        × (v : List Label) × (Proc n ≡ Proc own) × (l ∷ w ≡ a.label ∷ v)
    by true e d = same (eqb-true n own e) (Contains-cons_cases (record { procedure = n; label = l }) [] a d)
    by false e d = absurd (Contains-none a d)
interface-from own (Global n) w a c = absurd (Contains-none a c)
interface-from own (Exist n) w a c = absurd (Contains-none a c)
interface-from own (Outer n) w a c = absurd (Contains-none a c)

fresh-proc : (new : ℕ → ℕ) (b : Base) (q : ℕ) → fresh new b ≡ Proc q → b ≡ Proc q
fresh-proc new (Proc n) q e = e
fresh-proc new (Global n) q e = cc
fresh-proc new (Exist n) q e = cc
fresh-proc new (Outer n) q e = cc

fresh-exist : (new : ℕ → ℕ) (b : Base) (m : ℕ) → fresh new b ≡ Exist m → (n : ℕ) × (b ≡ Exist n) × (new n ≡ m)
fresh-exist new (Proc n) m e = cc
fresh-exist new (Global n) m e = cc
fresh-exist new (Exist n) m e = (n, refl, cc)
fresh-exist new (Outer n) m e = cc

module _ (inside : Base → Bool) (own : ℕ) (port : Label → ℕ) (both rest : List Line)
    (own_inside : inside (Proc own) ≡ true) (all_inside : (n : ℕ) → inside (Exist n) ≡ true) (own_unnamed : NamesBase rest (Proc own) → ⊥)
    (both_fit : AreSchemeLines own both) (one_port : (l m : Label) → port l ≡ port m → l ≡ m) where
  abbrev labels : List Label
  labels = labels_in both

  abbrev pub rest_before : List Line
  rest_before = map (map_line (before own port labels)) rest

  pub rest_is : map (splits own port labels) rest_before ≡ rest
  rest_is = map-back (map_line (before own port labels)) (splits own port labels) rest
      (λ l c. map_line-twice (split_variable (is_own own port labels) (place own port labels)) (before own port labels) l
      ∙ map_line-fixed (λ x. split_variable (is_own own port labels) (place own port labels) (before own port labels x)) l
      (λ x h. before_side-split own port labels x.base x.word (λ e. own_unnamed (l, x, c, h, e))))

  -- what is before splitting in the place of a base
  before-proc : (b : Base) (w : List Label) (q : ℕ) → (b ≡ Proc own → ⊥) → q ≡ own → (before_side own port labels b w).base ≡ Proc q
      → (l : Label) × (v : List Label) × Contains labels l × ((before_side own port labels b w).word ≡ l ∷ v)
  before-proc (Proc n) w q h s e = absurd (h (e ∙ ap Proc s))
  before-proc (Global n) w q h s e = cc
  before-proc (Exist n) w q h s e = by (meant own port labels n) refl e
    where
      by : (found : Option Label) → meant own port labels n ≡ found → (put_label own port labels found n w).base ≡ Proc q → (l : Label)
          × (v : List Label) × Contains labels l × ((put_label own port labels found n w).word ≡ l ∷ v)
      by None f g = cc
      by (Some l) f g = (l, w, (find-found port labels n l f).0, refl)
  before-proc (Outer n) w q h s e = cc

  before-exist : (b : Base) (w : List Label) (m : ℕ) → (before_side own port labels b w).base ≡ Exist m → (b ≡ Exist m)
      × (meant own port labels m ≡ None)
  before-exist (Proc n) w m e = cc
  before-exist (Global n) w m e = cc
  before-exist (Exist n) w m e = by (meant own port labels n) refl e
    where
      by : (found : Option Label) → meant own port labels n ≡ found → (put_label own port labels found n w).base ≡ Exist m
          → (Exist n ≡ Exist m) × (meant own port labels m ≡ None)
      by None f g = let same : n ≡ m = cc in (g, subst (λ k. meant own port labels k ≡ None) same f)
      by (Some l) f g = cc
  before-exist (Outer n) w m e = cc

  module _ (lines : List Line) (new : ℕ → ℕ) (fit : AreSchemeLines own lines) (instancing : IsInstancing port lines rest new)
      (among : (l : Label) → Contains (labels_in lines) l → Contains labels l) where
    abbrev pub new_lines : List Line
    new_lines = map (map_line (renamed (fresh new))) lines

    instance_side-split : (b : Base) (w : List Label)
        → split_side (is_own own port labels) (place own port labels) (fresh new b) w ≡ instance_side own port new b w
    instance_side-split (Proc n) [] = refl
    instance_side-split (Proc n) (l ∷ w) = refl
    instance_side-split (Global n) w = refl
    instance_side-split (Exist n) w = refl
    instance_side-split (Outer n) w = refl

    pub instance_is : map (splits own port labels) new_lines ≡ instance_by own port new lines
    instance_is =
        map-map (map_line (renamed (fresh new))) (splits own port labels) lines
        ∙ map-same (λ l. splits own port labels (map_line (renamed (fresh new)) l)) (map_line (instance_variable own port new)) lines
        (λ l c. map_line-twice (split_variable (is_own own port labels) (place own port labels)) (renamed (fresh new)) l
        ∙ map_line-same (λ x. split_variable (is_own own port labels) (place own port labels) (renamed (fresh new) x))
        (instance_variable own port new) l (λ x. instance_side-split x.base x.word))

    abbrev all_lines : List Line
    all_lines = rest_before ++ new_lines

    -- a variable is one of the rest's, before, or one of the lines' with a new existential
    abbrev Source : Dtv → Type 0
    Source x = ((y : Dtv) × HasVariable rest y × (before own port labels y ≡ x))
        ⊎ ((y : Dtv) × HasVariable lines y × (renamed (fresh new) y ≡ x))

    source : (k : Line) (x : Dtv) → Contains all_lines k → HasSide k x → Source x
    source k x c h = by (Contains-append_cases rest_before new_lines k c)
      where
        by : Contains rest_before k ⊎ Contains new_lines k → Source x
        by (inl d) = inl (variable-source (before own port labels) rest x (k, d, h))
        by (inr d) = inr (variable-source (renamed (fresh new)) lines x (k, d, h))

    own_label : (x : Dtv) (q : ℕ) → q ≡ own → x.base ≡ Proc q → Source x → (l : Label) × (v : List Label) × Contains labels l
        × (x.word ≡ l ∷ v)
    own_label x q s e (inl (y, (l, c, h), f)) =
        let p = before-proc y.base y.word q (λ g. own_unnamed (l, y, c, h, g)) s ((λ i. (f i).base) ∙ e) in
        (p.0, p.1, p.2, (λ i. (sym f i).word) ∙ p.3)
    own_label x q s e (inr (y, (l, c, h), f)) =
        let b : y.base ≡ Proc q = fresh-proc new y.base q ((λ i. (f i).base) ∙ e) in
        by y.word refl (scheme_interface own y.base y.word q (scheme_lines-side own lines l y fit c h) b)
      where
        by : (w : List Label) → y.word ≡ w → is_interface y.word ≡ true → (m : Label) × (v : List Label) × Contains labels m
            × (x.word ≡ m ∷ v)
        by [] g t = absurd (true≢false (sym t ∙ ap is_interface g))
        by (m ∷ v) g t = (
          m,
          v,
          among m (labels-has lines l y q m v c h (fresh-proc new y.base q ((λ i. (f i).base) ∙ e)) g),
          (λ i. (sym f i).word) ∙ g,
        )

    interface-source : (a : Interface) → Contains (interfaces (is_own own port labels) all_lines) a → (a.procedure ≡ own)
        × Contains labels a.label
    interface-source a c =
        let s = Contains-flat_map_source (interfaces_of (is_own own port labels)) all_lines a c in
        let t = Contains-flat_map_source (λ x. interface_of (is_own own port labels) x.base x.word) (sides s.0) a s.2 in
        let f = interface-from own (t.0).base (t.0).word a t.2 in
        let o = own_label t.0 own refl f.2 (source s.0 t.0 s.1 (HasSide-in_sides s.0 t.0 t.1)) in
        let same : o.0 ≡ a.label = first_is o.0 a.label o.1 f.1 (t.0).word o.3 f.3 in
        (f.0, subst (Contains labels) same o.2)
      where
        first_is : (l m : Label) (v w u : List Label) → u ≡ l ∷ v → u ≡ m ∷ w → l ≡ m
        first_is l m v w u e f = cc

    free : (a : Interface) (x : Dtv) → Contains labels a.label → x.base ≡ Exist (port a.label) → Source x → ⊥
    free a x c e (inl (y, (l, d, h), f)) =
        let p = before-exist y.base y.word (port a.label) ((λ i. (f i).base) ∙ e) in
        let found : meant own port labels (port a.label) ≡ Some a.label =
        find-itself port labels a.label (λ m d g. one_port m a.label g) c in
        let none : meant own port labels (port a.label) ≡ None = p.1 in
        cc
    free a x c e (inr (y, (l, d, h), f)) =
        let p = fresh-exist new y.base (port a.label) ((λ i. (f i).base) ∙ e) in
        instancing.no_port p.0 a.label (l, y, d, h, p.1) p.2

    pub is_splitting : IsSplitting inside (λ n. nat_eq n own) (λ a. port a.label) all_lines
    is_splitting = record {
      interface = λ k x q c h e s. let o = own_label x q (eqb-true q own s) e (source k x c h) in
          subst (λ w. is_interface w ≡ true) (sym o.3) (label-fits own both o.0 o.1 both_fit o.2);
      one_to_one = λ a b c d e.
          let s : a.procedure ≡ b.procedure = (interface-source a c).0 ∙ sym (interface-source b d).0 in
          let t : a.label ≡ b.label = one_port a.label b.label e in
          λ i. record { procedure = s i; label = t i };
      fresh = λ a c names. free a (names.1) (interface-source a c).1 (names.4) (source names.0 names.1 names.2 names.3);
      procedure_inside = λ q e. subst (λ n. inside (Proc n) ≡ true) (sym (eqb-true q own e)) own_inside;
      existential_inside = λ a c. all_inside (port a.label);
    }

labels-left : (first second : List Line) (l : Label) → Contains (labels_in first) l → Contains (labels_in (first ++ second)) l
labels-left first second l c =
    let s = Contains-flat_map_source (λ line. flat_map (λ x. first_label x.base x.word) (sides line)) first l c in
    Contains-flat_map (λ line. flat_map (λ x. first_label x.base x.word) (sides line)) (first ++ second) s.0 l
    (Contains-append_left first second s.0 s.1) s.2

labels-right : (first second : List Line) (l : Label) → Contains (labels_in second) l → Contains (labels_in (first ++ second)) l
labels-right first second l c =
    let s = Contains-flat_map_source (λ line. flat_map (λ x. first_label x.base x.word) (sides line)) second l c in
    Contains-flat_map (λ line. flat_map (λ x. first_label x.base x.word) (sides line)) (first ++ second) s.0 l
    (Contains-append_right first second s.0 s.1) s.2

-- no side of the rest, before, is a new existential
side_not_new : (one two : ℕ → Bool) (b : Base) → ((n : ℕ) → b ≡ Exist n → one n || two n ≡ false) → is_new_base one two b ≡ false
side_not_new one two (Proc n) h = refl
side_not_new one two (Global n) h = refl
side_not_new one two (Exist n) h = h n refl
side_not_new one two (Outer n) h = refl

neither : (a b : Bool) → a ≡ false → b ≡ false → a || b ≡ false
neither a b e f = rw (e, f) refl

outer_only : (inside : Base → Bool) (one two : ℕ → Bool) → ((n : ℕ) → inside (Exist n) ≡ true) → (b : Base) → inside b ≡ false
    → is_new_base one two b ≡ false
outer_only inside one two h (Proc n) e = refl
outer_only inside one two h (Global n) e = refl
outer_only inside one two h (Exist n) e = absurd (true≢false (sym (h n) ∙ e))
outer_only inside one two h (Outer n) e = refl

pub instance_law : InstanceLaw
instance_law order inside own port first second rest forth onward fit_first fit_second alike one two own_inside all_inside own_unnamed =
    subst (λ lines. Alike order inside lines (rest ++ instance_by own port onward second))
    (result first forth fit_first one (labels-left first second))
    (subst (λ lines. Alike order inside (map (splits own port (labels_in both)) (before_rest ++ renamed_by forth first)) lines)
    (result second onward fit_second two (labels-right first second))
    (instance_alike order inside own first second before_rest (is_new port first rest forth one)
    (is_new port second rest onward two) forth (returning port first rest forth one) onward (returning port second rest onward two)
    (scheme_own own first fit_first) (scheme_own own second fit_second) (fresh_lines port first rest forth one)
    (fresh_lines port second rest onward two) alike
    (outer_only inside (is_new port first rest forth one) (is_new port second rest onward two) all_inside) out (λ a. port a.label)
    (is_splitting inside own port both rest own_inside all_inside own_unnamed fit_both one.one_port first forth fit_first one
    (labels-left first second))
    (is_splitting inside own port both rest own_inside all_inside own_unnamed fit_both one.one_port second onward fit_second two
    (labels-right first second))))
  where
    both : List Line
    both = first ++ second

    fit_both : AreSchemeLines own both
    fit_both = All-append (λ line. IsTrue (is_scheme_line own line)) first second fit_first fit_second

    before_rest : List Line
    before_rest = map (map_line (before own port (labels_in both))) rest

    renamed_by : (ℕ → ℕ) → List Line → List Line
    renamed_by new lines = map (map_line (renamed (fresh new))) lines

    result : (lines : List Line) (new : ℕ → ℕ) → AreSchemeLines own lines → IsInstancing port lines rest new
        → ((l : Label) → Contains (labels_in lines) l → Contains (labels_in both) l) →
        map (splits own port (labels_in both)) (before_rest ++ renamed_by new lines) ≡ rest ++ instance_by own port new lines
    result lines new fit instancing among =
        map-append (splits own port (labels_in both)) before_rest (renamed_by new lines)
        ∙ rw (
          rest_is inside own port both rest own_inside all_inside own_unnamed fit_both one.one_port,
          instance_is inside own port both
              rest own_inside all_inside own_unnamed fit_both one.one_port lines new fit instancing among,
        ) refl

    out : (l : Line) → Contains before_rest l
        → IsOutside (is_new_base (is_new port first rest forth one) (is_new port second rest onward two)) l
    out l c x h =
        let s = variable-source (before own port (labels_in both)) rest x (l, c, h) in
        let v = s.1 in
        side_not_new (is_new port first rest forth one) (is_new port second rest onward two) x.base
        (λ n e. let p = before-exist inside own port both rest own_inside all_inside own_unnamed fit_both one.one_port (s.0).base
        (s.0).word n ((λ i. (s.2 i).base) ∙ e) in
        neither (is_new port first rest forth one n) (is_new port second rest onward two n)
        (not_new port first rest forth one n (v.0, s.0, v.1, v.2, p.0))
        (not_new port second rest onward two n (v.0, s.0, v.1, v.2, p.0)))
