-- What a list says of shapes follows from the shapes of its lines.
use Rattle.std.proofs.Common.{◌≡◌, ℕ, zero, suc, ◌+◌, ◌<◌, ◌≤◌, inl, inr, List, [], ◌∷◌, ◌++◌, Contains, Bool, true, false, Some, drop}
use Rattle.std.proofs.Common.{length, map, take, set, get_or, refl, sym, ap, subst, ◌∙◌, arith}
use Rattle.std.specs.Prelude.{slice_get}
use Rattle.std.proofs.lemmas.List.{append_assoc, get_or-drop, length-append, length-map, take-map}
use Rattle.std.proofs.lemmas.List.Elements.{Contains-append_cases, Contains-push_cases}
use Rattle.std.proofs.lemmas.Option.{slice_get-get_or}
use Rattle.std.proofs.Math.Seq.{take-append-add}
use Rattle.rt_base.proofs.Lists.{Contains-cons_cases, Contains-map_source, map-push, take-next}
use Rattle.rt_lines.specs.declared.variable.Dtv.{Dtv}
use Rattle.rt_lines.specs.declared.line.Line.{Line}
use Rattle.rt_lines.specs.declared.line.Line.TheVariants.{Var, Same, Sub, Low, Up}
use Rattle.rt_lines.specs.Orders.{Below}
use Rattle.rt_rules.specs.Rules.{Derivable, HasSide}
use Rattle.rt_rules.specs.Rules.Derivable.{named, prefix, left_side, right_side, same_letter, same_line, same_sub, same_self, same_back, same_chain, same_longer, sub_line, sub_self, sub_chain, sub_co, sub_contra, sub_pointer, low_line, up_line, low_sub, up_sub}
use Rattle.rt_rules.proofs.Carry.{are_there, given, side}
use Rattle.rt_rules.proofs.Covering.{derives_more}
use Rattle.rt_sure.specs.Fates.{AreSure}
use Rattle.rt_sure.specs.Inside.Shapes.{AreFewer, AreJoined, AreShaped, IsSubtype}
use Rattle.rt_sure.specs.Shapes.{shape_of}

module _ (order : Below) (left : List Line) where
  -- what the list says of the shape of a line
  abbrev pub IsShaped : Line → Type 0
  IsShaped (Var x) = Derivable order left (Var x)
  IsShaped (Same x y) = Derivable order left (Same x y)
  IsShaped (Sub x y) = Derivable order left (Same x y)
  IsShaped (Low k x) = Derivable order left (Var x)
  IsShaped (Up x k) = Derivable order left (Var x)

  -- what it derives, it says the shape of
  pub derived_shape : (l : Line) → Derivable order left l → IsShaped l
  derived_shape (Var x) d = d
  derived_shape (Same x y) d = d
  derived_shape (Sub x y) d = same_sub d
  derived_shape (Low k x) d = are_there order left d
  derived_shape (Up x k) d = are_there order left d

  side_shape : (l : Line) (x : Dtv) → IsShaped l → HasSide l x → Derivable order left (Var x)
  side_shape (Var x) z d h = side order left (Var x) z d h
  side_shape (Same x y) z d h = side order left (Same x y) z d h
  side_shape (Sub x y) z d h = side order left (Same x y) z d h
  side_shape (Low k x) z d h = side order left (Var x) z d h
  side_shape (Up x k) z d h = side order left (Var x) z d h

  both : {x y : Dtv} → Derivable order left (Same x y) → Derivable order left (Var x) × Derivable order left (Var y)
  both d = are_there order left d

  -- a list that says the shapes of lines says the shape of whatever they derive
  module _ (lines : List Line) (gives : (m : Line) → Contains lines m → IsShaped m) where
    pub shape_follows : {j : Line} → Derivable order lines j → IsShaped j
    shape_follows (named l {x = x} c h) = side_shape l x (gives l c) h
    shape_follows (prefix l d) = prefix l (shape_follows d)
    shape_follows (left_side d) = (both (shape_follows d)).0
    shape_follows (right_side d) = (both (shape_follows d)).1
    shape_follows (same_letter l d e) = same_letter l (shape_follows d) (shape_follows e)
    shape_follows (same_line {x = x} {y = y} c) = gives (Same x y) c
    shape_follows (same_sub d) = shape_follows d
    shape_follows (same_self d) = same_self (shape_follows d)
    shape_follows (same_back d) = same_back (shape_follows d)
    shape_follows (same_chain d e) = same_chain (shape_follows d) (shape_follows e)
    shape_follows (same_longer l d e) = same_longer l (shape_follows d) (shape_follows e)
    shape_follows (sub_line {x = x} {y = y} c) = gives (Sub x y) c
    shape_follows (sub_self d) = same_self (shape_follows d)
    shape_follows (sub_chain d e) = same_chain (shape_follows d) (shape_follows e)
    shape_follows (sub_co l d e s) = same_back (same_longer l (same_back (shape_follows d)) (shape_follows e))
    shape_follows (sub_contra l d e s) = same_longer l (same_back (shape_follows d)) (shape_follows e)
    shape_follows (sub_pointer x d e) = same_sub (sub_pointer x (shape_follows d) (shape_follows e))
    shape_follows (low_line {k = k} {x = x} c) = gives (Low k x) c
    shape_follows (up_line {k = k} {x = x} c) = gives (Up x k) c
    shape_follows (low_sub d e a) = (both (shape_follows e)).1
    shape_follows (up_sub d e a) = (both (shape_follows d)).0

  -- what it derives, it derives the shape of
  pub of_shape : (l : Line) → Derivable order left l → Derivable order left (shape_of l)
  of_shape (Var x) d = d
  of_shape (Same x y) d = d
  of_shape (Sub x y) d = same_sub d
  of_shape (Low k x) d = d
  of_shape (Up x k) d = d

  -- the shape of a `<=` line is what is said of it
  pub subtype_shape : (l : Line) → IsSubtype l → IsShaped l → Derivable order left (shape_of l)
  subtype_shape (Var x) s d = d
  subtype_shape (Same x y) s d = d
  subtype_shape (Sub x y) s d = d
  subtype_shape (Low k x) (y, z, e) d = absurd (cc)
  subtype_shape (Up x k) (y, z, e) d = absurd (cc)

  pub shape_subtype : (l : Line) → IsSubtype l → Derivable order left (shape_of l) → IsShaped l
  shape_subtype (Var x) s d = d
  shape_subtype (Same x y) s d = d
  shape_subtype (Sub x y) s d = d
  shape_subtype (Low k x) (y, z, e) d = absurd (cc)
  shape_subtype (Up x k) (y, z, e) d = absurd (cc)

  -- where it derives the shape of a `<=` line, it derives the shapes of all those that it derives with that line
  pub shape_without : (l m : Line) → IsSubtype l → Derivable order left (shape_of l) → Derivable order (l ∷ left) m → IsSubtype m →
      Derivable order left (shape_of m)
  shape_without l m s d e t = subtype_shape m t (shape_follows (l ∷ left) gives e)
    where
      gives : (k : Line) → Contains (l ∷ left) k → IsShaped k
      gives k c = elim (Contains-cons_cases l left k c) [
        | inl f ↦ subst IsShaped f (shape_subtype l s d)
        | inr g ↦ derived_shape k (given order left k g)
      ]

-- what stands at a place behind others
behind : {X : Type 0} (xs ys : List X) (i : ℕ) → slice_get (xs ++ ys) (length xs + i) ≡ slice_get ys i
behind [] ys i = let e : 0 + i ≡ i = omega arith in ap (slice_get ys) e
behind (x ∷ xs) ys i =
    let e : suc (length xs) + i ≡ suc (length xs + i) = omega arith in
    ap (slice_get (x ∷ xs ++ ys)) e ∙ behind xs ys i

-- what is read of the first ones
of_first : {X : Type 0} (xs : List X) (n i : ℕ) → i < n → slice_get (take n xs) i ≡ slice_get xs i
of_first [] zero i h = refl
of_first [] (suc n) i h = refl
of_first (x ∷ xs) zero i h = absurd (omega (arith, h))
of_first (x ∷ xs) (suc n) zero h = refl
of_first (x ∷ xs) (suc n) (suc i) h = of_first xs n i (omega (arith, h))

first_of_first : {X : Type 0} (xs : List X) (n i : ℕ) → i ≤ n → take i (take n xs) ≡ take i xs
first_of_first xs n zero h = refl
first_of_first [] zero (suc i) h = refl
first_of_first [] (suc n) (suc i) h = refl
first_of_first (x ∷ xs) zero (suc i) h = absurd (omega (arith, h))
first_of_first (x ∷ xs) (suc n) (suc i) h = ap (λ ys. x ∷ ys) (first_of_first xs n i (omega (arith, h)))

read_map : (ls : List Line) (i : ℕ) (l : Line) → slice_get ls i ≡ Some l → slice_get (map shape_of ls) i ≡ Some (shape_of l)
read_map [] i l e = absurd (cc)
read_map (k ∷ ls) zero l e = let same : k ≡ l = cc in ap (λ m. Some (shape_of m)) same
read_map (k ∷ ls) (suc i) l e = read_map ls i l e

short : {X : Type 0} (xs : List X) (n : ℕ) → length (take n xs) ≤ n
short [] zero = omega arith
short [] (suc n) = omega arith
short (x ∷ xs) zero = omega arith
short (x ∷ xs) (suc n) = omega (arith, short xs n)

-- which of the first ones it is
at_place : {X : Type 0} (xs : List X) (n : ℕ) (x : X) → Contains (take n xs) x → (j : ℕ) × (j < n) × (slice_get xs j ≡ Some x)
at_place xs n x (j, h, e) = let here : j < n = omega (arith, h, short xs n) in (j, here, sym (of_first xs n j here) ∙ read j h e)
  where
    read : (j : ℕ) → j < length (take n xs) → get_or (take n xs) j x ≡ x → slice_get (take n xs) j ≡ Some x
    read j h e = slice_get-get_or (take n xs) j x h ∙ ap Some e

module _ (lines : List Line) (stays : List Bool) where
  -- lines that are kept or stay, and behind them the shapes of the first ones
  abbrev pub AreBehind : List Line → ℕ → List Line → Type 0
  AreBehind sure i shapes = shapes ≡ sure ++ map shape_of (take i lines)

  pub behind_none : (sure shapes : List Line) → shapes ≡ sure → AreBehind sure 0 shapes
  behind_none sure shapes e = e ∙ sym (append_nil sure)
    where
      append_nil : (ls : List Line) → ls ++ [] ≡ ls
      append_nil [] = refl
      append_nil (l ∷ ls) = ap (λ ms. l ∷ ms) (append_nil ls)

  pub behind_next : (sure shapes new : List Line) (i : ℕ) (l m : Line) → i < length lines → l ≡ get_or lines i l → m ≡ shape_of l →
      new ≡ shapes ++ m ∷ [] → AreBehind sure i shapes → AreBehind sure (i + 1) new
  behind_next sure shapes new i l m h at is e are =
      e ∙ ap (λ ms. ms ++ m ∷ []) are ∙ append_assoc sure (map shape_of (take i lines)) (m ∷ [])
      ∙ ap (λ ms. sure ++ ms) (ap (λ k. map shape_of (take i lines) ++ k ∷ []) is ∙ sym (map-push shape_of (take i lines) l)
      ∙ ap (map shape_of) (sym (take-next lines i l h at)))

  -- which of those behind follow from those before them
  pub joined_by : (sure shapes : List Line) (count : ℕ) (told joined : List Bool) → AreSure lines stays sure →
      AreBehind sure count shapes → count ≤ length lines → length told ≡ length shapes →
      ((order : Below) (i : ℕ) (l : Line) → slice_get shapes i ≡ Some l → get_or told i false ≡ true →
      Derivable order (take i shapes) l) → joined ≡ drop (length sure) told → AreJoined lines stays joined
  joined_by sure shapes count told joined are behind_are within long derived is order i l at subtype flag left has before =
      derives_more order (take (length sure + i) shapes) left gives (derived order (length sure + i) (shape_of l) place flag_there)
    where
      flag_there : get_or told (length sure + i) false ≡ true
      flag_there = sym (get_or-drop (length sure) told i false) ∙ ap (λ fs. get_or fs i false) (sym is) ∙ flag

      less : i < count
      less = omega (
        arith,
        flag_within (length sure + i) told flag_there,
        long,
        ap length behind_are,
        length-append sure (map shape_of (take count lines)),
        length-map_take,
      )
        where
          length-map_take : length (map shape_of (take count lines)) ≤ count
          length-map_take = omega (arith, length-map (take count lines) shape_of, short lines count)

          flag_within : (j : ℕ) (fs : List Bool) → get_or fs j false ≡ true → j < length fs
          flag_within j [] e = absurd (cc)
          flag_within zero (f ∷ fs) e = omega arith
          flag_within (suc j) (f ∷ fs) e = omega (arith, flag_within j fs e)

      place : slice_get shapes (length sure + i) ≡ Some (shape_of l)
      place =
          ap (λ ls. slice_get ls (length sure + i)) behind_are ∙ behind sure (map shape_of (take count lines)) i
          ∙ read_map (take count lines) i l (of_first lines count i less ∙ at)

      first : take (length sure + i) shapes ≡ sure ++ map shape_of (take i lines)
      first =
          ap (take (length sure + i)) behind_are ∙ take-append-add sure (map shape_of (take count lines)) i
          ∙ ap (λ ls. sure ++ ls) (take-map shape_of i (take count lines) ∙ ap (map shape_of) (first_of_first lines count i (omega (arith, less))))

      gives : (m : Line) → Contains (take (length sure + i) shapes) m → Derivable order left m
      gives m c = elim (Contains-append_cases sure (map shape_of (take i lines)) m (subst (λ ls. Contains ls m) first c)) [
        | inl d ↦ given order left m (has m (are m d))
        | inr d ↦ (let (k, e, f) = Contains-map_source shape_of (take i lines) m d in
            let (j, h, at) = at_place lines i k e in
            subst (Derivable order left) f (of_shape order left k (given order left k (before j k h at))))
      ]

  -- one more shape of a `<=` line
  pub shaped_none : (sure shaped : List Line) → AreSure lines stays sure → shaped ≡ sure → AreShaped lines stays shaped
  shaped_none sure shaped are e = λ m c. inl (are m (subst (λ ls. Contains ls m) e c))

  pub shaped_more : (shaped new : List Line) (l m : Line) → Contains lines l → IsSubtype l → m ≡ shape_of l → new ≡ shaped ++ m ∷ [] →
      AreShaped lines stays shaped → AreShaped lines stays new
  shaped_more shaped new l m there subtype is e are = λ k c. elim (Contains-push_cases shaped m k (subst (λ ls. Contains ls k) e c)) [
    | inl d ↦ are k d
    | inr f ↦ inr (l, there, subtype, sym is ∙ f)
  ]

-- a flag that is set is when another one is cleared no more
pub cleared : (flags : List Bool) (i j : ℕ) → get_or (set flags i false) j false ≡ true → get_or flags j false ≡ true
cleared [] i j e = e
cleared (f ∷ flags) zero zero e = absurd (cc)
cleared (f ∷ flags) zero (suc j) e = e
cleared (f ∷ flags) (suc i) zero e = e
cleared (f ∷ flags) (suc i) (suc j) e = cleared flags i j e

pub shaped_fewer : (lines shaped : List Line) (given stays : List Bool) → AreFewer given stays → AreShaped lines given shaped →
    AreShaped lines stays shaped
shaped_fewer lines shaped given stays fewer are m c = elim (are m c) [
  | inl s ↦ (let (j, at, flag) = s in inl (j, at, fewer j flag))
  | inr s ↦ inr s
]
