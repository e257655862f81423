-- Types, each once, by their weights.
use Rattle.std.proofs.Common.{◌≡◌, ℕ, ◌+◌, ◌*◌, ◌≤◌, ◌==◌, inl, inr, Bool, true, false, if◌then◌else◌, List, [], ◌∷◌, ◌++◌, Contains, map, length, refl, ap, sym, subst, ◌∙◌, arith}
use Rattle.std.proofs.lemmas.List.Elements.{Contains-append_cases}
use Rattle.rt_base.proofs.Lists.{Contains-none, Contains-here, Contains-there, Contains-cons_cases, Contains-middle_cases, Contains-map_source}
use Rattle.rt_cdecl.specs.declared.declarations.CType.{CType}
use Rattle.rt_cdecl.specs.declared.declarations.CType.TheVariants.{Unused, Scalar, Pointer}
use Rattle.rt_cdecl.specs.Inside.Drafts.{kinds_of}
use Rattle.rt_cdecl.specs.Inside.Endings.{AreApart}

-- the weights of types together
abbrev pub total : (CType → ℕ) → List CType → ℕ
total f [] = 0
total f (t ∷ ts) = f t + total f ts

pub total-append : (f : CType → ℕ) (ts us : List CType) → total f (ts ++ us) ≡ total f ts + total f us
total-append f [] us = let plus : total f us ≡ 0 + total f us = omega arith in plus
total-append f (t ∷ ts) us = let rest = total-append f ts us in omega (arith, rest)

-- a list is what stands before an item, the item, and what stands after
record IsSplit {X : Type 0} (xs : List X) (x : X) : Type 0 where
  before : List X
  after : List X
  are : xs ≡ before ++ x ∷ after

split_at : {X : Type 0} (xs : List X) (x : X) → Contains xs x → IsSplit xs x
split_at [] x h = absurd (Contains-none x h)
split_at (y ∷ xs) x h =
    elim (Contains-cons_cases y xs x h) [
      | inl e ↦ record { before = []; after = xs; are = λ i. e i ∷ xs }
      | inr there ↦ let rest = split_at xs x there in record { before = y ∷ rest.before; after = rest.after; are = λ i. y ∷ rest.are i }
    ]

-- items, each once, weigh at most what a list weighs that has them
pub apart_total : (f : CType → ℕ) (xs ys : List CType) → AreApart xs → ((t : CType) → Contains xs t → Contains ys t) → total f xs ≤ total f ys
apart_total f [] ys apart have = omega arith
apart_total f (x ∷ xs) ys apart have =
    let at = split_at ys x (have x (Contains-here x xs)) in
    let rest = apart_total f xs (at.before ++ at.after) apart.1 (others at) in
    let whole : total f ys ≡ total f at.before + (f x + total f at.after) = ap (total f) at.are ∙ total-append f at.before (x ∷ at.after) in
    let less : total f (at.before ++ at.after) ≡ total f at.before + total f at.after = total-append f at.before at.after in
    omega (arith, rest, whole, less)
  where
    others : (at : IsSplit ys x) (t : CType) → Contains xs t → Contains (at.before ++ at.after) t
    others at t h =
        elim (Contains-middle_cases at.before x at.after t (subst (λ l. Contains l t) at.are (have t (Contains-there x xs t h)))) [
          | inl e ↦ absurd (apart.0 (subst (Contains xs) (sym e) h))
          | inr there ↦ there
        ]

-- lists of which no item is one of the other
pub apart-append : {X : Type 0} (xs ys : List X) → AreApart xs → AreApart ys → ((x : X) → Contains xs x → Contains ys x → ⊥) → AreApart (xs ++ ys)
apart-append [] ys a b off = b
apart-append (x ∷ xs) ys a b off = (
  λ h. elim (Contains-append_cases xs ys x h) [ inl p ↦ a.0 p | inr q ↦ off x (Contains-here x xs) q ],
  apart-append xs ys a.1 b (λ y p q. off y (Contains-there x xs y p) q),
)

scalars_apart : (bits : ℕ) (names : List (List ℕ)) → AreApart names → AreApart (map (λ (n : List ℕ). Scalar n bits) names)
scalars_apart bits [] apart = tt
scalars_apart bits (name ∷ names) apart = (
  λ h. by (Contains-map_source (λ (n : List ℕ). Scalar n bits) names (Scalar name bits) h),
  scalars_apart bits names apart.1,
)
  where
    by : ((n : List ℕ) × Contains names n × (Scalar n bits ≡ Scalar name bits)) → ⊥
    by (n, there, is) = let same : n ≡ name = cc in apart.0 (subst (Contains names) same there)

scalar_in : (bits : ℕ) (names : List (List ℕ)) (t : CType) → Contains (map (λ (n : List ℕ). Scalar n bits) names) t → (n : List ℕ) × (Scalar n bits ≡ t)
scalar_in bits names t h = let s = Contains-map_source (λ (n : List ℕ). Scalar n bits) names t h in (s.0, s.2)

other_widths : (a b : ℕ) (m n : List ℕ) (t : CType) → Scalar m a ≡ t → Scalar n b ≡ t → a ≡ b
other_widths a b m n t p q = let same : Scalar m a ≡ Scalar n b = p ∙ sym q in cc

no_unused : (n : List ℕ) (bits : ℕ) (t : CType) → Scalar n bits ≡ t → Unused ≡ t → ⊥
no_unused n bits t p q = let same : Scalar n bits ≡ Unused = p ∙ sym q in cc

wides_apart : (shorts ints : List (List ℕ)) → AreApart shorts → AreApart ints → AreApart (map (λ (n : List ℕ). Scalar n 16) shorts ++ map (λ (n : List ℕ). Scalar n 32) ints)
wides_apart shorts ints b c =
    apart-append _ _ (scalars_apart 16 shorts b) (scalars_apart 32 ints c)
    (λ t p q. let x = scalar_in 16 shorts t p in let y = scalar_in 32 ints t q in let same = other_widths 16 32 x.0 y.0 t x.1 y.1 in omega (arith, same))

scalars_all : (chars shorts ints : List (List ℕ)) → AreApart chars → AreApart shorts → AreApart ints →
    AreApart (map (λ (n : List ℕ). Scalar n 8) chars ++ (map (λ (n : List ℕ). Scalar n 16) shorts ++ map (λ (n : List ℕ). Scalar n 32) ints))
scalars_all chars shorts ints a b c =
    apart-append _ _ (scalars_apart 8 chars a) (wides_apart shorts ints b c)
    (λ t p q. let x = scalar_in 8 chars t p in elim (Contains-append_cases (map (λ (n : List ℕ). Scalar n 16) shorts) (map (λ (n : List ℕ). Scalar n 32) ints) t q) [
      | inl u ↦ let y = scalar_in 16 shorts t u in let same = other_widths 8 16 x.0 y.0 t x.1 y.1 in omega (arith, same)
      | inr v ↦ let y = scalar_in 32 ints t v in let same = other_widths 8 32 x.0 y.0 t x.1 y.1 in omega (arith, same)
    ])

some_scalar : (chars shorts ints : List (List ℕ)) (t : CType) → Contains (map (λ (n : List ℕ). Scalar n 8) chars ++ (map (λ (n : List ℕ). Scalar n 16) shorts ++ map (λ (n : List ℕ). Scalar n 32) ints)) t →
    (n : List ℕ) × (bits : ℕ) × (Scalar n bits ≡ t)
some_scalar chars shorts ints t h =
    elim (Contains-append_cases (map (λ (n : List ℕ). Scalar n 8) chars) _ t h) [
      | inl p ↦ let x = scalar_in 8 chars t p in (x.0, 8, x.1)
      | inr q ↦ elim (Contains-append_cases (map (λ (n : List ℕ). Scalar n 16) shorts) (map (λ (n : List ℕ). Scalar n 32) ints) t q) [
        | inl u ↦ let x = scalar_in 16 shorts t u in (x.0, 16, x.1)
        | inr v ↦ let x = scalar_in 32 ints t v in (x.0, 32, x.1)
      ]
    ]

pub kinds_apart : (unused : Bool) (chars shorts ints : List (List ℕ)) → AreApart chars → AreApart shorts → AreApart ints → AreApart (kinds_of unused chars shorts ints)
kinds_apart false chars shorts ints a b c = scalars_all chars shorts ints a b c
kinds_apart true chars shorts ints a b c = (
  λ h. let x = some_scalar chars shorts ints Unused h in no_unused x.0 x.1 Unused x.2 refl,
  scalars_all chars shorts ints a b c,
)

-- the weights of narrow scalars: how many of 8 bits, and how many bytes; and how many types of 32 bits that have lines
abbrev pub char_weight : CType → ℕ
char_weight Unused = 0
char_weight (Scalar name bits) = if bits == 8 then 1 else 0
char_weight (Pointer n) = 0

abbrev pub narrow_weight : CType → ℕ
narrow_weight Unused = 0
narrow_weight (Scalar name bits) = if bits == 8 then 1 else if bits == 16 then 2 else 0
narrow_weight (Pointer n) = 0

abbrev pub wide_weight : CType → ℕ
wide_weight Unused = 1
wide_weight (Scalar name bits) = if bits == 32 then 1 else 0
wide_weight (Pointer n) = 0

-- as often as a list is long
abbrev times : {X : Type 0} → ℕ → List X → ℕ
times k [] = 0
times k (x ∷ xs) = k + times k xs

times-0 : {X : Type 0} (xs : List X) → times 0 xs ≡ 0
times-0 [] = refl
times-0 (x ∷ xs) = let rest = times-0 xs in omega (arith, rest)

times-1 : {X : Type 0} (xs : List X) → times 1 xs ≡ length xs
times-1 [] = refl
times-1 (x ∷ xs) = let rest = times-1 xs in omega (arith, rest)

times-2 : {X : Type 0} (xs : List X) → times 2 xs ≡ 2 * length xs
times-2 [] = refl
times-2 (x ∷ xs) = let rest = times-2 xs in omega (arith, rest)

total_scalars : (f : CType → ℕ) (bits k : ℕ) (names : List (List ℕ)) → ((n : List ℕ) → f (Scalar n bits) ≡ k) → total f (map (λ (n : List ℕ). Scalar n bits) names) ≡ times k names
total_scalars f bits k [] each = refl
total_scalars f bits k (name ∷ names) each = λ i. each name i + total_scalars f bits k names each i

total_kinds : (f : CType → ℕ) (u a b c : ℕ) (unused : Bool) (chars shorts ints : List (List ℕ)) → f Unused ≡ u → ((n : List ℕ) → f (Scalar n 8) ≡ a) → ((n : List ℕ) → f (Scalar n 16) ≡ b) → ((n : List ℕ) → f (Scalar n 32) ≡ c) →
    total f (kinds_of unused chars shorts ints) ≡ (if unused then u else 0) + (times a chars + (times b shorts + times c ints))
total_kinds f u a b c unused chars shorts ints iu ia ib ic =
    let one : total f (if unused then Unused ∷ [] else []) ≡ (if unused then u else 0) = first unused in
    let two = total_scalars f 8 a chars ia in
    let three = total_scalars f 16 b shorts ib in
    let four = total_scalars f 32 c ints ic in
    let p = total-append f (if unused then Unused ∷ [] else []) (map (λ (n : List ℕ). Scalar n 8) chars ++ (map (λ (n : List ℕ). Scalar n 16) shorts ++ map (λ (n : List ℕ). Scalar n 32) ints)) in
    let q = total-append f (map (λ (n : List ℕ). Scalar n 8) chars) (map (λ (n : List ℕ). Scalar n 16) shorts ++ map (λ (n : List ℕ). Scalar n 32) ints) in
    let r = total-append f (map (λ (n : List ℕ). Scalar n 16) shorts) (map (λ (n : List ℕ). Scalar n 32) ints) in
    p ∙ (λ i. one i + (q ∙ (λ j. two j + (r ∙ (λ k. three k + four k)) j)) i)
  where
    first : (v : Bool) → total f (if v then Unused ∷ [] else []) ≡ (if v then u else 0)
    first true = let zero_plus : f Unused + 0 ≡ f Unused = omega arith in zero_plus ∙ iu
    first false = refl

abbrev none_of : Bool → ℕ
none_of v = if v then 0 else 0

none-0 : (v : Bool) → none_of v ≡ 0
none-0 true = refl
none-0 false = refl

pub total_chars : (unused : Bool) (chars shorts ints : List (List ℕ)) → total char_weight (kinds_of unused chars shorts ints) ≡ length chars
total_chars unused chars shorts ints =
    let all = total_kinds char_weight 0 1 0 0 unused chars shorts ints refl (λ n. refl) (λ n. refl) (λ n. refl) in
    let none = none-0 unused in
    let a = times-1 chars in
    let b = times-0 shorts in
    let c = times-0 ints in
    omega (arith, all, none, a, b, c)

pub total_narrow : (unused : Bool) (chars shorts ints : List (List ℕ)) → total narrow_weight (kinds_of unused chars shorts ints) ≡ length chars + 2 * length shorts
total_narrow unused chars shorts ints =
    let all = total_kinds narrow_weight 0 1 2 0 unused chars shorts ints refl (λ n. refl) (λ n. refl) (λ n. refl) in
    let none = none-0 unused in
    let a = times-1 chars in
    let b = times-2 shorts in
    let c = times-0 ints in
    omega (arith, all, none, a, b, c)

pub total_wide : (unused : Bool) (chars shorts ints : List (List ℕ)) → total wide_weight (kinds_of unused chars shorts ints) ≡ (if unused then 1 else 0) + length ints
total_wide unused chars shorts ints =
    let all = total_kinds wide_weight 1 0 0 1 unused chars shorts ints refl (λ n. refl) (λ n. refl) (λ n. refl) in
    let a = times-0 chars in
    let b = times-0 shorts in
    let c = times-1 ints in
    omega (arith, all, a, b, c)

abbrev pub unit_weight : CType → ℕ
unit_weight t = 1

pub units : (ts : List CType) → total unit_weight ts ≡ length ts
units [] = refl
units (t ∷ ts) = let rest = units ts in omega (arith, rest)

pub total_units : (unused : Bool) (chars shorts ints : List (List ℕ)) → total unit_weight (kinds_of unused chars shorts ints) ≡ (if unused then 1 else 0) + (length chars + (length shorts + length ints))
total_units unused chars shorts ints =
    let all = total_kinds unit_weight 1 1 1 1 unused chars shorts ints refl (λ n. refl) (λ n. refl) (λ n. refl) in
    let a = times-1 chars in
    let b = times-1 shorts in
    let c = times-1 ints in
    omega (arith, all, a, b, c)
