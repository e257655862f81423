-- Fewer lines, each time that twins become one.
use Rattle.std.proofs.Common.{◌≡◌, ◌≢◌, ℕ, suc, ◌+◌, ◌<◌, ◌≤◌, ◌⊎◌, inl, inr, List, [], ◌∷◌, ◌++◌, map, fold, length, Contains, Bool, true}
use Rattle.std.proofs.Common.{false, cond, refl, sym, ap, subst, ◌∙◌, arith, length-append}
use Rattle.std.specs.List.{list_any}
use Rattle.indexmap.specs.IndexSet.{insert_key}
use Rattle.rt_base.proofs.Lists.{Contains-none, Contains-here, Contains-cons_cases, list_any-from}
use Rattle.rt_lines.specs.declared.label.Variance.{Variance}
use Rattle.rt_lines.specs.declared.label.Variance.TheVariants.{Co, Contra}
use Rattle.rt_lines.specs.declared.variable.Base.TheVariants.{Exist}
use Rattle.rt_lines.specs.declared.variable.Dtv.{Dtv}
use Rattle.rt_lines.specs.declared.line.Line.{Line}
use Rattle.rt_lines.specs.declared.line.Line.TheVariants.{Var, Sub}
use Rattle.rt_lines.specs.Equality.{line_eq}
use Rattle.rt_lines.specs.Words.{variance_of_word}
use Rattle.rt_lines.proofs.Equal.{line_equal}
use Rattle.rt_lines.proofs.Distinct.{inserted-has, inserted-stays}
use Rattle.rt_rules.specs.Alike.{map_line}
use Rattle.rt_rules.specs.Put.{exist, put, put_lines, use_of}
use Rattle.rt_refine.specs.Refinements.{move, refined}
use Rattle.rt_twins.specs.Twinnings.{AreOne, LeadsOut, IsTwinning}
use Rattle.rt_twins.specs.Twinnings.LeadsOut.{ends, goes_on}
use Rattle.rt_twins.proofs.Matching.{match_bare}
use Rattle.rt_polar.specs.Puts.{Exchanges, Puts}
use Rattle.rt_polar.specs.Puts.Exchanges.{goes, exists_still}
use Rattle.rt_polar.specs.Puts.Puts.{none_left, puts}
use Rattle.rt_polar.specs.Tidied.{tidied, without_self}
use Rattle.rt_simplify.specs.Inside.Twins.{BecomeOne}
use Rattle.rt_lines.proofs.Same.{line_self}

abbrev inserted : List Line → List Line → List Line
inserted ks xs = fold (insert_key line_eq) ks xs

insert-length : (ks : List Line) (x : Line) → length (insert_key line_eq ks x) ≤ length ks + 1
insert-length ks x = by (list_any (line_eq x) ks)
  where
    by : (t : Bool) → length (cond t ks (ks ++ x ∷ [])) ≤ length ks + 1
    by true = omega arith
    by false = omega (arith, length-append ks (x ∷ []))

inserted-length : (ks xs : List Line) → length (inserted ks xs) ≤ length ks + length xs
inserted-length ks [] = omega arith
inserted-length ks (x ∷ xs) = omega (arith, inserted-length (insert_key line_eq ks x) xs, insert-length ks x)

map-length : {X Y : Type 0} (f : X → Y) (xs : List X) → length (map f xs) ≡ length xs
map-length f [] = refl
map-length f (x ∷ xs) = omega (arith, map-length f xs)

tidied-length : (lines : List Line) → length (tidied lines) ≤ length lines
tidied-length lines = let h = inserted-length [] (map without_self lines) in omega (arith, h, map-length without_self lines)

exchange-length : (n : ℕ) (lines after : List Line) → Exchanges n lines after → length after ≤ length lines
exchange-length n lines _ (goes sign place left z before after is cut names) =
    let e : length lines ≡ length (before ++ use_of sign n z ∷ after) = ap length cut in
    omega (
      arith,
      e,
      length-append before (use_of sign n z ∷ after),
      length-append before after,
      tidied-length (put_lines n z (before ++ after)),
      map-length (map_line (put n z)) (before ++ after),
    )
exchange-length n lines _ (exists_still sign place left z before after is cut unnamed) =
    let e : length lines ≡ length (before ++ use_of sign n z ∷ after) = ap length cut in
    omega (
      arith,
      e,
      length-append before (use_of sign n z ∷ after),
      length-append before (Var z ∷ after),
      tidied-length (before ++ Var z ∷ after),
    )

puts-length : (left start : List Line) → Puts left start → length left ≤ length start
puts-length left start (none_left none) = omega arith
puts-length left start (puts n now between least exchanged rest) =
    omega (arith, exchange-length n now between exchanged, puts-length left between rest)

-- Two lines that become one.
module _ (f : Line → Line) where
  abbrev with_line : List Line → Line → List Line
  with_line ks x = insert_key line_eq ks (f x)

  -- fewer lines than there were
  abbrev IsFewer : List Line → List Line → Type 0
  IsFewer ks xs = length (inserted ks (map f xs)) < length ks + length xs

  -- so too with a line before them
  abbrev IsFewerAfter : List Line → Line → List Line → Type 0
  IsFewerAfter ks x xs = length (inserted (with_line ks x) (map f xs)) < length ks + suc (length xs)

  insert-again : (ks : List Line) (x : Line) → Contains ks x → insert_key line_eq ks x ≡ ks
  insert-again ks x c = ap (λ (t : Bool). cond t ks (ks ++ x ∷ [])) (list_any-from (line_eq x) ks x c (line_self x))

  -- of a line that was there before
  again : (ks xs : List Line) (b : Line) → Contains ks (f b) → Contains xs b → IsFewer ks xs
  again ks [] b h c = absurd (Contains-none b c)
  again ks (x ∷ xs) b h c = by (Contains-cons_cases x xs b c) (again (with_line ks x) xs b)
    where
      by : (x ≡ b) ⊎ Contains xs b → (Contains (with_line ks x) (f b) → Contains xs b → IsFewer (with_line ks x) xs) → IsFewerAfter ks x xs
      by (inl e) rest =
          let same : with_line ks x ≡ ks = insert-again ks (f x) (subst (λ (y : Line). Contains ks (f y)) (sym e) h) in
          let s : length (inserted (with_line ks x) (map f xs)) ≡ length (inserted ks (map f xs)) =
          ap (λ (ls : List Line). length (inserted ls (map f xs))) same in
          omega (arith, s, inserted-length ks (map f xs), map-length f xs)
      by (inr d) rest =
          let lt : IsFewer (with_line ks x) xs = rest (inserted-stays line_eq (f x ∷ []) ks (f b) h) d in
          omega (arith, lt, insert-length ks (f x))

  twice : (ks xs : List Line) (a b : Line) → Contains xs a → Contains xs b → a ≢ b → f a ≡ f b → IsFewer ks xs
  twice ks [] a b c d apart e = absurd (Contains-none a c)
  twice ks (x ∷ xs) a b c d apart e = by (Contains-cons_cases x xs a c) (Contains-cons_cases x xs b d) (twice (with_line ks x) xs a b)
    where
      has : Contains (with_line ks x) (f x)
      has = inserted-has line_eq line_equal (f x ∷ []) ks (f x) (Contains-here (f x) [])

      after : (y : Line) → f x ≡ f y → Contains xs y → IsFewerAfter ks x xs
      after y g h =
          let lt : IsFewer (with_line ks x) xs = again (with_line ks x) xs y (subst (Contains (with_line ks x)) g has) h in
          omega (arith, lt, insert-length ks (f x))

      by : (x ≡ a) ⊎ Contains xs a → (x ≡ b) ⊎ Contains xs b →
          (Contains xs a → Contains xs b → a ≢ b → f a ≡ f b → IsFewer (with_line ks x) xs) → IsFewerAfter ks x xs
      by (inl g) (inl h) rest = absurd (apart (sym g ∙ h))
      by (inl g) (inr h) rest = after b (ap f g ∙ e) h
      by (inr g) (inl h) rest = after a (ap f h ∙ sym e) g
      by (inr g) (inr h) rest =
          let lt : IsFewer (with_line ks x) xs = rest g h apart e in
          omega (arith, lt, insert-length ks (f x))

map-both : (f g : Line → Line) (xs : List Line) → map g (map f xs) ≡ map (λ l. g (f l)) xs
map-both f g [] = refl
map-both f g (x ∷ xs) = ap (λ (ls : List Line). g (f x) ∷ ls) (map-both f g xs)

-- what leads out has a use without a letter
bare_use : (sign : Variance) (lines : List Line) (n : ℕ) → LeadsOut sign lines n → (z : Dtv) × Contains lines (use_of sign n z)
bare_use sign lines n (ends z c e) = (z, c)
bare_use sign lines n (goes_on z m c e rest) = (z, c)

-- such uses of two of one class become one line
module _ (sign : Variance) (lines : List Line) (class : ℕ → ℕ) (is : IsTwinning sign lines class) (w : ℕ) (some : class w ≢ w) where
  own_use : (z : Dtv) × Contains lines (use_of sign w z)
  own_use = by (is.leads w (class w) (sym (is.own w)))
    where
      by : (w ≡ class w) ⊎ LeadsOut sign lines w → (z : Dtv) × Contains lines (use_of sign w z)
      by (inl e) = absurd (some (sym e))
      by (inr l) = bare_use sign lines w l

  abbrev LeastUse : Type 0
  LeastUse = (y : Dtv) × Contains lines (use_of sign (class w) y) × AreOne class (variance_of_word own_use.0.word ≡ Contra) y own_use.0

  least_use : LeastUse
  least_use = match_bare sign lines class is w (class w) own_use.0 (sym (is.own w)) own_use.1

  same_line : (s : Variance) (y z : Dtv) → move class y ≡ move class z →
      map_line (move class) (use_of s (class w) y) ≡ map_line (move class) (use_of s w z)
  same_line Co y z e = λ i. Sub (e i) (exist (is.own w i))
  same_line Contra y z e = λ i. Sub (exist (is.own w i)) (e i)

  apart_lines : (s : Variance) (y z : Dtv) → use_of s (class w) y ≢ use_of s w z
  apart_lines Co y z e = let f : exist (class w) ≡ exist w = cc in let g : Exist (class w) ≡ Exist w = ap (λ x. x.base) f in some (cc)
  apart_lines Contra y z e = let f : exist (class w) ≡ exist w = cc in let g : Exist (class w) ≡ Exist w = ap (λ x. x.base) f in some (cc)

  pub merged-length : length (tidied (refined class lines)) < length lines
  merged-length =
      let z : Dtv = own_use.0 in
      let y : Dtv = least_use.0 in
      let f : Line → Line = λ l. without_self (map_line (move class) l) in
      let same : f (use_of sign (class w) y) ≡ f (use_of sign w z) = ap without_self (same_line sign y z least_use.2.but_for) in
      let lt : IsFewer f [] lines =
      twice f [] lines (use_of sign (class w) y) (use_of sign w z) least_use.1 own_use.1 (apart_lines sign y z) same in
      let e : length (tidied (refined class lines)) ≡ length (inserted [] (map f lines)) =
      ap (λ (ls : List Line). length (inserted [] ls)) (map-both (map_line (move class)) without_self lines) in
      omega (arith, lt, e)

pub turn_shrinks : (lines merged left : List Line) → BecomeOne lines merged → Puts left (tidied merged) → length left < length lines
turn_shrinks lines merged left b p =
    let e : length (tidied merged) ≡ length (tidied (refined b.class lines)) = ap (λ (ls : List Line). length (tidied ls)) b.is in
    omega (arith, e, puts-length left (tidied merged) p, merged-length b.sign lines b.class b.coarsest.twins b.w b.some)
