-- A number for each name: no two have one.
use Rattle.std.proofs.Common.{◌≡◌, ℕ, zero, suc, ◌+◌, ◌<◌, ◌⊎◌, inl, inr, ℤ, pos, negsuc, List, [], ◌∷◌, refl, sym, ap, ◌∙◌, arith}
use Rattle.std.proofs.lemmas.Bool.{cases_order}
use Rattle.rt_lines.specs.declared.label.Label.{Label}
use Rattle.rt_lines.specs.declared.label.Label.TheVariants.{In, Out, Load, Store, Field}
use Rattle.rt_lines.specs.declared.label.Loc.TheVariants.{Arg, Stack}
use Rattle.rt_rows.specs.declared.name.Name.{Name}
use Rattle.rt_rows.specs.declared.name.Name.TheVariants.{Definition, Merge, Object, Port, Inner, Result}

-- the sum of the numbers up to one
abbrev total : ℕ → ℕ
total zero = 0
total (suc n) = total n + suc n

-- a number for two
abbrev pair : ℕ → ℕ → ℕ
pair a b = total (a + b) + a

total-above : (s t : ℕ) → s < t → total s + s < total t
total-above s zero h = absurd (omega arith)
total-above s (suc t) h = by (cases_order s t) (total-above s t)
  where
    by : (s ≡ t) ⊎ ((s < t) ⊎ (t < s)) → (s < t → total s + s < total t) → total s + s < total t + suc t
    by (inl e) deeper = let same : total s ≡ total t = ap total e in omega arith
    by (inr (inl less)) deeper = let below = deeper less in omega arith
    by (inr (inr more)) deeper = absurd (omega arith)

pair-sum : (a b c d : ℕ) → pair a b ≡ pair c d → a + b ≡ c + d
pair-sum a b c d e = by (cases_order (a + b) (c + d))
  where
    by : (a + b ≡ c + d) ⊎ ((a + b < c + d) ⊎ (c + d < a + b)) → a + b ≡ c + d
    by (inl same) = same
    by (inr (inl less)) = let above = total-above (a + b) (c + d) less in absurd (omega arith)
    by (inr (inr more)) = let above = total-above (c + d) (a + b) more in absurd (omega arith)

pair-left : (a b c d : ℕ) → pair a b ≡ pair c d → a ≡ c
pair-left a b c d e = let same : total (a + b) ≡ total (c + d) = ap total (pair-sum a b c d e) in omega arith

pair-right : (a b c d : ℕ) → pair a b ≡ pair c d → b ≡ d
pair-right a b c d e = let sums = pair-sum a b c d e in let lefts = pair-left a b c d e in omega arith

-- a number for a list
abbrev list_number : List ℕ → ℕ
list_number [] = 0
list_number (n ∷ ns) = suc (pair n (list_number ns))

list_number-one : (ns ms : List ℕ) → list_number ns ≡ list_number ms → ns ≡ ms
list_number-one [] [] e = refl
list_number-one [] (m ∷ ms) e = absurd (omega arith)
list_number-one (n ∷ ns) [] e = absurd (omega arith)
list_number-one (n ∷ ns) (m ∷ ms) e =
    let same : pair n (list_number ns) ≡ pair m (list_number ms) = omega arith in
    let first : n ≡ m = pair-left n (list_number ns) m (list_number ms) same in
    let rest : ns ≡ ms = list_number-one ns ms (pair-right n (list_number ns) m (list_number ms) same) in
    rw (first, rest) refl

-- The parts of a name, and the name of parts.

abbrev of_integer : ℤ → List ℕ
of_integer (pos n) = 0 ∷ n ∷ []
of_integer (negsuc n) = 1 ∷ n ∷ []

abbrev to_integer : List ℕ → ℤ
to_integer (zero ∷ n ∷ []) = pos n
to_integer (suc zero ∷ n ∷ []) = negsuc n
to_integer other = pos 0

integer-back : (k : ℤ) → to_integer (of_integer k) ≡ k
integer-back (pos n) = refl
integer-back (negsuc n) = refl

abbrev of_label : Label → List ℕ
of_label (In (Arg n)) = 0 ∷ n ∷ []
of_label (In (Stack n)) = 1 ∷ n ∷ []
of_label (Out n) = 2 ∷ n ∷ []
of_label Load = 3 ∷ []
of_label Store = 4 ∷ []
of_label (Field b k) = 5 ∷ b ∷ of_integer k

abbrev to_label : List ℕ → Label
to_label (zero ∷ n ∷ []) = In (Arg n)
to_label (suc zero ∷ n ∷ []) = In (Stack n)
to_label (suc (suc zero) ∷ n ∷ []) = Out n
to_label (suc (suc (suc zero)) ∷ []) = Load
to_label (suc (suc (suc (suc zero))) ∷ []) = Store
to_label (suc (suc (suc (suc (suc zero)))) ∷ b ∷ parts) = Field b (to_integer parts)
to_label other = Load

label-back : (l : Label) → to_label (of_label l) ≡ l
label-back (In (Arg n)) = refl
label-back (In (Stack n)) = refl
label-back (Out n) = refl
label-back Load = refl
label-back Store = refl
label-back (Field b k) = ap (Field b) (integer-back k)

abbrev of_name : Name → List ℕ
of_name (Definition p s r) = 0 ∷ p ∷ s ∷ r ∷ []
of_name (Merge p s r) = 1 ∷ p ∷ s ∷ r ∷ []
of_name (Object p k) = 2 ∷ p ∷ of_integer k
of_name (Port p s c l) = 3 ∷ p ∷ s ∷ c ∷ of_label l
of_name (Inner p s c n) = 4 ∷ p ∷ s ∷ c ∷ n ∷ []
of_name (Result p s c) = 5 ∷ p ∷ s ∷ c ∷ []

abbrev to_name : List ℕ → Name
to_name (zero ∷ p ∷ s ∷ r ∷ []) = Definition p s r
to_name (suc zero ∷ p ∷ s ∷ r ∷ []) = Merge p s r
to_name (suc (suc zero) ∷ p ∷ parts) = Object p (to_integer parts)
to_name (suc (suc (suc zero)) ∷ p ∷ s ∷ c ∷ parts) = Port p s c (to_label parts)
to_name (suc (suc (suc (suc zero))) ∷ p ∷ s ∷ c ∷ n ∷ []) = Inner p s c n
to_name (suc (suc (suc (suc (suc zero)))) ∷ p ∷ s ∷ c ∷ []) = Result p s c
to_name other = Result 0 0 0

name-back : (x : Name) → to_name (of_name x) ≡ x
name-back (Definition p s r) = refl
name-back (Merge p s r) = refl
name-back (Object p k) = ap (Object p) (integer-back k)
name-back (Port p s c l) = ap (Port p s c) (label-back l)
name-back (Inner p s c n) = refl
name-back (Result p s c) = refl

abbrev pub number : Name → ℕ
number x = list_number (of_name x)

pub number-one : (x y : Name) → number x ≡ number y → x ≡ y
number-one x y e = sym (name-back x) ∙ (ap to_name (list_number-one (of_name x) (of_name y) e) ∙ name-back y)
