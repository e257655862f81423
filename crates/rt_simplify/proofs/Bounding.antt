-- How often lines can be split at most. Splitting takes letters out of the `<=` lines and bounds, and preparing adds letters only where it
-- takes such a line out.
use Rattle.std.proofs.Common.{◌≡◌, ℕ, zero, suc, ◌+◌, ◌<◌, ◌≤◌, ◌⊎◌, inl, inr, List, [], ◌∷◌, ◌++◌, length, length-append, Bool}
use Rattle.std.proofs.Common.{true, false, cond, ◌||◌, refl, ap, arith}
use Rattle.std.specs.Prelude.{nat_eq}
use Rattle.std.proofs.lemmas.Bool.{cases_eq}
use Rattle.rt_lines.specs.declared.label.Variance.{Variance}
use Rattle.rt_lines.specs.declared.label.Variance.TheVariants.{Co, Contra}
use Rattle.rt_lines.specs.declared.variable.Base.{Base}
use Rattle.rt_lines.specs.declared.variable.Base.TheVariants.{Proc, Global, Exist, Outer}
use Rattle.rt_lines.specs.declared.variable.Dtv.{Dtv}
use Rattle.rt_lines.specs.declared.line.Line.{Line}
use Rattle.rt_lines.specs.declared.line.Line.TheVariants.{Var, Same, Sub, Low, Up}
use Rattle.rt_lines.specs.FlowCounts.{flow_count, line_flow_count}
use Rattle.rt_rules.specs.Rules.{extended}
use Rattle.rt_rules.specs.Alike.{map_line}
use Rattle.rt_rules.specs.Put.{put, put_at, put_lines, use_of}
use Rattle.rt_refine.specs.Refinements.{refined}
use Rattle.rt_trim.specs.Idle.{is_idle, trimmed, trimmed_line}
use Rattle.rt_record.specs.Slots.{letters, line_letters}
use Rattle.rt_polar.specs.Puts.{Exchanges, Puts}
use Rattle.rt_polar.specs.Puts.Exchanges.{goes, exists_still}
use Rattle.rt_polar.specs.Puts.Puts.{none_left, puts}
use Rattle.rt_polar.specs.Tidied.{tidied}
use Rattle.rt_reduction.specs.Simplifies.{Simplifies, simple, twins_go}
use Rattle.rt_reduction.specs.Rounds.{Refines, Prepares, prepared, trims}
use Rattle.rt_simplify.proofs.Counting.{count-append, letters-append, count-mapped, letters-mapped, count-line}
use Rattle.rt_simplify.proofs.Counting.{tidied-count, tidied-letters, refined-count, refined-letters}

-- the letters that come to so many `<=` lines and bounds at most, when a variable with k letters takes an existential's place
abbrev spread : ℕ → ℕ → ℕ
spread zero k = 0
spread (suc n) k = k + k + spread n k

-- how often at most lines can be split of which so many are `<=` lines and bounds, with k letters
abbrev splits_with : ℕ → ℕ → ℕ
splits_with zero k = k
splits_with (suc n) k = k + suc (splits_with n (k + spread n k))

abbrev pub splits_of : List Line → ℕ
splits_of lines = splits_with (flow_count lines) (letters lines)

spread-rises : (n j k : ℕ) → j ≤ k → spread n j ≤ spread n k
spread-rises zero j k le = omega arith
spread-rises (suc n) j k le = omega (arith, le, spread-rises n j k le)

-- with more letters
splits-rise : (n j k : ℕ) → j ≤ k → splits_with n j ≤ splits_with n k
splits-rise zero j k le = le
splits-rise (suc n) j k le =
    let wider : j + spread n j ≤ k + spread n k = omega (arith, le, spread-rises n j k le) in
    omega (arith, le, splits-rise n (j + spread n j) (k + spread n k) wider)

splits-fall : (n j k : ℕ) → j < k → splits_with n j < splits_with n k
splits-fall zero j k lt = lt
splits-fall (suc n) j k lt =
    let le : j ≤ k = omega (arith, lt) in
    let wider : j + spread n j ≤ k + spread n k = omega (arith, le, spread-rises n j k le) in
    omega (arith, lt, splits-rise n (j + spread n j) (k + spread n k) wider)

-- with more lines
splits-widen : (m n k : ℕ) → m ≤ n → splits_with m k ≤ splits_with n k
splits-widen m zero k le =
    let e : m ≡ 0 = omega (arith, le) in
    let same : splits_with m k ≡ splits_with 0 k = ap (λ i. splits_with i k) e in
    omega (arith, same)
splits-widen m (suc n) k le = by (cases_eq m (suc n)) (splits-widen m n k)
  where
    by : (m ≡ suc n) ⊎ (m ≡ suc n → ⊥) → (m ≤ n → splits_with m k ≤ splits_with n k) → splits_with m k ≤ splits_with (suc n) k
    by (inl e) rest = let same : splits_with m k ≡ splits_with (suc n) k = ap (λ i. splits_with i k) e in omega (arith, same)
    by (inr apart) rest =
        let less : m ≤ n = omega (arith, le, apart) in
        let wider : k ≤ k + spread n k = omega arith in
        omega (arith, rest less, splits-rise n k (k + spread n k) wider)

-- no more of either
lowers : (left lines : List Line) → flow_count left ≤ flow_count lines → letters left ≤ letters lines → splits_of left ≤ splits_of lines
lowers left lines fewer shorter =
    omega (
      arith,
      splits-widen (flow_count left) (flow_count lines) (letters left) fewer,
      splits-rise (flow_count lines) (letters left) (letters lines) shorter,
    )

-- one line fewer
drops : (left lines : List Line) (n : ℕ) → flow_count lines ≡ suc n → flow_count left ≤ n →
    letters left ≤ letters lines + spread n (letters lines) → splits_of left ≤ splits_of lines
drops left lines n count fewer within =
    let k = letters lines in
    let same : splits_with (flow_count lines) k ≡ splits_with (suc n) k = ap (λ i. splits_with i k) count in
    omega (
      arith,
      same,
      splits-widen (flow_count left) n (letters left) fewer,
      splits-rise n (letters left) (k + spread n k) within,
    )

-- with as many lines and fewer letters
pub falls : (left lines : List Line) → flow_count left ≡ flow_count lines → letters left < letters lines → splits_of left < splits_of lines
falls left lines count shorter =
    let same : splits_of left ≡ splits_with (flow_count lines) (letters left) = ap (λ i. splits_with i (letters left)) count in
    omega (arith, same, splits-fall (flow_count lines) (letters left) (letters lines) shorter)

pub tidied-lowers : (lines : List Line) → splits_of (tidied lines) ≤ splits_of lines
tidied-lowers lines = lowers (tidied lines) lines (tidied-count lines) (tidied-letters lines)

refined-lowers : (class : ℕ → ℕ) (lines : List Line) → splits_of (tidied (refined class lines)) ≤ splits_of lines
refined-lowers class lines = lowers (tidied (refined class lines)) lines (refined-count class lines) (refined-letters class lines)

-- A variable in the place of an existential.
module _ (n : ℕ) (z : Dtv) where
  put-word : (x : Dtv) → length (put n z x).word ≤ length x.word + length z.word
  put-word x = by x.base
    where
      here : (t : Bool) (b : Base) →
          length (cond t (extended z x.word) (record { base = b; word = x.word })).word ≤ length x.word + length z.word
      here true b = omega (arith, length-append z.word x.word)
      here false b = omega arith

      by : (b : Base) → length (put_at n z b x.word).word ≤ length x.word + length z.word
      by (Proc m) = omega arith
      by (Global m) = omega arith
      by (Exist m) = here (nat_eq m n) (Exist m)
      by (Outer m) = omega arith

  -- the spread over one line more, which is no `<=` line or bound, or one
  spread-same : (m k : ℕ) → spread (0 + m) k ≡ spread m k
  spread-same m k = let e : 0 + m ≡ m = omega arith in ap (λ i. spread i k) e

  spread-next : (m k : ℕ) → spread (1 + m) k ≡ k + k + spread m k
  spread-next m k = let e : 1 + m ≡ suc m = omega arith in ap (λ i. spread i k) e

  put-letters : (lines : List Line) → letters (put_lines n z lines) ≤ letters lines + spread (flow_count lines) (length z.word)
  put-letters [] = omega arith
  put-letters (Var x ∷ ls) = omega (arith, put-letters ls, spread-same (flow_count ls) (length z.word))
  put-letters (Same x y ∷ ls) = omega (arith, put-letters ls, spread-same (flow_count ls) (length z.word))
  put-letters (Sub x y ∷ ls) = omega (arith, put-letters ls, spread-next (flow_count ls) (length z.word), put-word x, put-word y)
  put-letters (Low k x ∷ ls) = omega (arith, put-letters ls, spread-next (flow_count ls) (length z.word), put-word x)
  put-letters (Up x k ∷ ls) = omega (arith, put-letters ls, spread-next (flow_count ls) (length z.word), put-word x)

  use-count : (sign : Variance) → line_flow_count (use_of sign n z) ≡ 1
  use-count Co = refl
  use-count Contra = refl

  use-letters : (sign : Variance) → line_letters (use_of sign n z) ≡ length z.word
  use-letters Co = omega arith
  use-letters Contra = omega arith

  -- the use that goes is one `<=` line, with the letters of the variable
  module _ (sign : Variance) (lines before after : List Line) (cut : lines ≡ before ++ use_of sign n z ∷ after) where
    cut-count : flow_count lines ≡ suc (flow_count (before ++ after))
    cut-count =
        let e : flow_count lines ≡ flow_count (before ++ use_of sign n z ∷ after) = ap flow_count cut in
        let s : flow_count (use_of sign n z ∷ after) ≡ line_flow_count (use_of sign n z) + flow_count after = refl in
        omega (arith, e, s, use-count sign, count-append before (use_of sign n z ∷ after), count-append before after)

    cut-letters : letters lines ≡ letters (before ++ after) + length z.word
    cut-letters =
        let e : letters lines ≡ letters (before ++ use_of sign n z ∷ after) = ap letters cut in
        let s : letters (use_of sign n z ∷ after) ≡ line_letters (use_of sign n z) + letters after = refl in
        omega (arith, e, s, use-letters sign, letters-append before (use_of sign n z ∷ after), letters-append before after)

exchange-lowers : (n : ℕ) (lines after : List Line) → Exchanges n lines after → splits_of after ≤ splits_of lines
exchange-lowers n lines _ (goes sign place left z before after is cut names) =
    let others = before ++ after in
    let all = put_lines n z others in
    let fewer : flow_count (tidied all) ≤ flow_count others =
    omega (arith, tidied-count all, count-mapped (map_line (put n z)) (count-line (put n z)) others) in
    let all_letters : letters lines ≡ letters others + length z.word = cut-letters n z sign lines before after cut in
    let some : length z.word ≤ letters lines = omega (arith, all_letters) in
    let within : letters (tidied all) ≤ letters lines + spread (flow_count others) (letters lines) =
    omega (
      arith,
      all_letters,
      tidied-letters all,
      put-letters n z others,
      spread-rises (flow_count others) (length z.word) (letters lines) some,
    ) in
    drops (tidied all) lines (flow_count others) (cut-count n z sign lines before after cut) fewer within
exchange-lowers n lines _ (exists_still sign place left z before after is cut unnamed) =
    let all = before ++ Var z ∷ after in
    let t : flow_count (Var z ∷ after) ≡ flow_count after = omega arith in
    let u : letters (Var z ∷ after) ≡ letters after = omega arith in
    let fewer : flow_count (tidied all) ≤ flow_count lines =
    omega (
      arith,
      t,
      cut-count n z sign lines before after cut,
      count-append before (Var z ∷ after),
      count-append before after,
      tidied-count all,
    ) in
    let shorter : letters (tidied all) ≤ letters lines =
    omega (
      arith,
      u,
      cut-letters n z sign lines before after cut,
      letters-append before (Var z ∷ after),
      letters-append before after,
      tidied-letters all,
    ) in
    lowers (tidied all) lines fewer shorter

puts-lower : (left start : List Line) → Puts left start → splits_of left ≤ splits_of start
puts-lower left start (none_left none) = omega arith
puts-lower left start (puts n now between least exchanged rest) =
    omega (arith, exchange-lowers n now between exchanged, puts-lower left between rest)

simple-lowers : (left start : List Line) → Simplifies left start → splits_of left ≤ splits_of start
simple-lowers left start (simple _ p none none') = puts-lower left start p
simple-lowers left start (twins_go _ between sign class w p turn c apart rest) =
    omega (arith, puts-lower between start p, refined-lowers class between, simple-lowers left (tidied (refined class between)) rest)

-- existentials that are used alike became one, and the rest of what prepares lines once was done
once-lowers : (lines between left : List Line) → Refines lines between → Simplifies left between → splits_of left ≤ splits_of lines
once-lowers lines between left (class, c, e) s =
    let f : splits_of between ≡ splits_of (tidied (refined class lines)) = ap splits_of e in
    omega (arith, f, refined-lowers class lines, simple-lowers left between s)

-- Lines of idle existentials as their shapes.
module _ (idle : ℕ → Bool) where
  trimmed-count : (l : Line) → line_flow_count (trimmed_line idle l) ≤ line_flow_count l
  trimmed-count (Var x) = omega arith
  trimmed-count (Same x y) = omega arith
  trimmed-count (Sub x y) = by (is_idle idle x.base || is_idle idle y.base)
    where
      by : (t : Bool) → line_flow_count (cond t (Same x y) (Sub x y)) ≤ 1
      by true = omega arith
      by false = omega arith
  trimmed-count (Low k x) = by (is_idle idle x.base)
    where
      by : (t : Bool) → line_flow_count (cond t (Var x) (Low k x)) ≤ 1
      by true = omega arith
      by false = omega arith
  trimmed-count (Up x k) = by (is_idle idle x.base)
    where
      by : (t : Bool) → line_flow_count (cond t (Var x) (Up x k)) ≤ 1
      by true = omega arith
      by false = omega arith

  trimmed-letters : (l : Line) → line_letters (trimmed_line idle l) ≤ line_letters l
  trimmed-letters (Var x) = omega arith
  trimmed-letters (Same x y) = omega arith
  trimmed-letters (Sub x y) = by (is_idle idle x.base || is_idle idle y.base)
    where
      by : (t : Bool) → line_letters (cond t (Same x y) (Sub x y)) ≤ length x.word + length y.word
      by true = omega arith
      by false = omega arith
  trimmed-letters (Low k x) = by (is_idle idle x.base)
    where
      by : (t : Bool) → line_letters (cond t (Var x) (Low k x)) ≤ length x.word
      by true = omega arith
      by false = omega arith
  trimmed-letters (Up x k) = by (is_idle idle x.base)
    where
      by : (t : Bool) → line_letters (cond t (Var x) (Up x k)) ≤ length x.word
      by true = omega arith
      by false = omega arith

  trimmed-lowers : (lines : List Line) → splits_of (trimmed idle lines) ≤ splits_of lines
  trimmed-lowers lines =
      lowers (trimmed idle lines) lines (count-mapped (trimmed_line idle) trimmed-count lines)
      (letters-mapped (trimmed_line idle) trimmed-letters lines)

pub prepares-lowers : (left lines : List Line) → Prepares left lines → splits_of left ≤ splits_of lines
prepares-lowers left lines (prepared _ between idle r s are same) = once-lowers lines between left r s
prepares-lowers left lines (trims _ between now idle r s are other rest) =
    omega (
      arith,
      once-lowers lines between now r s,
      trimmed-lowers idle now,
      tidied-lowers (trimmed idle now),
      prepares-lowers left (tidied (trimmed idle now)) rest,
    )
