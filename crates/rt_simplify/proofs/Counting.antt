-- No step of what prepares lines adds a `<=` line or bound, and most add no letter to them.
use Rattle.std.proofs.Common.{◌≡◌, ℕ, ◌+◌, ◌≤◌, List, [], ◌∷◌, ◌++◌, map, fold, length, Bool, true, false, cond, refl, ap, arith}
use Rattle.std.specs.List.{list_any}
use Rattle.indexmap.specs.IndexSet.{insert_key}
use Rattle.rt_lines.specs.declared.variable.Dtv.{Dtv}
use Rattle.rt_lines.specs.declared.line.Line.{Line}
use Rattle.rt_lines.specs.declared.line.Line.TheVariants.{Var, Same, Sub, Low, Up}
use Rattle.rt_lines.specs.Equality.{variable_eq, line_eq}
use Rattle.rt_rules.specs.Alike.{map_line}
use Rattle.rt_rules.specs.Put.{put, put_lines, use_of}
use Rattle.rt_refine.specs.Refinements.{move, refined}
use Rattle.rt_polar.specs.Puts.{Exchanges, Puts}
use Rattle.rt_polar.specs.Puts.Exchanges.{goes, exists_still}
use Rattle.rt_polar.specs.Puts.Puts.{none_left, puts}
use Rattle.rt_polar.specs.Tidied.{tidied, without_self}
use Rattle.rt_lines.specs.FlowCounts.{flow_count, line_flow_count}
use Rattle.rt_record.specs.Slots.{letters, line_letters}
use Rattle.rt_reduction.specs.Simplifies.{Simplifies, simple, twins_go}
use Rattle.rt_simplify.specs.Inside.Preparing.{IsOnce}

-- A number of each line, added up.
module _ (number : Line → ℕ) (total : List Line → ℕ) (none : total [] ≡ 0)
    (more : (l : Line) (ls : List Line) → total (l ∷ ls) ≡ number l + total ls) where
  total-append : (xs ys : List Line) → total (xs ++ ys) ≡ total xs + total ys
  total-append [] ys = omega (arith, none)
  total-append (x ∷ xs) ys = omega (arith, more x (xs ++ ys), more x xs, total-append xs ys)

  total-mapped : (f : Line → Line) → ((l : Line) → number (f l) ≤ number l) → (lines : List Line) → total (map f lines) ≤ total lines
  total-mapped f less [] = omega arith
  total-mapped f less (l ∷ lines) =
      omega (arith, more (f l) (map f lines), more l lines, less l, total-mapped f less lines)

  insert-total : (ks : List Line) (x : Line) → total (insert_key line_eq ks x) ≤ total ks + number x
  insert-total ks x = by (list_any (line_eq x) ks)
    where
      by : (t : Bool) → total (cond t ks (ks ++ x ∷ [])) ≤ total ks + number x
      by true = omega arith
      by false = omega (arith, total-append ks (x ∷ []), more x [], none)

  inserted-total : (ks xs : List Line) → total (fold (insert_key line_eq) ks xs) ≤ total ks + total xs
  inserted-total ks [] = omega arith
  inserted-total ks (x ∷ xs) = omega (arith, inserted-total (insert_key line_eq ks x) xs, insert-total ks x, more x xs)

  tidied-total : ((l : Line) → number (without_self l) ≤ number l) → (lines : List Line) → total (tidied lines) ≤ total lines
  tidied-total less lines =
      let h : total (tidied lines) ≤ total [] + total (map without_self lines) = inserted-total [] (map without_self lines) in
      omega (arith, h, none, total-mapped without_self less lines)

pub count-append : (xs ys : List Line) → flow_count (xs ++ ys) ≡ flow_count xs + flow_count ys
count-append = total-append line_flow_count flow_count refl (λ l ls. refl)

pub letters-append : (xs ys : List Line) → letters (xs ++ ys) ≡ letters xs + letters ys
letters-append = total-append line_letters letters refl (λ l ls. refl)

pub count-mapped : (f : Line → Line) → ((l : Line) → line_flow_count (f l) ≤ line_flow_count l) → (lines : List Line) →
    flow_count (map f lines) ≤ flow_count lines
count-mapped = total-mapped line_flow_count flow_count refl (λ l ls. refl)

pub letters-mapped : (f : Line → Line) → ((l : Line) → line_letters (f l) ≤ line_letters l) → (lines : List Line) →
    letters (map f lines) ≤ letters lines
letters-mapped = total-mapped line_letters letters refl (λ l ls. refl)

pub count-line : (f : Dtv → Dtv) (l : Line) → line_flow_count (map_line f l) ≤ line_flow_count l
count-line f (Var x) = omega arith
count-line f (Same x y) = omega arith
count-line f (Sub x y) = omega arith
count-line f (Low k x) = omega arith
count-line f (Up x k) = omega arith

letters-moved : (class : ℕ → ℕ) (l : Line) → line_letters (map_line (move class) l) ≤ line_letters l
letters-moved class (Var x) = omega arith
letters-moved class (Same x y) = omega arith
letters-moved class (Sub x y) = omega arith
letters-moved class (Low k x) = omega arith
letters-moved class (Up x k) = omega arith

count-plain : (l : Line) → line_flow_count (without_self l) ≤ line_flow_count l
count-plain (Var x) = omega arith
count-plain (Same x y) = by (variable_eq x y)
  where
    by : (t : Bool) → line_flow_count (cond t (Var x) (Same x y)) ≤ 0
    by true = omega arith
    by false = omega arith
count-plain (Sub x y) = by (variable_eq x y)
  where
    by : (t : Bool) → line_flow_count (cond t (Var x) (Sub x y)) ≤ 1
    by true = omega arith
    by false = omega arith
count-plain (Low k x) = omega arith
count-plain (Up x k) = omega arith

letters-plain : (l : Line) → line_letters (without_self l) ≤ line_letters l
letters-plain (Var x) = omega arith
letters-plain (Same x y) = by (variable_eq x y)
  where
    by : (t : Bool) → line_letters (cond t (Var x) (Same x y)) ≤ 0
    by true = omega arith
    by false = omega arith
letters-plain (Sub x y) = by (variable_eq x y)
  where
    by : (t : Bool) → line_letters (cond t (Var x) (Sub x y)) ≤ length x.word + length y.word
    by true = omega arith
    by false = omega arith
letters-plain (Low k x) = omega arith
letters-plain (Up x k) = omega arith

pub tidied-count : (lines : List Line) → flow_count (tidied lines) ≤ flow_count lines
tidied-count = tidied-total line_flow_count flow_count refl (λ l ls. refl) count-plain

pub tidied-letters : (lines : List Line) → letters (tidied lines) ≤ letters lines
tidied-letters = tidied-total line_letters letters refl (λ l ls. refl) letters-plain

exchange-count : (n : ℕ) (lines after : List Line) → Exchanges n lines after → flow_count after ≤ flow_count lines
exchange-count n lines _ (goes sign place left z before after is cut names) =
    let e : flow_count lines ≡ flow_count (before ++ use_of sign n z ∷ after) = ap flow_count cut in
    let s : flow_count (use_of sign n z ∷ after) ≡ line_flow_count (use_of sign n z) + flow_count after = refl in
    omega (
      arith,
      e,
      s,
      count-append before (use_of sign n z ∷ after),
      count-append before after,
      tidied-count (put_lines n z (before ++ after)),
      count-mapped (map_line (put n z)) (count-line (put n z)) (before ++ after),
    )
exchange-count n lines _ (exists_still sign place left z before after is cut unnamed) =
    let e : flow_count lines ≡ flow_count (before ++ use_of sign n z ∷ after) = ap flow_count cut in
    let s : flow_count (use_of sign n z ∷ after) ≡ line_flow_count (use_of sign n z) + flow_count after = refl in
    let t : flow_count (Var z ∷ after) ≡ flow_count after = omega arith in
    omega (
      arith,
      e,
      s,
      t,
      count-append before (use_of sign n z ∷ after),
      count-append before (Var z ∷ after),
      tidied-count (before ++ Var z ∷ after),
    )

puts-count : (left start : List Line) → Puts left start → flow_count left ≤ flow_count start
puts-count left start (none_left none) = omega arith
puts-count left start (puts n now between least exchanged rest) =
    omega (arith, exchange-count n now between exchanged, puts-count left between rest)

pub refined-count : (class : ℕ → ℕ) (lines : List Line) → flow_count (tidied (refined class lines)) ≤ flow_count lines
refined-count class lines =
    omega (arith, tidied-count (refined class lines), count-mapped (map_line (move class)) (count-line (move class)) lines)

pub refined-letters : (class : ℕ → ℕ) (lines : List Line) → letters (tidied (refined class lines)) ≤ letters lines
refined-letters class lines =
    omega (arith, tidied-letters (refined class lines), letters-mapped (map_line (move class)) (letters-moved class) lines)

simple-count : (left start : List Line) → Simplifies left start → flow_count left ≤ flow_count start
simple-count left start (simple _ p none none') = puts-count left start p
simple-count left start (twins_go _ between sign class w p turn c apart rest) =
    omega (arith, puts-count between start p, refined-count class between, simple-count left (tidied (refined class between)) rest)

pub once-count : (lines left : List Line) → IsOnce lines left → flow_count left ≤ flow_count lines
once-count lines left (between, (class, c, e), s) =
    let f : flow_count between ≡ flow_count (tidied (refined class lines)) = ap flow_count e in
    omega (arith, f, refined-count class lines, simple-count left between s)
