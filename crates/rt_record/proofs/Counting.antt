-- How many `<=` lines and bounds there are behind the splitting, with how many letters.
use Rattle.std.proofs.Common.{◌≡◌, ◌≢◌, ℕ, suc, ◌+◌, ◌<◌, ◌⊎◌, inl, inr, List, [], ◌∷◌, ◌++◌, map, flat_map, length, length-append, Bool, Option, Some, None, refl, sym, ap, ◌∙◌, arith}
use Rattle.std.proofs.lemmas.List.{length-map}
use Rattle.rt_lines.specs.declared.label.Label.{Label}
use Rattle.rt_lines.specs.declared.variable.Dtv.{Dtv}
use Rattle.rt_lines.specs.declared.line.Line.{Line}
use Rattle.rt_lines.specs.declared.line.Line.TheVariants.{Var, Same, Sub, Low, Up}
use Rattle.rt_lines.specs.FirstFree.{first_free}
use Rattle.rt_lines.specs.FlowCounts.{flow_count}
use Rattle.rt_record.specs.declared.slots.Slot.{Slot}
use Rattle.rt_record.specs.Records.{moved, moved_line, move, moves, flow_sides, shape_line, split}
use Rattle.rt_record.specs.Slots.{AreRecords, slots, numbers, numbers_from, HasNoneSplit, IsSplit}
use Rattle.rt_record.specs.Slots.{line_letters, letters}
use Rattle.rt_record.proofs.Moving.{Moves, Stays, moving}

flow_count-append : (ks ls : List Line) → flow_count (ks ++ ls) ≡ flow_count ks + flow_count ls
flow_count-append [] ls = omega arith
flow_count-append (k ∷ ks) ls = let deeper = flow_count-append ks ls in omega (arith, deeper)

letters-append : (ks ls : List Line) → letters (ks ++ ls) ≡ letters ks + letters ls
letters-append [] ls = omega arith
letters-append (k ∷ ks) ls = let deeper = letters-append ks ls in omega (arith, deeper)

shapes_flow : (es : List (ℕ × Dtv)) → flow_count (map shape_line es) ≡ 0
shapes_flow [] = refl
shapes_flow (e ∷ es) = let deeper = shapes_flow es in omega (arith, deeper)

shapes_letters : (es : List (ℕ × Dtv)) → letters (map shape_line es) ≡ 0
shapes_letters [] = refl
shapes_letters (e ∷ es) = let deeper = shapes_letters es in omega (arith, deeper)

flat_map-append : {X Y : Type 0} (f : X → List Y) (xs ys : List X) → length (flat_map f (xs ++ ys)) ≡ length (flat_map f xs) + length (flat_map f ys)
flat_map-append f [] ys = omega arith
flat_map-append f (x ∷ xs) ys =
    let deeper = flat_map-append f xs ys in
    let outer = length-append (f x) (flat_map f (xs ++ ys)) in
    let inner = length-append (f x) (flat_map f xs) in
    omega (arith, deeper, outer, inner)

module _ (parts : ℕ → Label → Option ℕ) where
  moved_flow : (ls : List Line) → flow_count (map (moved_line parts) ls) ≡ flow_count ls
  moved_flow [] = refl
  moved_flow (Var x ∷ ls) = ap (λ n. 0 + n) (moved_flow ls)
  moved_flow (Same x y ∷ ls) = ap (λ n. 0 + n) (moved_flow ls)
  moved_flow (Sub x y ∷ ls) = ap (λ n. 1 + n) (moved_flow ls)
  moved_flow (Low k x ∷ ls) = ap (λ n. 1 + n) (moved_flow ls)
  moved_flow (Up x k ∷ ls) = ap (λ n. 1 + n) (moved_flow ls)

  pub split_flow : (ls : List Line) → flow_count (split parts ls) ≡ flow_count ls
  split_flow ls =
      let first = flow_count-append (map (moved_line parts) ls) (map shape_line (moves parts ls)) in
      let shapes = shapes_flow (moves parts ls) in
      let same = moved_flow ls in
      omega (arith, first, shapes, same)

  -- a variable that moves loses two letters
  moved_side : (x : Dtv) → length (moved parts x).word + (length (move parts x) + length (move parts x)) ≡ length x.word
  moved_side x = by (moving parts x)
    where
      by : Stays parts x ⊎ ((m : ℕ) × Moves parts x m) →
          length (moved parts x).word + (length (move parts x) + length (move parts x)) ≡ length x.word
      by (inl p) =
          let word : length (moved parts x).word ≡ length x.word = ap (λ y. length y.word) p.0 in
          let none : length (move parts x) ≡ 0 = ap length p.1 in
          omega (arith, word, none)
      by (inr (m, s)) =
          let word : length (moved parts x).word ≡ length s.more = ap (λ y. length y.word) s.goes in
          let one : length (move parts x) ≡ 1 = ap length s.listed in
          let whole : length x.word ≡ suc (suc (length s.more)) = ap (λ y. length y.word) s.same in
          omega (arith, word, one, whole)

  abbrev line_moves : Line → ℕ
  line_moves l = length (flat_map (move parts) (flow_sides l))

  one_side : (x : Dtv) → length (flat_map (move parts) (x ∷ [])) ≡ length (move parts x)
  one_side x = let all = length-append (move parts x) [] in omega (arith, all)

  moved_letters : (l : Line) → line_letters (moved_line parts l) + (line_moves l + line_moves l) ≡ line_letters l
  moved_letters (Var x) = refl
  moved_letters (Same x y) = refl
  moved_letters (Sub x y) =
      let first = moved_side x in
      let second = moved_side y in
      let all : line_moves (Sub x y) ≡ length (move parts x) + length (flat_map (move parts) (y ∷ [])) =
      length-append (move parts x) (flat_map (move parts) (y ∷ [])) in
      let last = one_side y in
      omega (arith, first, second, all, last)
  moved_letters (Low k x) = let first = moved_side x in let all = one_side x in omega (arith, first, all)
  moved_letters (Up x k) = let first = moved_side x in let all = one_side x in omega (arith, first, all)

  all_letters : (ls : List Line) → letters (map (moved_line parts) ls) + (length (moves parts ls) + length (moves parts ls)) ≡ letters ls
  all_letters [] = refl
  all_letters (l ∷ ls) =
      let here = moved_letters l in
      let deeper = all_letters ls in
      let both : length (moves parts (l ∷ ls)) ≡ line_moves l + length (moves parts ls) =
      flat_map-append (move parts) (flow_sides l) (flat_map flow_sides ls) in
      omega (arith, here, deeper, both)

  pub split_letters : (ls : List Line) → letters (split parts ls) + (length (moves parts ls) + length (moves parts ls)) ≡ letters ls
  split_letters ls =
      let first = letters-append (map (moved_line parts) ls) (map shape_line (moves parts ls)) in
      let shapes = shapes_letters (moves parts ls) in
      let same = all_letters ls in
      omega (arith, first, shapes, same)

  split_length : (ls : List Line) → length (split parts ls) ≡ length ls + length (moves parts ls)
  split_length ls =
      length-append (map (moved_line parts) ls) (map shape_line (moves parts ls))
      ∙ (λ i. length-map ls (moved_line parts) i + length-map (moves parts ls) shape_line i)

empty : {X : Type 0} (xs : List X) → length xs ≡ 0 → xs ≡ []
empty [] e = refl
empty (x ∷ xs) e = cc

-- where no field has a number nothing moves
module _ (parts : ℕ → Label → Option ℕ) (none : (n : ℕ) (f : Label) → parts n f ≡ None) where
  side_stays : (x : Dtv) → move parts x ≡ []
  side_stays x = by (moving parts x)
    where
      by : Stays parts x ⊎ ((m : ℕ) × Moves parts x m) → move parts x ≡ []
      by (inl p) = p.1
      by (inr (m, s)) = let e : Some m ≡ None = sym s.number ∙ none s.holder s.field in cc

  all_stay : (xs : List Dtv) → flat_map (move parts) xs ≡ []
  all_stay [] = refl
  all_stay (x ∷ xs) = λ i. side_stays x i ++ all_stay xs i

pub no_fields : (lines : List Line) (holds : ℕ → Bool) (order : List Slot) → AreRecords lines holds → order ≡ slots holds lines → length order ≡ 0 →
    HasNoneSplit lines
no_fields lines holds order are listed e = (
  holds,
  are,
  all_stay (numbers holds lines) (λ n f. ap (λ ss. numbers_from (first_free lines) ss n f) (sym listed ∙ empty order e)) (flat_map flow_sides lines),
)

module _ (lines left new : List Line) (holds : ℕ → Bool) (first : ℕ) (order : List Slot) (are : AreRecords lines holds)
    (from : first ≡ first_free lines) (listed : order ≡ slots holds lines) (is : left ≡ map (moved_line (numbers_from first order)) lines)
    (more : new ≡ left ++ map shape_line (moves (numbers_from first order) lines)) where
  whole : new ≡ split (numbers holds lines) lines
  whole =
      more ∙ ap (λ ls. ls ++ map shape_line (moves (numbers_from first order) lines)) is
      ∙ (λ i. split (numbers_from (from i) (listed i)) lines)

  lengths : length new ≡ length lines + length (moves (numbers holds lines) lines)
  lengths = ap length whole ∙ split_length (numbers holds lines) lines

  pub none_split : length new ≡ length lines → HasNoneSplit lines
  none_split e = (
    holds,
    are,
    empty (moves (numbers holds lines) lines) (let all = lengths in omega (arith, e, all)),
  )

  some_moves : (length new ≡ length lines → ⊥) → moves (numbers holds lines) lines ≢ []
  some_moves apart e = apart (let all = lengths in let none : length (moves (numbers holds lines) lines) ≡ 0 = ap length e in omega (arith, all, none))

  pub is_split : (length new ≡ length lines → ⊥) → IsSplit lines new
  is_split apart = (holds, are, some_moves apart, whole)

  pub same_count : flow_count new ≡ flow_count lines
  same_count = ap flow_count whole ∙ split_flow (numbers holds lines) lines

  pub fewer_letters : (length new ≡ length lines → ⊥) → letters new < letters lines
  fewer_letters apart = by (moves (numbers holds lines) lines) refl
    where
      by : (es : List (ℕ × Dtv)) → moves (numbers holds lines) lines ≡ es → letters new < letters lines
      by [] e = absurd (some_moves apart e)
      by (x ∷ es) e =
          let all = split_letters (numbers holds lines) lines in
          let same : letters new ≡ letters (split (numbers holds lines) lines) = ap letters whole in
          let some : length (moves (numbers holds lines) lines) ≡ suc (length es) = ap length e in
          omega (arith, all, same, some)
