-- How many lines say that a variable lies below another: fewer, when an existential gave its place away.
use Rattle.std.proofs.Common.{◌≡◌, ℕ, suc, ◌+◌, ◌<◌, ◌≤◌, ◌⊎◌, inl, inr, List, [], ◌∷◌, ◌++◌, map, fold, take, drop, Bool, true, false, cond, Option, refl, ap, ◌∙◌, arith}
use Rattle.std.specs.List.{list_any}
use Rattle.indexmap.specs.IndexSet.{insert_key}
use Rattle.rt_lines.specs.declared.label.Variance.{Variance}
use Rattle.rt_lines.specs.declared.label.Variance.TheVariants.{Co, Contra}
use Rattle.rt_lines.specs.declared.variable.Base.TheVariants.{Exist}
use Rattle.rt_lines.specs.declared.variable.Dtv.{Dtv}
use Rattle.rt_lines.specs.declared.line.Line.{Line}
use Rattle.rt_lines.specs.declared.line.Line.TheVariants.{Var, Same, Sub, Low, Up}
use Rattle.rt_lines.specs.Equality.{line_eq, variable_eq}
use Rattle.rt_rules.specs.Alike.{map_line}
use Rattle.rt_rules.specs.Laws.{NamesBase}
use Rattle.rt_rules.specs.Put.{put, put_lines, use_of}
use Rattle.rt_polar.specs.Inside.Places.{lines_of}
use Rattle.rt_polar.specs.Tidied.{tidied, without_self}
use Rattle.rt_polar.specs.Inside.Turns.{GivesAway, IsNextTurn}
use Rattle.rt_polar.proofs.Slots.{lines_cut}

-- 1 where the line says that a variable lies below another
abbrev pub sub_weight : Line → ℕ
sub_weight (Var x) = 0
sub_weight (Same x y) = 0
sub_weight (Sub x y) = 1
sub_weight (Low k x) = 0
sub_weight (Up x k) = 0

-- how many lines do
abbrev pub sub_count : List Line → ℕ
sub_count [] = 0
sub_count (l ∷ lines) = sub_weight l + sub_count lines

sub_count-append : (xs ys : List Line) → sub_count (xs ++ ys) ≡ sub_count xs + sub_count ys
sub_count-append [] ys = omega arith
sub_count-append (x ∷ xs) ys = omega (arith, sub_count-append xs ys)

inserted-count : (ks : List Line) (x : Line) → sub_count (insert_key line_eq ks x) ≤ sub_count ks + sub_weight x
inserted-count ks x = by (list_any (line_eq x) ks)
  where
    by : (t : Bool) → sub_count (cond t ks (ks ++ x ∷ [])) ≤ sub_count ks + sub_weight x
    by true = omega arith
    by false = omega (arith, sub_count-append ks (x ∷ []))

folded-count : (ks xs : List Line) → sub_count (fold (insert_key line_eq) ks xs) ≤ sub_count ks + sub_count xs
folded-count ks [] = omega arith
folded-count ks (x ∷ xs) = omega (arith, folded-count (insert_key line_eq ks x) xs, inserted-count ks x)

sub_weight-map : (f : Dtv → Dtv) (l : Line) → sub_weight (map_line f l) ≡ sub_weight l
sub_weight-map f (Var x) = refl
sub_weight-map f (Same x y) = refl
sub_weight-map f (Sub x y) = refl
sub_weight-map f (Low k x) = refl
sub_weight-map f (Up x k) = refl

sub_count-map : (f : Dtv → Dtv) (lines : List Line) → sub_count (map (map_line f) lines) ≡ sub_count lines
sub_count-map f [] = refl
sub_count-map f (l ∷ lines) = omega (arith, sub_weight-map f l, sub_count-map f lines)

sub_weight-without_self : (l : Line) → sub_weight (without_self l) ≤ sub_weight l
sub_weight-without_self (Var x) = omega arith
sub_weight-without_self (Same x y) = by (variable_eq x y)
  where
    by : (t : Bool) → sub_weight (cond t (Var x) (Same x y)) ≤ 0
    by true = omega arith
    by false = omega arith
sub_weight-without_self (Sub x y) = by (variable_eq x y)
  where
    by : (t : Bool) → sub_weight (cond t (Var x) (Sub x y)) ≤ 1
    by true = omega arith
    by false = omega arith
sub_weight-without_self (Low k x) = omega arith
sub_weight-without_self (Up x k) = omega arith

sub_count-without_self : (lines : List Line) → sub_count (map without_self lines) ≤ sub_count lines
sub_count-without_self [] = omega arith
sub_count-without_self (l ∷ lines) = omega (arith, sub_weight-without_self l, sub_count-without_self lines)

sub_count-tidied : (lines : List Line) → sub_count (tidied lines) ≤ sub_count lines
sub_count-tidied lines = let h = folded-count [] (map without_self lines) in omega (arith, h, sub_count-without_self lines)

use_weight : (sign : Variance) (n : ℕ) (z : Dtv) → sub_weight (use_of sign n z) ≡ 1
use_weight Co n z = refl
use_weight Contra n z = refl

falls_by : (n : ℕ) (z : Dtv) (before after start lines : List Line) → sub_count start ≡ sub_count before + (1 + sub_count after) →
    (NamesBase (before ++ after) (Exist n) × (lines ≡ tidied (put_lines n z (before ++ after)))) ⊎ ((NamesBase (before ++ after) (Exist n) → ⊥) × (lines ≡ tidied (before ++ Var z ∷ after))) → sub_count lines < sub_count start
falls_by n z before after start lines all (inl (names, is)) =
    let e : sub_count lines ≡ sub_count (tidied (put_lines n z (before ++ after))) = ap sub_count is in
    omega (arith, e, all, sub_count-tidied (put_lines n z (before ++ after)), sub_count-map (put n z) (before ++ after), sub_count-append before after)
falls_by n z before after start lines all (inr (none, is)) =
    let e : sub_count lines ≡ sub_count (tidied (before ++ Var z ∷ after)) = ap sub_count is in
    omega (arith, e, all, sub_count-tidied (before ++ Var z ∷ after), sub_count-append before (Var z ∷ after))

pub gives_falls : (n : ℕ) (z : Dtv) (slot : ℕ) (slots : List (Option Line)) (pending : ℕ → Bool) (lines : List Line) → IsNextTurn n z slot slots pending → GivesAway n z slots slot lines → sub_count lines < sub_count (lines_of slots)
gives_falls n z slot slots pending lines next gives =
    let before = lines_of (take slot slots) in
    let after = lines_of (drop (suc slot) slots) in
    let all : sub_count (lines_of slots) ≡ sub_count before + (1 + sub_count after) =
    ap sub_count (lines_cut slots slot (use_of next.sign n z) next.turn.sole.holds) ∙ sub_count-append before (use_of next.sign n z ∷ after) ∙ ap (λ w. sub_count before + (w + sub_count after)) (use_weight next.sign n z) in
    falls_by n z before after (lines_of slots) lines all gives
