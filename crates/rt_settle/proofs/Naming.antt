-- The names by which lines are sorted.
use Rattle.std.proofs.Common.{◌≡◌, ℕ, zero, suc, ◌+◌, ◌-◌, ◌<◌, ◌≤◌, ◌⊎◌, inl, inr, Some, None, List, [], ◌∷◌, ◌++◌, get_or, replicate, refl, sym, ap, ◌∙◌, arith, Result, Ok, Err, is_ok, OnOk, if◌then◌else◌}
use Rattle.std.specs.Prelude.{slice_get}
use Rattle.std.proofs.lemmas.Bool.{cases_lt}
use Rattle.std.proofs.lemmas.Option.{get_or_from_slice_get, slice_get-get_or, slice_get_within}
use Rattle.std.proofs.lemmas.List.{get_or_append_left, get_or-append-add}
use Rattle.rt_base.specs.First.{entries}
use Rattle.rt_lattice.specs.Standard.{standard_names}
use Rattle.rt_settle.specs.Sorted.{names_with, padded, sort_names}

entry_at : (i n k : ℕ) (d : List ℕ) → k < n → get_or (entries padded i n) k d ≡ padded (i + k)
entry_at i zero k d lt = absurd (omega arith)
entry_at i (suc n) zero d lt = let e : i + 0 ≡ i = omega arith in rw e refl
entry_at i (suc n) (suc k) d lt =
    let e : (i + 1) + k ≡ i + suc k = omega arith in
    rw (← e) (entry_at (i + 1) n k d (omega arith))

within_names : (count k : ℕ) → k < 12 → get_or (names_with count) k [] ≡ get_or standard_names k []
unfolding names_with
within_names count k lt = get_or_append_left standard_names (entries padded 12 count) [] k lt

past_names : (count k : ℕ) → 12 ≤ k → k < 12 + count → get_or (names_with count) k [] ≡ padded k
unfolding names_with
past_names count k above below =
    let e : k ≡ 12 + (k - 12) = omega arith in
    ap (λ j. get_or (names_with count) j []) e
    ∙ get_or-append-add standard_names (entries padded 12 count) (k - 12) []
    ∙ entry_at 12 count (k - 12) [] (omega arith)
    ∙ ap padded (omega arith)

-- a constant of the standard lattice has its name
pub standard-name : (k : ℕ) (name : List ℕ) → Some name ≡ slice_get standard_names k → get_or sort_names k [] ≡ name
standard-name k name e = within_names 65524 k (slice_get_within standard_names k name (sym e)) ∙ get_or_from_slice_get standard_names k name [] (sym e)

-- another one has its number
pub numbered-name : (k : ℕ) → None ≡ slice_get standard_names k → k < 65536 → get_or sort_names k [] ≡ padded k
numbered-name k e below = by (cases_lt k 12)
  where
    other : (name : List ℕ) → None ≡ Some name → ⊥
    other name f = cc

    by : (k < 12) ⊎ (12 ≤ k) → get_or sort_names k [] ≡ padded k
    by (inl lt) = let f = slice_get-get_or standard_names k [] lt in absurd (other (get_or standard_names k []) (e ∙ f))
    by (inr le) = past_names 65524 k le (omega arith)

pub replicate-push : (n byte : ℕ) → replicate n byte ++ byte ∷ [] ≡ replicate (n + 1) byte
replicate-push zero byte = refl
replicate-push (suc n) byte =
    let e : suc n + 1 ≡ suc (n + 1) = omega arith in
    rw e (ap (λ xs. byte ∷ xs) (replicate-push n byte))

-- what is added where there is memory
pub added : {E : Type 0} (r : Result (Unit {0}) E) (new old more all : List ℕ) → new ≡ (if (is_ok r) then (old ++ more) else old) → old ++ more ≡ all → OnOk r (new ≡ all)
added (Ok u) new old more all e f = e ∙ f
added (Err e') new old more all e f = tt
