-- Lists of entries, and lists that are joined.
use Rattle.std.proofs.Common.{◌≡◌, ℕ, zero, suc, ◌+◌, ◌<◌, ◌≤◌, List, [], ◌∷◌, ◌++◌, All, length, get_or, refl, ap, arith}
use Rattle.std.proofs.lemmas.List.Elements.{All-nil, All-cons, All-append}
use Rattle.rt_base.specs.First.{entries}
use Rattle.rt_elf.specs.Relocs.{joined}

entries-more_from : {X : Type 0} (at : ℕ → X) (i n : ℕ) → entries at i (suc n) ≡ entries at i n ++ at (i + n) ∷ []
entries-more_from at i zero = let e : i + 0 ≡ i = omega arith in rw e refl
entries-more_from at i (suc n) =
    let step = entries-more_from at (i + 1) n in
    let e : i + 1 + n ≡ i + suc n = omega arith in
    ap (λ list. at i ∷ list) (rw e at step)

-- one more entry
pub entries-more : {X : Type 0} (at : ℕ → X) (n : ℕ) → entries at 0 (n + 1) ≡ entries at 0 n ++ at n ∷ []
entries-more at n =
    let e : n + 1 ≡ suc n = omega arith in
    let z : 0 + n ≡ n = omega arith in
    rw e (rw z at (entries-more_from at 0 n))

pub length-entries : {X : Type 0} (at : ℕ → X) (i n : ℕ) → length (entries at i n) ≡ n
length-entries at i zero = refl
length-entries at i (suc n) = ap suc (length-entries at (i + 1) n)

get_or-entries_from : {X : Type 0} (at : ℕ → X) (i n k : ℕ) (d : X) → k < n → get_or (entries at i n) k d ≡ at (i + k)
get_or-entries_from at i zero k d h = absurd (omega arith)
get_or-entries_from at i (suc n) zero d h = let e : i + 0 ≡ i = omega arith in rw e refl
get_or-entries_from at i (suc n) (suc k) d h =
    let step = get_or-entries_from at (i + 1) n k d (omega arith) in
    let e : i + 1 + k ≡ i + suc k = omega arith in
    rw e at step

-- an entry by its index
pub get_or-entries : {X : Type 0} (at : ℕ → X) (n k : ℕ) (d : X) → k < n → get_or (entries at 0 n) k d ≡ at k
get_or-entries at n k d h = let e : 0 + k ≡ k = omega arith in rw e at (get_or-entries_from at 0 n k d h)

-- what each entry has
pub All-entries : {X : Type 0} (P : X → Type 0) (at : ℕ → X) (i n : ℕ) → ((k : ℕ) → i ≤ k → k < i + n → P (at k)) → All P (entries at i n)
All-entries P at i zero h = All-nil P
All-entries P at i (suc n) h =
    All-cons P (at i) (entries at (i + 1) n) (h i (omega arith) (omega arith)) (All-entries P at (i + 1) n (λ k low high. h k (omega arith) (omega arith)))

-- what each element of each list has
pub All-joined : {X : Type 0} (P : X → Type 0) (at : ℕ → List X) (i n : ℕ) → ((k : ℕ) → i ≤ k → k < i + n → All P (at k)) → All P (joined at i n)
All-joined P at i zero h = All-nil P
All-joined P at i (suc n) h =
    All-append P (at i) (joined at (i + 1) n) (h i (omega arith) (omega arith)) (All-joined P at (i + 1) n (λ k low high. h k (omega arith) (omega arith)))
