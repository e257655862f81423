-- Numbers that rise.
use Rattle.std.proofs.Common.{◌≡◌, ℕ, zero, suc, ◌+◌, ◌<◌, ◌≤◌, List, [], ◌∷◌, ◌++◌, slice_index, subst, arith}
use Rattle.std.specs.List.Sorted.{IsStrictlyIncreasing}
use Rattle.rt_reports.specs.Inside.Drafts.{least_after}
use Rattle.rt_reports.specs.Inside.Reads.{RisesFrom}

pub least_after-append : (low : ℕ) (ns ms : List ℕ) → least_after low (ns ++ ms) ≡ least_after (least_after low ns) ms
least_after-append low [] ms = λ i. least_after low ms
least_after-append low (n ∷ ns) ms = least_after-append (n + 1) ns ms

pub RisesFrom-push : (low : ℕ) (ns : List ℕ) (n : ℕ) → RisesFrom low ns → least_after low ns ≤ n → RisesFrom low (ns ++ n ∷ [])
RisesFrom-push low [] n rise h = (h, tt)
RisesFrom-push low (m ∷ ns) n (here, rise) h = (here, RisesFrom-push (m + 1) ns n rise h)

-- one number more in front
increasing-cons : (n m : ℕ) (ns : List ℕ) → n < m → IsStrictlyIncreasing (m ∷ ns) → IsStrictlyIncreasing (n ∷ m ∷ ns)
increasing-cons n m ns less rise zero h = less
increasing-cons n m ns less rise (suc k) h =
    let next : suc (k + 1) ≡ suc k + 1 = omega arith in
    let here : slice_index (m ∷ ns) k < slice_index (m ∷ ns) (k + 1) = rise k (omega arith) in
    subst (λ j. slice_index (m ∷ ns) k < slice_index (n ∷ m ∷ ns) j) next here

increasing-tail : (n : ℕ) (ns : List ℕ) → IsStrictlyIncreasing (n ∷ ns) → IsStrictlyIncreasing ns
increasing-tail n ns rise k h =
    let next : suc k + 1 ≡ suc (k + 1) = omega arith in
    subst (λ j. slice_index ns k < slice_index (n ∷ ns) j) next (rise (suc k) (omega arith))

pub RisesFrom-increasing : (low : ℕ) (ns : List ℕ) → RisesFrom low ns → IsStrictlyIncreasing ns
RisesFrom-increasing low [] rise = λ k h. absurd (omega arith)
RisesFrom-increasing low (n ∷ []) rise = λ k h. absurd (omega arith)
RisesFrom-increasing low (n ∷ m ∷ ns) (here, rise) = let first : n + 1 ≤ m = rise.0 in increasing-cons n m ns (omega arith) (RisesFrom-increasing (n + 1) (m ∷ ns) rise)

pub increasing-RisesFrom : (low : ℕ) (ns : List ℕ) → IsStrictlyIncreasing ns → low ≤ slice_index ns 0 → RisesFrom low ns
increasing-RisesFrom low [] rise h = tt
increasing-RisesFrom low (n ∷ []) rise h = (h, tt)
increasing-RisesFrom low (n ∷ m ∷ ns) rise h =
    let first : n < m = rise 0 (omega arith) in
    (h, increasing-RisesFrom (n + 1) (m ∷ ns) (increasing-tail n (m ∷ ns) rise) (omega arith))

pub rises_all : (ns : List ℕ) → IsStrictlyIncreasing ns → RisesFrom 0 ns
rises_all [] rise = tt
rises_all (n ∷ ns) rise = increasing-RisesFrom 0 (n ∷ ns) rise (omega arith)
