-- How the counts of failed reads rise.
use Rattle.std.proofs.Common.{◌≡◌, ◌⊎◌, inl, inr, ℕ, zero, suc, ◌+◌, ◌^◌, ◌<◌, ◌≤◌, List, [], ◌∷◌, None, Some, is_none, nat_lt, if◌then◌else◌, arith}
use Rattle.std.specs.Prelude.{Contains}
use Rattle.std.proofs.lemmas.Bool.{cases_lt}
use Rattle.std.proofs.lemmas.Bool.Decides.{nat_tests}
use Rattle.rt_base.specs.Outside.{Rose}
use Rattle.rt_io.specs.Memory.{FileList, after_read, content_of, counted, failed_below, faults_of}

-- a listed number below a bound is below a greater one
failed_one-mono : (k m n : ℕ) → m ≤ n → (if nat_lt k m then 1 else 0) ≤ (if nat_lt k n then 1 else 0)
failed_one-mono k m n h = grind (arith, nat_tests)

failed_one-next : (k n : ℕ) → k ≡ n → (if nat_lt k n then 1 else 0) < (if nat_lt k (n + 1) then 1 else 0)
failed_one-next k n e = grind (arith, nat_tests)

pub failed_below-mono : (fails : List ℕ) (m n : ℕ) → m ≤ n → failed_below fails m ≤ failed_below fails n
failed_below-mono [] m n h = omega arith
failed_below-mono (k ∷ fails) m n h = omega (arith, failed_one-mono k m n h, failed_below-mono fails m n h)

-- after a listed call one more of the listed ones is over
pub failed_below-next : (fails : List ℕ) (n : ℕ) → Contains fails n → failed_below fails n < failed_below fails (n + 1)
failed_below-next [] n (k, h, e) = absurd (omega arith)
failed_below-next (x ∷ fails) n (zero, h, e) =
    omega (arith, failed_one-next x n e, failed_below-mono fails n (n + 1) (omega arith))
failed_below-next (x ∷ fails) n (suc k, h, e) =
    omega (arith, failed_one-mono x n (n + 1) (omega arith), failed_below-next fails n (k, omega arith, e))

faults_of-mono : (files : FileList) (reads : ℕ) (name : List ℕ) → files.reads ≤ reads → faults_of files name ≤ faults_of (record files { reads = reads }) name
faults_of-mono files reads name h =
    elim (content_of files.contents name) as (λ found. failed_below files.fails files.reads + (if is_none found then files.reads else 0) ≤ failed_below files.fails reads + (if is_none found then reads else 0)) [
      | None ↦ omega (arith, failed_below-mono files.fails files.reads reads h)
      | Some bytes ↦ omega (arith, failed_below-mono files.fails files.reads reads h)
    ]

-- after a read no name has failed less often
pub faults_of-next : (files : FileList) (name : List ℕ) → files.reads ≤ 18446744073709551615 → faults_of files name ≤ faults_of (after_read files) name
faults_of-next files name h = faults_of-mono files (counted files.reads) name (omega arith)

-- after one whose number is listed, each name more often
pub faults_of-listed : (files : FileList) (name : List ℕ) → Contains files.fails files.reads → files.reads < 2 ^ 32 → Rose (faults_of files name) (faults_of (after_read files) name)
faults_of-listed files name h small =
    let e : counted files.reads ≡ files.reads + 1 = omega arith in
    inl (rw e (elim (content_of files.contents name) as (λ found. failed_below files.fails files.reads + (if is_none found then files.reads else 0) < failed_below files.fails (files.reads + 1) + (if is_none found then files.reads + 1 else 0)) [
      | None ↦ omega (arith, failed_below-next files.fails files.reads h)
      | Some bytes ↦ omega (arith, failed_below-next files.fails files.reads h)
    ]))

-- and a name that isn't there after each
pub faults_of-absent : (files : FileList) (name : List ℕ) → content_of files.contents name ≡ None → files.reads ≤ 18446744073709551615 → Rose (faults_of files name) (faults_of (after_read files) name)
faults_of-absent files name e h =
    rw e (by (cases_lt files.reads 18446744073709551615))
  where
    by : (files.reads < 18446744073709551615) ⊎ (18446744073709551615 ≤ files.reads) →
        Rose (failed_below files.fails files.reads + files.reads) (failed_below files.fails (counted files.reads) + counted files.reads)
    by (inl less) =
        let next : counted files.reads ≡ files.reads + 1 = omega arith in
        inl (rw next (omega (arith, failed_below-mono files.fails files.reads (files.reads + 1) (omega arith))))
    by (inr end) = inr (omega arith)
