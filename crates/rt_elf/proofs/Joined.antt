-- Steps of the loop over lists that are joined.
use Rattle.std.proofs.Common.{◌≡◌, ℕ, suc, ◌+◌, ◌-◌, ◌<◌, ◌≤◌, Option, Some, None, List, [], ◌++◌, refl, arith, append_assoc, append-nil}
use Rattle.rt_base.specs.First.{first_each}
use Rattle.rt_elf.specs.Relocs.{joined}

-- no part before index k of n has a fault: what is left to check decides, and what is left to read completes the list
pub record IsJoining {F X : Type 0} (fault : ℕ → Option F) (at : ℕ → List X) (n k : ℕ) (list : List X) (first : Option F) (all : List X) : Type 0 where
  pub faults : first ≡ first_each fault k (n - k)
  pub values : list ++ joined at k (n - k) ≡ all

pub begins_joining : {F X : Type 0} (fault : ℕ → Option F) (at : ℕ → List X) (n : ℕ) → IsJoining fault at n 0 [] (first_each fault 0 n) (joined at 0 n)
begins_joining fault at n = let e : n - 0 ≡ n = omega arith in record { faults = rw e refl; values = rw e refl }

pub stops_joining : {F X : Type 0} (fault : ℕ → Option F) (at : ℕ → List X) (n k : ℕ) (list : List X) (first : Option F) (all : List X) (f : F) → IsJoining fault at n k list first all → k < n → fault k ≡ Some f → first ≡ Some f
stops_joining fault at n k list first all f going h p = let e : n - k ≡ suc (n - (k + 1)) = omega arith in rw (going.faults, e, p) refl

pub goes_on_joining : {F X : Type 0} (fault : ℕ → Option F) (at : ℕ → List X) (n k : ℕ) (list : List X) (first : Option F) (all : List X) → IsJoining fault at n k list first all → k < n → fault k ≡ None → IsJoining fault at n (k + 1) (list ++ at k) first all
goes_on_joining fault at n k list first all going h p =
    let e : n - k ≡ suc (n - (k + 1)) = omega arith in
    record {
      faults = rw (going.faults, e, p) refl;
      values = rw (← going.values, e, append_assoc) refl;
    }

pub ends_joining : {F X : Type 0} (fault : ℕ → Option F) (at : ℕ → List X) (n k : ℕ) (list : List X) (first : Option F) (all : List X) → IsJoining fault at n k list first all → n ≤ k → (first ≡ None) × (list ≡ all)
ends_joining fault at n k list first all going h =
    let e : n - k ≡ 0 = omega arith in
    (rw (going.faults, e) refl, rw (← going.values, e, append-nil) refl)
