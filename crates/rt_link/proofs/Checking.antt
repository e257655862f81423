-- Steps of the loops that check each relocation.
use Rattle.std.proofs.Common.{◌≡◌, ℕ, suc, ◌+◌, ◌-◌, ◌<◌, ◌≤◌, Option, Some, None, Ok, refl, arith}
use Rattle.rt_base.specs.First.{first_each}
use Rattle.rt_link.specs.Checks.{checked}
use Rattle.rt_link.specs.declared.fault.LinkFault.{LinkFault}

-- no entry before index k of n has a fault: those left to check decide
pub record IsChecking {F : Type 0} (fault : ℕ → Option F) (n k : ℕ) (first : Option F) : Type 0 where
  pub left : first ≡ first_each fault k (n - k)

pub stops : {F : Type 0} (fault : ℕ → Option F) (n k : ℕ) (first : Option F) (f : F) → IsChecking fault n k first → k < n → fault k ≡ Some f → first ≡ Some f
stops fault n k first f going h p = let e : n - k ≡ suc (n - (k + 1)) = omega arith in rw (going.left, e, p) refl

pub goes_on : {F : Type 0} (fault : ℕ → Option F) (n k : ℕ) (first : Option F) → IsChecking fault n k first → k < n → fault k ≡ None → IsChecking fault n (k + 1) first
goes_on fault n k first going h p = let e : n - k ≡ suc (n - (k + 1)) = omega arith in record { left = rw (going.left, e, p) refl }

pub ends : {F : Type 0} (fault : ℕ → Option F) (n k : ℕ) (first : Option F) → IsChecking fault n k first → n ≤ k → first ≡ None
ends fault n k first going h = let e : n - k ≡ 0 = omega arith in rw (going.left, e) refl

-- a check that answers Ok found no fault
pub checked-ok : (fault : Option LinkFault) (x : Unit {0}) → Ok x ≡ checked fault → fault ≡ None
checked-ok None x e = refl
checked-ok (Some fault) x e = cc
