-- Tests, and the faults of checks.
use Rattle.std.proofs.Common.{◌≡◌, ℕ, ◌+◌, ◌<◌, ◌≤◌, ◌⊎◌, inl, inr, Bool, true, false, ◌&&◌, ◌||◌, ◌==◌, not, nat_lt, Option, Some, None, Ok, refl, arith}
use Rattle.std.proofs.lemmas.Bool.{ltb-true, ltb-false, cases_Bool}
use Rattle.std.proofs.lemmas.Bool.Decides.{Decides-eqb}
use Rattle.rt_base.specs.First.{fault_if, then_of, first_each}
use Rattle.rt_base.proofs.Entries.{first_each-none}
use Rattle.rt_elf.specs.Faults.{checked}
use Rattle.rt_elf.specs.declared.fault.ElfFault.{ElfFault}

-- which of two numbers comes first
pub split : (m n : ℕ) → (m ≤ n) ⊎ (n < m)
split m n = elim (cases_Bool (nat_lt n m)) [ inl e ↦ inr (ltb-true n m e) | inr e ↦ inl (ltb-false n m e) ]

pub eqb-is : (m n : ℕ) → (m == n) ≡ true → m ≡ n
eqb-is m n e = (Decides-eqb m n).0 e

pub and-rest_false : (a b : Bool) → (a && b) ≡ false → a ≡ true → b ≡ false
and-rest_false true b e h = e
and-rest_false false b e h = cc

pub fault_if-none : {F : Type 0} (fails : Bool) (fault : F) → fault_if fails fault ≡ None → fails ≡ false
fault_if-none true fault e = cc
fault_if-none false fault e = refl

-- no entry has a fault where the first fault of all is none
pub none_at : {F : Type 0} (part : ℕ → Option F) (n k : ℕ) → first_each part 0 n ≡ None → k < n → part k ≡ None
none_at part n k none h = let e : 0 + k ≡ k = omega arith in rw e at (first_each-none part 0 n k none h)

-- a check that answers Ok found no fault
pub checked-ok : (fault : Option ElfFault) (x : Unit {0}) → Ok x ≡ checked fault → fault ≡ None
checked-ok None x e = refl
checked-ok (Some fault) x e = cc
