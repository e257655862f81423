-- Numbers of what stands beside existentials.
use Rattle.std.specs.Prelude.{◌≡◌, ◌↔◌, ℕ, suc, zero, ◌<◌, ◌⊎◌, List, [], ◌∷◌, ◌++◌, Bool, true, cond, Some}
use Rattle.std.specs.BTreeMap.{BTreeMap, get}
use Rattle.std.specs.Cmp.Lexicographic.{slice_cmp}
use Rattle.std.specs.Global.{Vec}
use Rattle.std.specs.declared.cmp.Ordering.{Ordering}
use Rattle.rt_lines.specs.declared.line.Line.{Line}
use Rattle.rt_refine.specs.declared.uses.Side.{Side}
use Rattle.rt_refine.specs.Ranks.{Rank, use_ranks}
use Rattle.rt_refine.specs.Uses.{Use, Stands}

-- the map gives the list the number
abbrev pub HasNumber : {X : Type 0} → (X → X → Ordering) → BTreeMap (Vec X) ℕ → List X → ℕ → Type 0
HasNumber {X} cmp numbers list number =
    (key : Vec X) × (key.items ≡ list) × (get (λ (a b : Vec X). slice_cmp cmp a.items b.items) numbers key ≡ Some number)

-- a list has its number now, which is a fresh one if it had none
pub record IsNumbered {X : Type 0} (list : List X) (fresh number : ℕ) (old new : List X → ℕ → Type 0) : Type 0 where
  pub is : new list number
  pub kept : (other : List X) (k : ℕ) → old other k → new other k
  pub source : (other : List X) (k : ℕ) → new other k →
      old other k ⊎ ((other ≡ list) × (k ≡ fresh) × (number ≡ fresh) × ((j : ℕ) → old list j → ⊥))
  pub one : (other : List X) (j k : ℕ) → new other j → new other k → j ≡ k

-- of the existentials that are asked for the index has exactly those that have the use with the number
abbrev pub IsNumberOf : Side → List Line → (ℕ → ℕ) → (ℕ → Bool) → (ℕ → ℕ → Bool) → ℕ → Use → Type 0
IsNumberOf side lines class wanted index number u =
    (n : ℕ) → wanted n ≡ true → (index n number ≡ true) ↔ Stands side lines class n u

-- the index has the numbers of the uses of each existential that is asked for
pub record IsUseIndex (side : Side) (lines : List Line) (class : ℕ → ℕ) (wanted : ℕ → Bool) (bound : ℕ)
    (index : ℕ → ℕ → Bool) : Type 0 where
  pub numbered : (n : ℕ) (u : Use) → wanted n ≡ true → Stands side lines class n u →
      (k : ℕ) × IsNumberOf side lines class wanted index k u
  pub source : (n k : ℕ) → index n k ≡ true → (u : Use) × IsNumberOf side lines class wanted index k u
  pub within : (n k : ℕ) → index n k ≡ true → k < bound

-- the same of an index that is being made, with the numbers of uses by their ranks
pub record IsIndexOf (side : Side) (lines : List Line) (class : ℕ → ℕ) (wanted : ℕ → Bool) (bound : ℕ)
    (numbers : List Rank → ℕ → Type 0) (index : ℕ → ℕ → Bool) : Type 0 where
  pub one_list : (r s : List Rank) (k : ℕ) → numbers r k → numbers s k → r ≡ s
  pub one_number : (r : List Rank) (j k : ℕ) → numbers r j → numbers r k → j ≡ k
  pub below : (r : List Rank) (k : ℕ) → numbers r k → k < bound
  pub here : (n : ℕ) (u : Use) → wanted n ≡ true → Stands side lines class n u → (k : ℕ) × numbers (use_ranks u) k × (index n k ≡ true)
  pub source : (n k : ℕ) → index n k ≡ true → (u : Use) × Stands side lines class n u × numbers (use_ranks u) k

-- the numbers below a bound at which a test passes, in order
abbrev pub numbers_below : (ℕ → Bool) → ℕ → List ℕ
numbers_below test zero = []
numbers_below test (suc k) = numbers_below test k ++ cond (test k) (k ∷ []) []

-- what the members of one class have in common that have the same uses: their numbers, and the class
abbrev pub use_key : (ℕ → ℕ) → ℕ → (ℕ → ℕ → Bool) → ℕ → List ℕ
use_key old bound index n = numbers_below (index n) bound ++ old n ∷ []
