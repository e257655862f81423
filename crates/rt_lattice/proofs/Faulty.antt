-- Faults of the order of names.
use Rattle.std.proofs.Common.{◌≡◌, ◌≢◌, ◌⊎◌, inl, inr, ℕ, Option, Some, List, length, refl}
use Rattle.rt_lattice.specs.declared.fault.LatFault.{LatFault}
use Rattle.rt_lattice.specs.declared.fault.LatFault.TheVariants.{NotToml, Shape, Unknown, Cycle, NoTop, NoBottom, NoJoin, NoRole, TooMany, Memory}
use Rattle.rt_lattice.specs.declared.file.File.{File}
use Rattle.rt_lattice.specs.Bounds.{HasNoCycle, HasTop, HasBottom}
use Rattle.rt_lattice.specs.Faults.{IsFaultOf, IsOrderFault, is_no_join, IsFileFault, is_unknown, IsJoinFault}
use Rattle.rt_lattice.specs.Closures.{IsUnknownIn, names_in}

-- a fault of the least upper bounds, after what was found before them
pub join_fault : (R : ℕ → ℕ → Type 0) (names : List (List ℕ)) (n : ℕ) (fault : LatFault) → n ≡ length names → HasNoCycle R n → HasTop R n → HasBottom R n
    → IsJoinFault R names fault → fault ≢ Memory → IsOrderFault R names fault
join_fault R names n (NoJoin first second) e none top bottom h m = is_no_join first second (rw (← e) none) (rw (← e) top) (rw (← e) bottom) h
join_fault R names n Memory e none top bottom h m = absurd (m refl)
join_fault R names n NotToml e none top bottom h m = absurd h
join_fault R names n (Shape key) e none top bottom h m = absurd h
join_fault R names n (Unknown name) e none top bottom h m = absurd h
join_fault R names n (Cycle name) e none top bottom h m = absurd h
join_fault R names n NoTop e none top bottom h m = absurd h
join_fault R names n NoBottom e none top bottom h m = absurd h
join_fault R names n (NoRole role) e none top bottom h m = absurd h
join_fault R names n TooMany e none top bottom h m = absurd h

-- a name that isn't known is a fault of the file
pub unknown_fault : (file : File) (fault : LatFault) → IsUnknownIn file.names (names_in file.below) fault → fault ≢ Memory → IsFileFault file fault
unknown_fault file (Unknown name) h m = is_unknown name h
unknown_fault file Memory h m = absurd (m refl)
unknown_fault file NotToml h m = absurd h
unknown_fault file (Shape key) h m = absurd h
unknown_fault file (Cycle name) h m = absurd h
unknown_fault file NoTop h m = absurd h
unknown_fault file NoBottom h m = absurd h
unknown_fault file (NoJoin first second) h m = absurd h
unknown_fault file (NoRole role) h m = absurd h
unknown_fault file TooMany h m = absurd h

-- an error that isn't out of memory is the fault
pub fault_is : (found : Option LatFault) (fault : LatFault) → IsFaultOf found fault → fault ≢ Memory → found ≡ Some fault
fault_is found Memory h m = absurd (m refl)
fault_is found (Unknown name) h m = h
fault_is found NotToml h m = h
fault_is found (Shape key) h m = h
fault_is found (Cycle name) h m = h
fault_is found NoTop h m = h
fault_is found NoBottom h m = h
fault_is found (NoJoin first second) h m = h
fault_is found (NoRole role) h m = h
fault_is found TooMany h m = h

pub is_memory : (fault : LatFault) → (fault ≡ Memory) ⊎ (fault ≢ Memory)
is_memory Memory = inl refl
is_memory (Unknown name) = inr (λ e. cc)
is_memory NotToml = inr (λ e. cc)
is_memory (Shape key) = inr (λ e. cc)
is_memory (Cycle name) = inr (λ e. cc)
is_memory NoTop = inr (λ e. cc)
is_memory NoBottom = inr (λ e. cc)
is_memory (NoJoin first second) = inr (λ e. cc)
is_memory (NoRole role) = inr (λ e. cc)
is_memory TooMany = inr (λ e. cc)
