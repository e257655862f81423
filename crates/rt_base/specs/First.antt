use Rattle.std.specs.Prelude.{ℕ, zero, suc, ◌+◌, Bool, Option, Some, None, List, [], ◌∷◌, if◌then◌else◌}

-- one check: where it fails, its fault
abbrev pub fault_if : {F : Type 0} → Bool → F → Option F
fault_if fails fault = if fails then Some fault else None

-- the first fault of two parts, one after the other
abbrev pub then_of : {F : Type 0} → Option F → Option F → Option F
then_of None later = later
then_of (Some fault) later = Some fault

-- the first fault of several
abbrev pub first_of : {F : Type 0} → List (Option F) → Option F
first_of [] = None
first_of (part ∷ parts) = then_of part (first_of parts)

-- the first fault of the entries from index i on, n of them
abbrev pub first_each : {F : Type 0} → (ℕ → Option F) → ℕ → ℕ → Option F
first_each part i zero = None
first_each part i (suc n) = then_of (part i) (first_each part (i + 1) n)

-- the entries from index i on, n of them
abbrev pub entries : {X : Type 0} → (ℕ → X) → ℕ → ℕ → List X
entries at i zero = []
entries at i (suc n) = at i ∷ entries at (i + 1) n
