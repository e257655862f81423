-- What holds from a site on.
use Rattle.std.specs.Prelude.{ℕ, List, [], ◌∷◌, if◌then◌else◌, nat_le}
use Rattle.std.specs.List.Sorted.{IsNonDecreasingBy}

-- what holds at a site by changes, each from its site on, and x before the first
abbrev pub change_at : {X : Type 0} → List (ℕ × X) → ℕ → X → X
change_at [] site x = x
change_at (c ∷ cs) site x = change_at cs site (if nat_le c.0 site then c.1 else x)

-- the sites of changes rise
abbrev pub IsAscending : {X : Type 0} → List (ℕ × X) → Type 0
IsAscending changes = IsNonDecreasingBy (λ c. c.0) changes
