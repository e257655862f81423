-- Numbers with flags.
use Rattle.std.specs.Prelude.{◌≡◌, ℕ, List, Contains, Bool, true, false, slice_index_or}

-- the flags that are set are those of the numbers
abbrev pub AreFlagged : List Bool → List ℕ → Type 0
AreFlagged flags numbers = (n : ℕ) → (slice_index_or flags n false ≡ true → Contains numbers n) ×
    (Contains numbers n → slice_index_or flags n false ≡ true)
