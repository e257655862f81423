-- Names in string tables (ELF gABI, "String Table").
use Rattle.std.specs.Prelude.{ℕ, ◌≡◌, ◌+◌, ◌≤◌, ◌==◌, nat_lt, Bool, List, [], ◌∷◌, drop, length, slice_index, if◌then◌else◌}
use Rattle.std.specs.List.{list_any}

-- the bytes before the first zero byte
abbrev pub up_to_zero : List ℕ → List ℕ
up_to_zero [] = []
up_to_zero (b ∷ bs) = if b == 0 then [] else b ∷ up_to_zero bs

-- the name at an offset of a string table; none at 0
abbrev pub name_at : List ℕ → ℕ → List ℕ
name_at strings offset = if offset == 0 then [] else up_to_zero (drop offset strings)

-- a zero byte stands at an offset or after it
abbrev pub has_end : List ℕ → ℕ → Bool
has_end strings offset = list_any (λ b. b == 0) (drop offset strings)

-- the names that have an end are those that begin before a place
abbrev pub EndsAt : List ℕ → ℕ → Type 0
EndsAt strings place = (offset : ℕ) → has_end strings offset ≡ nat_lt offset place

-- at each offset, and at the end, the place where the name from there on ends
pub record AreEnds (strings ends : List ℕ) : Type 0 where
  pub len : length ends ≡ length strings + 1
  pub each : (offset : ℕ) → offset ≤ length strings → slice_index ends offset ≡ offset + length (up_to_zero (drop offset strings))
