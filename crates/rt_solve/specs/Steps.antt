-- How far a counter of 64 bits rises.
use Rattle.std.specs.Prelude.{◌≡◌, ℕ, ◌+◌, ◌-◌, ◌≤◌, min, Option, Some, None}

-- a number with so many more, which stays at the end of 64 bits
abbrev pub risen : ℕ → ℕ → ℕ
risen old more = old + min more (18446744073709551615 - old)

-- the counter rose by so many
abbrev pub RoseBy : ℕ → ℕ → ℕ → Type 0
RoseBy more old new = new ≡ risen old more

-- the counter rose by at most so many
abbrev pub RoseAtMost : ℕ → ℕ → ℕ → Type 0
RoseAtMost more old new = (old ≤ new) × (new ≤ risen old more)

-- one more where a group is published, else none
abbrev pub once : Option ℕ → ℕ
once None = 0
once (Some g) = 1
