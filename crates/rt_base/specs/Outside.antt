use Rattle.std.specs.Prelude.{ℕ, ◌<◌, ◌≤◌, ◌⊎◌, List, take, Option}
use Rattle.std.specs.Io.KnownBytes.{Appends}

-- A count rose: it is greater than it was, or stands at a counter's end.
abbrev pub Rose : ℕ → ℕ → Type 0
Rose before after = (before < after) ⊎ (18446744073709551615 ≤ after)

-- a prefix of the piece was appended
abbrev pub AppendsFront : Option (List ℕ) → Option (List ℕ) → List ℕ → Type 0
AppendsFront old new piece = (n : ℕ) × Appends old new (take n piece)

-- the line was appended, unless a put failed
abbrev pub Tells : ℕ → ℕ → Option (List ℕ) → Option (List ℕ) → List ℕ → Type 0
Tells before after old new line = Rose before after ⊎ Appends old new line
