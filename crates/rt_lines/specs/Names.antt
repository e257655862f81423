-- Names of constants.
use Rattle.std.specs.Prelude.{◌≡◌, ◌≢◌, ℕ, ◌<◌, ◌≤◌, ◌⊎◌, List, [], All, AllPairs, length, slice_index, slice_index_or}

-- a lower-case letter
abbrev pub IsLetter : ℕ → Type 0
IsLetter b = (97 ≤ b) × (b ≤ 122)

-- a lower-case letter, a digit or an underscore
abbrev pub IsNameByte : ℕ → Type 0
IsNameByte b = IsLetter b ⊎ (((48 ≤ b) × (b ≤ 57)) ⊎ (b ≡ 95))

-- the spelling of a name
pub record IsName (name : List ℕ) : Type 0 where
  pub first : IsLetter (slice_index name 0)
  pub rest : All IsNameByte name
  pub short : length name ≤ 32

-- distinct names, and few enough for their numbers
pub record AreNames (names : List (List ℕ)) : Type 0 where
  pub spelled : All IsName names
  pub distinct : AllPairs (λ a b. a ≢ b) names
  pub few : length names ≤ 65535

-- the name of a number
pub record HasName (names : List (List ℕ)) (number : ℕ) (name : List ℕ) : Type 0 where
  pub within : number < length names
  pub named : slice_index_or names number [] ≡ name
