-- Tables of counts of ways between places, and what they say.
use Rattle.std.specs.Prelude.{◌≡◌, ℕ, ◌+◌, ◌<◌, ◌⊎◌, List, [], Contains, length, slice_index_or}
use Rattle.rt_grid.specs.declared.grid.Step.{Step}

-- counts by the places where ways begin and by those where they end, 255 where none is known, and steps by the places that they leave
pub record Table : Type 0 where
  pub rows : List (List ℕ)
  pub steps : List (List Step)

-- how many places there are
abbrev pub size_of : Table → ℕ
size_of table = length table.rows

-- the count of a place in a row, 255 past its end
abbrev pub count_at : List ℕ → ℕ → ℕ
count_at row j = slice_index_or row j 255

-- the row of a place
abbrev pub row_of : List (List ℕ) → ℕ → List ℕ
row_of rows i = slice_index_or rows i []

-- the steps from a place
abbrev pub steps_of : List (List Step) → ℕ → List Step
steps_of steps i = slice_index_or steps i []

-- where a count is known there is a way of that count
abbrev pub AreWays : (ℕ → ℕ → ℕ → Type 0) → List (List ℕ) → Type 0
AreWays Way rows = (i j : ℕ) → count_at (row_of rows i) j < 255 → Way i j (count_at (row_of rows i) j)

-- each step is a way
abbrev pub AreSteps : (ℕ → ℕ → ℕ → Type 0) → List (List Step) → Type 0
AreSteps Way steps = (i : ℕ) (s : Step) → Contains (steps_of steps i) s → Way i s.to s.count

-- what a table says is true of ways
pub record Holds (Way : ℕ → ℕ → ℕ → Type 0) (table : Table) : Type 0 where
  pub rows : AreWays Way table.rows
  pub steps : AreSteps Way table.steps

-- the ways that are known, and with one behind another the way of both counts
pub data Made (Known : ℕ → ℕ → ℕ → Type 0) : ℕ → ℕ → ℕ → Type 0 where
  told : {i j n : ℕ} → Known i j n → Made Known i j n
  behind : {i j k m n : ℕ} → Made Known i j m → Made Known j k n → Made Known i k (m + n)

-- a way of count nought from a place to itself
abbrev pub IsRest : ℕ → ℕ → ℕ → ℕ → Type 0
IsRest size i j n = (i < size) × (j ≡ i) × (n ≡ 0)

-- the ways that a table speaks of: a count that is known, or a step
abbrev pub Says : Table → ℕ → ℕ → ℕ → Type 0
Says table i j n =
    ((count_at (row_of table.rows i) j < 255) × (n ≡ count_at (row_of table.rows i) j))
    ⊎ Contains (steps_of table.steps i) (record { to = j; count = n })

-- those, and one more
abbrev pub SaysWith : Table → ℕ → ℕ → ℕ → ℕ → ℕ → ℕ → Type 0
SaysWith table from to count i j n = Says table i j n ⊎ ((i ≡ from) × (j ≡ to) × (n ≡ count))

-- those, and those of some steps from a place
abbrev pub SaysOr : Table → ℕ → List Step → ℕ → ℕ → ℕ → Type 0
SaysOr table from steps i j n = Says table i j n ⊎ ((i ≡ from) × Contains steps (record { to = j; count = n }))

-- a way behind a way is one, of both counts
abbrev pub IsChain : (ℕ → ℕ → ℕ → Type 0) → Type 0
IsChain Way = (i j k m n : ℕ) → Way i j m → Way j k n → Way i k (m + n)

-- all rows are as long as there are rows
abbrev pub AreSquare : List (List ℕ) → Type 0
AreSquare rows = (i : ℕ) → i < length rows → length (row_of rows i) ≡ length rows

-- so are all but one
abbrev pub AreSquareBut : ℕ → List (List ℕ) → Type 0
AreSquareBut place rows = (i : ℕ) → i < length rows → (i ≡ place → ⊥) → length (row_of rows i) ≡ length rows

-- steps lead to places
abbrev pub AreWithin : ℕ → List Step → Type 0
AreWithin size steps = (s : Step) → Contains steps s → s.to < size

-- each step leads to a place
abbrev pub AreInside : ℕ → List (List Step) → Type 0
AreInside size steps = (i : ℕ) → AreWithin size (steps_of steps i)

-- each known count of a row stays, or is that of a step and of another row
abbrev pub IsRelaxed : List ℕ → List ℕ → ℕ → List ℕ → Type 0
IsRelaxed was by count row = (j : ℕ) → count_at row j < 255 → (count_at row j ≡ count_at was j) ⊎
    ((count_at by j < 255) × (count_at row j ≡ count + count_at by j))

-- each known count of a row stays, or is that of a step
abbrev pub IsLowered : List ℕ → List Step → List ℕ → Type 0
IsLowered was steps row = (j : ℕ) → count_at row j < 255 → (count_at row j ≡ count_at was j) ⊎
    Contains steps (record { to = j; count = count_at row j })

-- a count is that of a step, and of a way from where it leads
abbrev pub IsBeyond : List (List ℕ) → List Step → ℕ → ℕ → Type 0
IsBeyond rows steps j n =
    (s : Step) × Contains steps s × (count_at (row_of rows s.to) j < 255) × (n ≡ s.count + count_at (row_of rows s.to) j)

-- each known count of a row stays, or is that of one of the steps, and of a way from where it leads
abbrev pub IsRelaxedBy : List ℕ → List (List ℕ) → List Step → List ℕ → Type 0
IsRelaxedBy was rows steps row = (j : ℕ) → count_at row j < 255 → (count_at row j ≡ count_at was j) ⊎ IsBeyond rows steps j (count_at row j)

-- rows and steps of as many places as there are times
pub record IsTable (rows : List (List ℕ)) (steps : List (List Step)) (changed seen : List ℕ) : Type 0 where
  pub square : AreSquare rows
  pub as_long : length steps ≡ length rows
  pub inside : AreInside (length rows) steps
  pub noted : length changed ≡ length rows
  pub met : length seen ≡ length rows
