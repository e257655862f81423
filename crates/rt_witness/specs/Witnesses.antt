-- Lines by what they name.
use Rattle.std.specs.Prelude.{◌≡◌, ℕ, ◌<◌, ◌⊎◌, List, [], Bool, true, false, Option, Some, Contains, length, slice_get, slice_index_or}
use Rattle.rt_lines.specs.declared.variable.Dtv.{Dtv}
use Rattle.rt_lines.specs.declared.line.Line.{Line}
use Rattle.rt_rules.specs.Rules.{HasSide}
use Rattle.rt_shape.specs.Graphs.{Graph, node_of}
use Rattle.rt_shape.specs.Shapes.{IsFront, IsShapeOf}
use Rattle.rt_witness.specs.declared.witnesses.Witnesses.{Witnesses}

-- what is left of lines are those whose flags are set
pub record IsLeft (lines : List Line) (stands : List Bool) (left : List Line) : Type 0 where
  pub only : (l : Line) → Contains left l → (i : ℕ) × (slice_get lines i ≡ Some l) × (slice_index_or stands i false ≡ true)
  pub all : (i : ℕ) (l : Line) → slice_get lines i ≡ Some l → slice_index_or stands i false ≡ true → Contains left l

-- the line has a side that is the variable, or it with more letters
abbrev pub HasFront : Line → Dtv → Type 0
HasFront l y = (z : Dtv) × HasSide l z × IsFront y z

-- the row of the node, if there is one, has the number
abbrev pub IsNotedAt : List (List ℕ) → ℕ → Option ℕ → Type 0
IsNotedAt rows i node = (n : ℕ) → node ≡ Some n → n < length rows → Contains (slice_index_or rows n []) i

-- the row of the variable's node has it
abbrev pub IsNotedIn : Graph → List (List ℕ) → ℕ → Dtv → Type 0
IsNotedIn graph rows i y = (n : ℕ) → node_of graph y ≡ Some n → n < length rows → Contains (slice_index_or rows n []) i

-- what rows have, they have afterwards, and they are as many
pub record AreKept (old new : List (List ℕ)) : Type 0 where
  pub size : length new ≡ length old
  pub kept : (n i : ℕ) → Contains (slice_index_or old n []) i → Contains (slice_index_or new n []) i

-- what rows have afterwards, they had, but for a number in one row
abbrev pub HasMore : List (List ℕ) → ℕ → ℕ → List (List ℕ) → Type 0
HasMore old row i new = (n j : ℕ) → Contains (slice_index_or new n []) j →
    Contains (slice_index_or old n []) j ⊎ ((n ≡ row) × (j ≡ i))

-- the rows of what the lines before an index name have their indices
abbrev pub AreNoted : Graph → List Line → ℕ → List (List ℕ) → Type 0
AreNoted graph lines count rows =
    (i : ℕ) (l : Line) (y : Dtv) → i < count → slice_get lines i ≡ Some l → HasFront l y → IsNotedIn graph rows i y

-- the variable of the number has the property
abbrev pub IsAt : List Dtv → (Dtv → Type 0) → ℕ → Type 0
IsAt named P n = (y : Dtv) × (slice_get named n ≡ Some y) × P y

-- what rows have afterwards, they had, but for a number in rows of variables that have a property
abbrev pub HasNaming : List Dtv → (Dtv → Type 0) → List (List ℕ) → ℕ → List (List ℕ) → Type 0
HasNaming named P old i new =
    (n j : ℕ) → Contains (slice_index_or new n []) j → Contains (slice_index_or old n []) j ⊎ ((j ≡ i) × IsAt named P n)

-- the row of a variable has the indices only of lines with a side that begins with it
abbrev pub AreNaming : List Dtv → List Line → List (List ℕ) → Type 0
AreNaming named lines rows =
    (n i : ℕ) → Contains (slice_index_or rows n []) i → (l : Line) × (slice_get lines i ≡ Some l) × IsAt named (HasFront l) n

-- the shape of the lines, and for each node the indices of the lines that name a variable of that node; variables, and for each
-- indices of lines with a side that begins with it
pub record IsWitnesses (lines : List Line) (witnesses : Witnesses) : Type 0 where
  pub shape : IsShapeOf lines witnesses.shape
  pub noted : AreNoted witnesses.shape lines (length lines) witnesses.noted.items
  pub naming : AreNaming witnesses.named lines witnesses.naming.items
