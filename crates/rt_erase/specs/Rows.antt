-- What a header keeps of a tree: pointers, the fields of what they lead to, and scalars.
use Rattle.std.specs.Prelude.{◌≡◌, ℕ, pos, ◌+◌, ◌/◌, ◌<◌, ◌≤◌, ◌^◌, ◌⊎◌, Option, Some, None, is_some}
use Rattle.std.specs.Prelude.{Bool, ◌==◌, ◌&&◌, ◌||◌, not, nat_lt, nat_le}
use Rattle.std.specs.Prelude.{List, [], ◌∷◌, if◌then◌else◌}
use Rattle.std.specs.List.{flat_map}
use Rattle.rt_lines.specs.declared.label.Label.{Label}
use Rattle.rt_lines.specs.declared.label.Label.TheVariants.{Load, Store, Field}
use Rattle.rt_tree.specs.Trees.{Node, Nodes, step_of}
use Rattle.rt_erase.specs.declared.row.Row.{Row}

-- the field of an edge; there is none before the start
abbrev pub row_of : Label × ℕ → List Row
row_of (Field bits (pos k), m) = record { offset = k; bits = bits; node = m } ∷ []
row_of other = []

-- the label of a field
abbrev pub label_of : Row → Label
label_of row = Field row.bits (pos row.offset)

-- by offset ascending, and at one offset by width falling
abbrev pub comes_before : Row → Row → Bool
comes_before a b = nat_lt a.offset b.offset || (a.offset == b.offset && nat_lt b.bits a.bits)

-- rows with one more, which comes before the first that it comes before
abbrev pub with_row : List Row → Row → List Row
with_row [] row = row ∷ []
with_row (first ∷ rows) row = if comes_before row first then row ∷ first ∷ rows else first ∷ with_row rows row

-- rows with others put in one by one
abbrev pub sorted_with : List Row → List Row → List Row
sorted_with rows [] = rows
sorted_with rows (row ∷ others) = sorted_with (with_row rows row) others

-- the rows that begin where the last one kept ends, or later
abbrev pub kept_from : ℕ → List Row → List Row
kept_from end [] = []
kept_from end (row ∷ rows) = if nat_le end row.offset then row ∷ kept_from (row.offset + row.bits / 8) rows else kept_from end rows

-- The fields of what a pointer leads to: by offset, and at one offset the widest first; one that overlaps the last one kept is left out.
abbrev pub fields_of : Node → List Row
fields_of node = kept_from 0 (sorted_with [] (flat_map row_of node.edges))

-- each row begins where the one before ends, or later; the first one at the end that is given, or later
abbrev pub AreApart : ℕ → List Row → Type 0
AreApart end [] = Unit {0}
AreApart end (row ∷ rows) = (end ≤ row.offset) × AreApart (row.offset + row.bits / 8) rows

-- the first of two that there is
abbrev pub first_some : Option ℕ → Option ℕ → Option ℕ
first_some None second = second
first_some (Some n) second = Some n

-- what a load or a store leads to
abbrev pub pointee_of : Nodes → ℕ → Option ℕ
pointee_of tree n = first_some (step_of tree n Load) (step_of tree n Store)

-- whether a value of so many bits at a node is a pointer
abbrev pub is_pointer : Nodes → ℕ → ℕ → Bool
is_pointer tree bits n = bits == 32 && is_some (pointee_of tree n)

-- the number of a scalar's name: the upper mark where that is not the top, else the lower one where that is not the bottom, else the top
abbrev pub scalar_number : ℕ → ℕ → Node → ℕ
scalar_number top bottom node =
    if not (node.up == top) then node.up else if not (node.low == bottom) then node.low else top

-- the field of a width at an offset
abbrev pub row_at : List Row → ℕ → ℕ → Option Row
row_at [] bits k = None
row_at (row ∷ rows) bits k = if row.offset == k && row.bits == bits then Some row else row_at rows bits k

-- a field of a width of labels, at an offset of labels, that leads to one of so many nodes
pub record IsRow (count : ℕ) (row : Row) : Type 0 where
  pub width : (row.bits ≡ 8) ⊎ ((row.bits ≡ 16) ⊎ (row.bits ≡ 32))
  pub offset : row.offset < 2 ^ 31
  pub node : row.node < count
