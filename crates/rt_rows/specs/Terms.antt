-- Lines before their existentials have numbers: an existential is named by what it stands for.
use Rattle.std.specs.Prelude.{◌≡◌, ℕ, ◌<◌, ◌⊎◌, Bool, true, false, IsTrue, Contains, List, [], ◌∷◌, ◌++◌, map, fold, flat_map}
use Rattle.std.specs.List.{position_or_len}
use Rattle.rt_lines.specs.Numbering.{deduplicated}
use Rattle.indexmap.specs.IndexSet.{insert_key}
use Rattle.rt_lines.specs.declared.label.Label.{Label}
use Rattle.rt_lines.specs.declared.variable.Base.{Base}
use Rattle.rt_lines.specs.declared.variable.Base.TheVariants as base
use Rattle.rt_lines.specs.declared.variable.Dtv.{Dtv}
use Rattle.rt_lines.specs.declared.line.Line.{Line}
use Rattle.rt_lines.specs.declared.line.Line.TheVariants as line
use Rattle.rt_scheme.specs.Schemes.{is_interface}
use Rattle.rt_rows.specs.declared.name.Name.{Name}
use Rattle.rt_rows.specs.declared.row.Root.{Root}
use Rattle.rt_rows.specs.declared.row.Root.TheVariants as root
use Rattle.rt_rows.specs.declared.row.Term.{Term}
use Rattle.rt_rows.specs.declared.row.Row.{Row}
use Rattle.rt_rows.specs.declared.row.Row.TheVariants as row
use Rattle.rt_rows.specs.contracts.name.NamePartialEq.TheImpl as the_name

-- two names are equal, as `==` computes it
abbrev pub name_eq : Name → Name → Bool
name_eq = (the_name.ghosts).eq

-- the term of what an existential stands for
abbrev pub named : Name → Term
named name = record { root = root.Named name; word = [] }

-- the term with more letters
abbrev pub along : Term → List Label → Term
along x letters = record { root = x.root; word = x.word ++ letters }

-- the names of a row, its left side before its right
abbrev pub root_names : Root → List Name
root_names (root.Proc p) = []
root_names (root.Global g) = []
root_names (root.Outer n) = []
root_names (root.Named name) = name ∷ []

abbrev pub row_names : Row → List Name
row_names (row.Var x) = root_names x.root
row_names (row.Same x y) = root_names x.root ++ root_names y.root
row_names (row.Sub x y) = root_names x.root ++ root_names y.root
row_names (row.Low k x) = root_names x.root
row_names (row.Up x k) = root_names x.root

-- the names of rows, each once, in the order in which they first stand
abbrev pub names_of : List Row → List Name
names_of rows = fold (insert_key name_eq) [] (flat_map row_names rows)

-- the line of a row, where existentials have the places of their names as numbers
abbrev pub root_base : List Name → Root → Base
root_base names (root.Proc p) = base.Proc p
root_base names (root.Global g) = base.Global g
root_base names (root.Outer n) = base.Outer n
root_base names (root.Named name) = base.Exist (position_or_len (name_eq name) names)

abbrev pub variable_of : List Name → Term → Dtv
variable_of names x = record { base = root_base names x.root; word = x.word }

abbrev pub line_of : List Name → Row → Line
line_of names (row.Var x) = line.Var (variable_of names x)
line_of names (row.Same x y) = line.Same (variable_of names x) (variable_of names y)
line_of names (row.Sub x y) = line.Sub (variable_of names x) (variable_of names y)
line_of names (row.Low k x) = line.Low k (variable_of names x)
line_of names (row.Up x k) = line.Up (variable_of names x) k

abbrev pub lines_by : List Name → List Row → List Line
lines_by names rows = map (line_of names) rows

-- The lines of some lists of rows together: existentials are numbered from 0 in the order in which their names first stand in
-- all of them, and each list has each of its lines once, where it first stands.
abbrev pub group_lines : List (List Row) → List (List Line)
group_lines groups = map (λ rows. deduplicated (lines_by (names_of (flat_map (λ each. each) groups)) rows)) groups

-- the constants of rows are below a count
abbrev pub HasConstantBelow : ℕ → Row → Type 0
HasConstantBelow count (row.Var x) = Unit {0}
HasConstantBelow count (row.Same x y) = Unit {0}
HasConstantBelow count (row.Sub x y) = Unit {0}
HasConstantBelow count (row.Low k x) = k < count
HasConstantBelow count (row.Up x k) = k < count

-- a side of the row belongs to the root
abbrev pub HasRoot : Row → Root → Type 0
HasRoot (row.Var x) r = x.root ≡ r
HasRoot (row.Same x y) r = (x.root ≡ r) ⊎ (y.root ≡ r)
HasRoot (row.Sub x y) r = (x.root ≡ r) ⊎ (y.root ≡ r)
HasRoot (row.Low k x) r = x.root ≡ r
HasRoot (row.Up x k) r = x.root ≡ r

-- a side of one of the rows belongs to the root
abbrev pub NamesRoot : List Row → Root → Type 0
NamesRoot rows r = (row : Row) × Contains rows row × HasRoot row r

-- a base that lines of the rows may name: a procedure, a global or a base of the outside to which a side belongs, or an existential
abbrev pub IsBaseOf : List Row → Base → Type 0
IsBaseOf rows (base.Proc p) = NamesRoot rows (root.Proc p)
IsBaseOf rows (base.Global g) = NamesRoot rows (root.Global g)
IsBaseOf rows (base.Exist n) = Unit {0}
IsBaseOf rows (base.Outer n) = NamesRoot rows (root.Outer n)

-- a term that a group's lines may have: of a procedure, whose argument or result comes first, of a global, or of what an existential
-- stands for
abbrev pub is_group_side : Root → List Label → Bool
is_group_side (root.Proc p) word = is_interface word
is_group_side (root.Global g) word = true
is_group_side (root.Outer n) word = false
is_group_side (root.Named name) word = true

abbrev pub IsGroupTerm : Term → Type 0
IsGroupTerm x = IsTrue (is_group_side x.root x.word)

-- a row of such terms
abbrev pub IsGroupRow : Row → Type 0
IsGroupRow (row.Var x) = IsGroupTerm x
IsGroupRow (row.Same x y) = IsGroupTerm x × IsGroupTerm y
IsGroupRow (row.Sub x y) = IsGroupTerm x × IsGroupTerm y
IsGroupRow (row.Low k x) = IsGroupTerm x
IsGroupRow (row.Up x k) = IsGroupTerm x
