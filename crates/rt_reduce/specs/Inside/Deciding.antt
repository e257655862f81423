-- What is told of a line without saturating the others.
use Rattle.std.specs.Prelude.{◌≡◌, ℕ, ◌<◌, ◌+◌, List, [], ◌∷◌, All, Bool, true, false, Some, Contains, slice_get, slice_index_or}
use Rattle.rt_lines.specs.declared.variable.Dtv.{Dtv}
use Rattle.rt_lines.specs.declared.line.Line.{Line}
use Rattle.rt_lines.specs.declared.line.Line.TheVariants.{Low, Sub, Up}
use Rattle.rt_lines.specs.Lines.{HasConstantsBelow}
use Rattle.rt_lines.specs.Orders.{Below, IsAtOrBelow}
use Rattle.rt_rules.specs.Rules.{HasSide, Derivable}
use Rattle.rt_rules.specs.Laws.{NamesBase}
use Rattle.rt_named.specs.Naming.{named as named_by}
use Rattle.rt_outline.specs.declared.led.Led.{Led}
use Rattle.rt_outline.specs.declared.led.Led.TheVariants.{No, Yes}
use Rattle.rt_outline.specs.Lines.{Lined, standing}
use Rattle.rt_sat.specs.declared.increments.GrowingTable.{GrowingTable as Growing}
use Rattle.rt_sat.specs.Increments.{Tells as Increased}
use Rattle.rt_sure.specs.declared.fate.Fate.{Fate}
use Rattle.rt_sure.specs.declared.fate.Fate.TheVariants.{Stays}
use Rattle.rt_sure.specs.Fates.{fate_at, DerivesAll, HasBefore}
use Rattle.rt_sure.specs.Grounds.{Grounded, HasFlagged}

-- arcs of lines between the variables that they name
abbrev pub IsOwnOuter : List Line → Lined → Type 0
IsOwnOuter lines outer = (outer.lines ≡ lines) × (outer.named ≡ named_by lines [])

-- the same, but that they may name more
abbrev pub IsOuterOf : List Line → Lined → Type 0
IsOuterOf lines outer = (outer.lines ≡ lines) ×
    ((l : Line) (x : Dtv) → Contains lines l → HasSide l x → Contains outer.named x)

-- arcs of lines between the variables that they and others name, the given ones among these
pub record IsLowerWith (lines : List Line) (sides : List Dtv) (lower : Lined) : Type 0 where
  pub extra : List Dtv
  pub own : lower.lines ≡ lines
  pub names : lower.named ≡ named_by lines extra
  pub given : (x : Dtv) → Contains sides x → Contains extra x

-- the bases of variables between which arcs lead are named by their lines
abbrev pub DoName : Lined → Type 0
DoName lined = (x : Dtv) → Contains lined.named x → NamesBase lined.lines x.base

-- what a table says of variables whose bases lines name, these lines derive
pub record IsTableAbout (lines : List Line) (growing : Growing) : Type 0 where
  pub told : List Line
  pub tells : Increased told growing
  pub carried : (order : Below) (x y : Dtv) → NamesBase lines x.base → NamesBase lines y.base → Derivable order told (Sub x y) →
      Derivable order lines (Sub x y)

-- what is left are those of the lines of arcs whose flags are set, among them all before a place
pub record AreStanding (left : List Line) (stands : List Bool) (place : ℕ) (outer : Lined) : Type 0 where
  pub sides : (l : Line) (x : Dtv) → Contains outer.lines l → HasSide l x → Contains outer.named x
  pub left_are : left ≡ standing outer.lines stands
  pub before : (i : ℕ) → i < place → slice_index_or stands i false ≡ true

-- what is left are those of the lines whose flags are set, among them all before a place
abbrev pub AreWitnessed : List Line → List Line → List Bool → ℕ → Type 0
AreWitnessed lines left stands place = AreStanding left stands place (record { lines = lines; named = named_by lines [] })

-- what is left are those of the lines of arcs whose flags are set, and they name the sides of these and of another line
pub record IsOuterFor (left : List Line) (stands : List Bool) (line : Line) (outer : Lined) : Type 0 where
  pub left_are : left ≡ standing outer.lines stands
  pub sides : (l : Line) (x : Dtv) → Contains left l → HasSide l x → Contains outer.named x
  pub line_sides : (x : Dtv) → HasSide line x → Contains outer.named x

-- arcs between variables among which the sides of a line are, and constants of the lines that stand are below the order's count
pub record IsAskable (order : Below) (stands : List Bool) (line : Line) (outer : Lined) : Type 0 where
  pub sides : (x : Dtv) → HasSide line x → Contains outer.named x
  pub constants : All (HasConstantsBelow order.count) (standing outer.lines stands)

-- arcs of lines that what is left derives, between variables among which those of what is left are
pub record IsInnerFor (order : Below) (left : List Line) (inner : Lined) : Type 0 where
  pub derived : (l : Line) → Contains inner.lines l → Derivable order left l
  pub sides : (l : Line) (x : Dtv) → Contains left l → HasSide l x → Contains inner.named x

-- ways of lines that what is left derives, each line that is left among these, between variables among which those of what is left are
pub record IsWaysFor (order : Below) (left : List Line) (ways : Lined) : Type 0 where
  pub inner : IsInnerFor order left ways
  pub among : (l : Line) → Contains left l → Contains ways.lines l

-- arcs of lines, between the variables that these and another line name
pub record IsUpperWith (lines : List Line) (line : Line) (outer : Lined) : Type 0 where
  pub own : outer.lines ≡ lines
  pub sides : (l : Line) (x : Dtv) → Contains lines l → HasSide l x → Contains outer.named x
  pub line_sides : (x : Dtv) → HasSide line x → Contains outer.named x

-- the answer says no only of a line that isn't derivable, and yes only of one that is
pub record Tells (order : Below) (lines : List Line) (line : Line) (led : Led) : Type 0 where
  pub no : led ≡ No → Derivable order lines line → ⊥
  pub yes : led ≡ Yes → Derivable order lines line

-- what is left has the lines of the ground that stay, those before a place, and those that stand, and with the line at the place it
-- derives all
pub record IsGroundFor (order : Below) (left : List Line) (stands : List Bool) (line : Line) (place : ℕ) (ground : Grounded) : Type 0 where
  pub here : slice_get ground.lines place ≡ Some line
  pub staying : HasFlagged ground.lines ground.stays left
  pub before : HasBefore ground.lines place left
  pub stand : HasFlagged ground.lines stands left
  pub derived : DerivesAll order (line ∷ left) ground.lines

-- what is left are those of the lines of the ground that stand, among them those that stay and all before a place, and it derives all;
-- of the line at the place this says that it stays where it is known
pub record IsGroundAt (order : Below) (fate : Fate) (left : List Line) (stands : List Bool) (place : ℕ) (ground : Grounded) : Type 0 where
  pub stand : AreWitnessed ground.lines left stands (place + 1)
  pub staying : (i : ℕ) → slice_index_or ground.stays i false ≡ true → slice_index_or stands i false ≡ true
  pub known : slice_index_or ground.stays place false ≡ true → fate ≡ Stays
  pub made : IsInnerFor order left (record { lines = ground.lines; named = named_by ground.lines [] })

-- the ground of lines, of which those that stay are known to
pub record IsOwnGround (lines : List Line) (fates : List Fate) (ground : Grounded) : Type 0 where
  pub own : ground.lines ≡ lines
  pub staying : (i : ℕ) → slice_index_or ground.stays i false ≡ true → fate_at fates i ≡ Stays

-- the variables of lower bounds at or above a constant
pub record AreAbove (order : Below) (lines : List Line) (k : ℕ) (variables : List Dtv) : Type 0 where
  pub only : (z : Dtv) → Contains variables z → (bound : ℕ) × Contains lines (Low bound z) × IsAtOrBelow order k bound
  pub all : (bound : ℕ) (z : Dtv) → Contains lines (Low bound z) → IsAtOrBelow order k bound → Contains variables z

-- the variables of upper bounds at or below a constant
pub record AreBelow (order : Below) (lines : List Line) (k : ℕ) (variables : List Dtv) : Type 0 where
  pub only : (z : Dtv) → Contains variables z → (bound : ℕ) × Contains lines (Up z bound) × IsAtOrBelow order bound k
  pub all : (bound : ℕ) (z : Dtv) → Contains lines (Up z bound) → IsAtOrBelow order bound k → Contains variables z
