-- The schemes of a group's members.
use Rattle.std.specs.Prelude.{◌≡◌, ℕ, ◌<◌, List, All, flat_map, length, slice_index_or}
use Rattle.rt_lines.specs.declared.variable.Base.TheVariants.{Proc, Global}
use Rattle.rt_lines.specs.declared.line.Line.{Line}
use Rattle.rt_lines.specs.Lines.{HasConstantsBelow}
use Rattle.rt_lines.specs.Orders.{Below}
use Rattle.rt_rules.specs.Alike.{Alike, is_inside_for}
use Rattle.rt_rules.specs.Laws.{NamesBase}
use Rattle.rt_rules.specs.Reduced.{IsReduced}
use Rattle.rt_scheme.specs.declared.scheme.Scheme.{Scheme}
use Rattle.rt_settle.specs.Chosen.{IsChosen, IsChosenFrom}

-- the lines of all lists, in their order
abbrev pub joined : List (List Line) → List Line
joined lists = flat_map (λ list. list) lists

-- tells the outside of the procedure the same under the order of constants, with no constant and no global more
pub record TellsOutside (order : Below) (own : ℕ) (first second : List Line) : Type 0 where
  pub alike : Alike order (is_inside_for own) first second
  pub constants : (count : ℕ) → All (HasConstantsBelow count) first → All (HasConstantsBelow count) second
  pub globals : (n : ℕ) → NamesBase second (Global n) → NamesBase first (Global n)

-- the scheme of the procedure that is chosen: it tells the outside of it what the lines tell, and has nothing to spare
pub record IsSchemeFor (order : Below) (own : ℕ) (lines : List Line) (scheme : Scheme) : Type 0 where
  pub base_is : scheme.base ≡ own
  pub tells : TellsOutside order own lines scheme.lines
  pub reduced : IsReduced order (Proc own) scheme.lines
  pub chosen : IsChosen order own lines scheme.lines

-- one scheme for each member, in their order: the one that is chosen, which tells the outside of it what the lines tell
pub record AreSchemesOf (order : Below) (members : List ℕ) (lines : List Line) (schemes : List Scheme) : Type 0 where
  pub one_each : length schemes ≡ length members
  pub each : (i : ℕ) (d : Scheme) → i < length members →
      IsSchemeFor order (slice_index_or members i 0) lines (slice_index_or schemes i d)

-- the scheme of the procedure that is chosen from the settled lines of its group, which tells the outside of it what they tell
pub record IsSchemeFrom (order : Below) (own : ℕ) (settled : List Line) (scheme : Scheme) : Type 0 where
  pub base_is : scheme.base ≡ own
  pub tells : TellsOutside order own settled scheme.lines
  pub chosen : IsChosenFrom order own settled scheme.lines

-- such a scheme for each member, in their order
pub record AreSchemesFrom (order : Below) (members : List ℕ) (settled : List Line) (schemes : List Scheme) : Type 0 where
  pub one_each : length schemes ≡ length members
  pub each : (i : ℕ) (d : Scheme) → i < length members →
      IsSchemeFrom order (slice_index_or members i 0) settled (slice_index_or schemes i d)
