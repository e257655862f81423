-- The schemes of all procedures of an object.
use Rattle.std.specs.Prelude.{◌≡◌, ℕ, ◌<◌, Contains, Option, Some, None, List, flat_map, fold, get_or, length, slice_index_or, slice_set}
use Rattle.rt_lines.specs.declared.variable.Base.TheVariants as base
use Rattle.rt_lines.specs.declared.line.Line.{Line}
use Rattle.rt_lines.specs.Orders.{Below}
use Rattle.rt_rules.specs.Alike.{Alike, is_inside_for}
use Rattle.rt_rules.specs.Reduced.{IsReduced}
use Rattle.rt_lattice.specs.declared.roles.Roles.{Roles}
use Rattle.rt_elf.specs.Parts.{Parts as Object}
use Rattle.rt_proc.specs.declared.proc.Proc.{Proc}
use Rattle.rt_sigs.specs.Signatures.{Signature}
use Rattle.rt_scheme.specs.declared.scheme.Scheme.{Scheme}
use Rattle.rt_table.specs.Lists.{AreLinesOf}
use Rattle.rt_settle.specs.Chosen.{IsChosen}
use Rattle.rt_settle.specs.Groups.{AreSchemesOf, joined}

-- A procedure has a scheme, which tells whoever calls it the same as some lines under the order of constants, has nothing to spare, and is
-- the one that is chosen from them.
pub record HasSchemeOf (order : Below) (schemes : List (Option Scheme)) (lines : List Line) (number : ℕ) : Type 0 where
  pub scheme : Scheme
  pub is_scheme : slice_index_or schemes number None ≡ Some scheme
  pub own : scheme.base ≡ number
  pub alike : Alike order (is_inside_for number) lines scheme.lines
  pub reduced : IsReduced order (base.Proc number) scheme.lines
  pub chosen : IsChosen order number lines scheme.lines

-- each member of a group has a scheme of the lists of all members together, where callees outside the group have these schemes
pub record IsGroupSolved (object : Object) (roles : Roles) (order : Below) (procs : List Proc) (signatures : List Signature)
    (schemes : List (Option Scheme)) (group : List ℕ) : Type 0 where
  pub bodies : List (List Line)
  pub are_lines : AreLinesOf object roles procs signatures schemes group bodies
  pub solved : (i : ℕ) → i < length group →
      HasSchemeOf order schemes (flat_map (λ (lines : List Line). lines) bodies) (get_or group i 0)

-- so it is for each group
pub record AreSolved (object : Object) (roles : Roles) (order : Below) (procs : List Proc) (signatures : List Signature)
    (groups : List (List ℕ)) (schemes : List (Option Scheme)) : Type 0 where
  pub one_each : length schemes ≡ length procs
  pub each : (group : List ℕ) → Contains groups group → IsGroupSolved object roles order procs signatures schemes group

-- the schemes, with one at its procedure's number
abbrev pub with_scheme : List (Option Scheme) → Scheme → List (Option Scheme)
with_scheme schemes scheme = slice_set schemes scheme.base (Some scheme)

-- the old schemes, with one for each member of a group at its number, of the lists of all members together, where callees outside the group
-- have the old ones
pub record AddsSchemesOf (object : Object) (roles : Roles) (order : Below) (procs : List Proc) (signatures : List Signature)
    (group : List ℕ) (old new : List (Option Scheme)) : Type 0 where
  pub bodies : List (List Line)
  pub are_lines : AreLinesOf object roles procs signatures old group bodies
  pub found : List Scheme
  pub are_schemes : AreSchemesOf order group (joined bodies) found
  pub is : new ≡ fold with_scheme old found
