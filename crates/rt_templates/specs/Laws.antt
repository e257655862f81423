-- What the schemes of an object's procedures say, down to the last callee.
use Rattle.std.specs.Prelude.{◌≡◌, ℕ, ◌<◌, Option, List, map, length, Contains}
use Rattle.rt_lines.specs.declared.label.Label.{Label}
use Rattle.rt_lines.specs.declared.line.Line.{Line}
use Rattle.rt_lines.specs.Orders.{Below}
use Rattle.rt_rules.specs.Alike.{Alike, is_inside_for}
use Rattle.rt_lattice.specs.declared.roles.Roles.{Roles}
use Rattle.rt_elf.specs.Parts.{Parts as Object}
use Rattle.rt_proc.specs.declared.proc.Proc.{Proc}
use Rattle.rt_calls.specs.Calls.{AreGroupsOf}
use Rattle.rt_scheme.specs.declared.scheme.Scheme.{Scheme}
use Rattle.rt_scheme.specs.Ports.{names_label}
use Rattle.rt_scheme.specs.SplitExistentials.{split_for}
use Rattle.rt_sigs.specs.Signatures.{AreSignatures, Signature}
use Rattle.rt_rows.specs.Terms.{group_lines}
use Rattle.rt_table.specs.Lists.{AreLinesOf}
use Rattle.rt_solve.specs.Solved.{AreSolved}
use Rattle.rt_unfold.specs.Unfolded.{Template, AreTemplates, AreUnfolded, template_rows}
use Rattle.rt_templates.specs.Tables.{AreTemplatesOf, scheme_lines}

-- The table's lists of the members of groups are made of templates: those of a group are what its members' templates give where each
-- procedure outside the group has the lines of its scheme. Callees come first.
pub record AreMadeOf (object : Object) (roles : Roles) (procs : List Proc) (signatures : List Signature) (schemes : List (Option Scheme))
    (groups : List (List ℕ)) (templates : ℕ → Template) : Type 0 where
  pub are_of : AreTemplatesOf object roles procs signatures schemes groups templates
  pub are_templates : AreTemplates groups templates
  pub lists : (group : List ℕ) → Contains groups group → AreLinesOf object roles procs signatures schemes group
      (group_lines (map (λ p. template_rows (scheme_lines schemes) templates p) group))

-- The schemes of procedures say what all of the code below them says. The table's lists are made of templates, of which there are unfolded
-- lists: the list of each procedure has, in place of the instance of a callee's scheme, an instance of the callee's own unfolded list, and
-- so on down to procedures that call none but those of their group and functions outside. Under the order of constants, a caller can
-- derive from a procedure's scheme what it can from the procedure's unfolded list, and no more; and both name the same arguments and
-- results, so that an instance of either has the same ports.
pub record SayAllBelow (object : Object) (roles : Roles) (order : Below) (procs : List Proc) (signatures : List Signature)
    (schemes : List (Option Scheme)) (groups : List (List ℕ)) : Type 0 where
  pub templates : ℕ → Template
  pub made : AreMadeOf object roles procs signatures schemes groups templates
  pub unfolded : ℕ → List Line
  pub are_unfolded : AreUnfolded groups templates unfolded
  pub alike : (p : ℕ) → p < length procs → Alike order (is_inside_for p) (unfolded p) (scheme_lines schemes p)
  pub labels : (p : ℕ) (l : Label) → p < length procs
      → names_label p (split_for p (unfolded p)) l ≡ names_label p (scheme_lines schemes p) l

-- the schemes that are solved do
abbrev pub SolvedLaw : Type 0
SolvedLaw =
    (object : Object) (roles : Roles) (order : Below) (procs : List Proc) (signatures : List Signature) (groups : List (List ℕ))
    (schemes : List (Option Scheme)) (count : ℕ) →
    AreGroupsOf procs groups → AreSignatures count signatures → AreSolved object roles order procs signatures groups schemes →
    SayAllBelow object roles order procs signatures schemes groups

-- and each procedure has one unfolded list, whatever templates are those of the table's lists
abbrev pub OneUnfolding : Type 0
OneUnfolding =
    (object : Object) (roles : Roles) (procs : List Proc) (signatures : List Signature) (schemes : List (Option Scheme))
    (groups : List (List ℕ)) (templates others : ℕ → Template) (first second : ℕ → List Line) → AreGroupsOf procs groups →
    AreMadeOf object roles procs signatures schemes groups templates → AreMadeOf object roles procs signatures schemes groups others →
    AreUnfolded groups templates first → AreUnfolded groups others second → (p : ℕ) → p < length procs → first p ≡ second p
