-- The templates of a table's lists.
use Rattle.std.specs.Prelude.{◌≡◌, ℕ, zero, suc, if◌then◌else◌, Option, Some, None, List, [], ◌∷◌, length, map, Contains, slice_index_or}
use Rattle.std.specs.List.Sorted.{IsStrictlyIncreasing}
use Rattle.rt_lines.specs.declared.line.Line.{Line}
use Rattle.rt_lattice.specs.declared.roles.Roles.{Roles}
use Rattle.rt_elf.specs.Parts.{Parts as Object}
use Rattle.rt_proc.specs.declared.proc.Proc.{Proc}
use Rattle.rt_calls.specs.Calls.{AreGroupsOf}
use Rattle.rt_proc.specs.declared.site.Callee.{Callee}
use Rattle.rt_proc.specs.declared.site.Callee.TheVariants as callee
use Rattle.rt_body.specs.Readings.{Reading}
use Rattle.rt_liveness.specs.declared.call.Call.{Call}
use Rattle.rt_liveness.specs.Programs.{Program, signature_at}
use Rattle.rt_scheme.specs.declared.scheme.Scheme.{Scheme}
use Rattle.rt_sigs.specs.Signatures.{AreSignatures, Signature}
use Rattle.rt_rows.specs.Terms.{group_lines}
use Rattle.rt_table.specs.declared.item.Item.{Item as TableItem}
use Rattle.rt_table.specs.declared.item.Item.TheVariants as item
use Rattle.rt_table.specs.Facts.{AreKnown, Knowledge}
use Rattle.rt_table.specs.Lists.{AreLinesOf, IsContext, is_member}
use Rattle.rt_table.specs.Table.{Context, Writes, items_from}
use Rattle.rt_unfold.specs.Unfolded.{Item, Plain, Instance, Called, Outside, Given, Nothing, Template, AreTemplates, template_rows}

-- an item of the table, as one of a template
abbrev pub item_of : TableItem → Item
item_of (item.Told x) = Plain x
item_of (item.Instance site i) = Instance site i

-- a procedure outside the group, where it has a scheme
abbrev pub outside_by : ℕ → Option Scheme → Called
outside_by q None = Nothing
outside_by q (Some s) = Outside q

-- the lines of a scheme, where there is one
abbrev pub given_by : Option Scheme → Called
given_by None = Nothing
given_by (Some s) = Given s.base s.lines

-- what a call of a callee makes an instance of
abbrev pub called_of : Program → List (Option Scheme) → List ℕ → Callee → Called
called_of program schemes group (callee.Proc q) = if is_member group q then Nothing else outside_by q (slice_index_or schemes q None)
called_of program schemes group (callee.Extern symbol) = given_by (signature_at program symbol)
called_of program schemes group (callee.Unknown register) = Nothing

-- the call of a number among those of a site
abbrev pub called_in : Program → List (Option Scheme) → List ℕ → List Call → ℕ → Called
called_in program schemes group [] i = Nothing
called_in program schemes group (call ∷ more) zero = called_of program schemes group call.callee
called_in program schemes group (call ∷ more) (suc i) = called_in program schemes group more i

-- the lines of a procedure's scheme
abbrev pub lines_or_none : Option Scheme → List Line
lines_or_none None = []
lines_or_none (Some s) = s.lines

abbrev pub scheme_lines : List (Option Scheme) → ℕ → List Line
scheme_lines schemes q = lines_or_none (slice_index_or schemes q None)

-- each scheme is that of the procedure whose number has it
abbrev pub HaveOwnBases : List (Option Scheme) → Type 0
HaveOwnBases schemes = (q : ℕ) (s : Scheme) → slice_index_or schemes q None ≡ Some s → s.base ≡ q

-- the template of the member of a number: the items that the table writes, and what its calls make instances of
pub record IsTemplateOf (program : Program) (known : List Knowledge) (roles : Roles) (schemes : List (Option Scheme)) (group : List ℕ)
    (number : ℕ) (template : Template) : Type 0 where
  pub context : Context
  pub is_context : IsContext program known roles schemes group number context
  pub items : List TableItem
  pub writes : Writes context [] (items_from context 0 context.reading.actions) items
  pub items_are : template.items ≡ map item_of items
  pub called_are : (site i : ℕ) → template.called site i
      ≡ called_in program schemes group (slice_index_or is_context.knowledge.calls site []) i

-- the templates of the members of all groups
pub record AreTemplatesOf (object : Object) (roles : Roles) (procs : List Proc) (signatures : List Signature)
    (schemes : List (Option Scheme)) (groups : List (List ℕ)) (templates : ℕ → Template) : Type 0 where
  pub each : (group : List ℕ) → Contains groups group → (readings : List Reading) × (known : List Knowledge)
      × AreKnown (record { object = object; procs = procs; readings = readings; signatures = signatures }) known
      × ((p : ℕ) → Contains group p
      → IsTemplateOf (record { object = object; procs = procs; readings = readings; signatures = signatures }) known roles schemes group p
      (templates p))

-- the templates of a table's lists are such, with callees first
abbrev pub TemplatesLaw : Type 0
TemplatesLaw =
    (object : Object) (roles : Roles) (procs : List Proc) (signatures : List Signature) (schemes : List (Option Scheme))
    (groups : List (List ℕ)) (templates : ℕ → Template) (count : ℕ) →
    AreGroupsOf procs groups → AreSignatures count signatures → length schemes ≡ length procs →
    AreTemplatesOf object roles procs signatures schemes groups templates → AreTemplates groups templates

-- the lists of a group are made of templates of its members, where each scheme is that of its own procedure
abbrev pub ListsLaw : Type 0
ListsLaw =
    (object : Object) (roles : Roles) (procs : List Proc) (signatures : List Signature) (schemes : List (Option Scheme)) (group : List ℕ)
    (bodies : List (List Line)) →
    IsStrictlyIncreasing group → HaveOwnBases schemes → AreLinesOf object roles procs signatures schemes group bodies →
    (templates : ℕ → Template) × AreTemplatesOf object roles procs signatures schemes (group ∷ []) templates
    × (bodies ≡ group_lines (map (λ p. template_rows (scheme_lines schemes) templates p) group))
