-- The templates of the table's lists are determined, and so are the unfolded lists.
use Rattle.std.proofs.Common.{◌≡◌, ℕ, ◌<◌, Option, List, [], map, flat_map, get_or, length, sym, ap, subst, ◌∙◌, arith}
use Rattle.std.specs.Prelude.{Contains, slice_index_or}
use Rattle.std.proofs.lemmas.List.{same_lists}
use Rattle.std.proofs.lemmas.List.Elements.{Contains-get_or}
use Rattle.std.proofs.lemmas.Option.{same_Some}
use Rattle.rt_lines.specs.declared.line.Line.{Line}
use Rattle.rt_lattice.specs.declared.role.Role.{Role}
use Rattle.rt_lattice.specs.declared.roles.Roles.{Roles}
use Rattle.rt_elf.specs.Parts.{Parts as Object}
use Rattle.rt_components.specs.Groups.{group_at}
use Rattle.rt_proc.specs.declared.proc.Proc.{Proc}
use Rattle.rt_body.specs.Readings.{Reading}
use Rattle.rt_body.proofs.Uniqueness.{one_reading}
use Rattle.rt_liveness.specs.Programs.{IsProgram, Program}
use Rattle.rt_scheme.specs.declared.scheme.Scheme.{Scheme}
use Rattle.rt_scheme.specs.SplitExistentials.{split_for}
use Rattle.rt_sigs.specs.Signatures.{Signature}
use Rattle.rt_rows.specs.Terms.{group_lines}
use Rattle.rt_table.specs.Facts.{AreKnown, Knowledge}
use Rattle.rt_table.specs.Lists.{IsContext, linked_in}
use Rattle.rt_table.specs.Table.{Context, Writes, items_from}
use Rattle.rt_table.proofs.Uniqueness.{one_known, one_writing}
use Rattle.rt_unfold.specs.There.{OneLaw}
use Rattle.rt_unfold.specs.Unfolded.{Template, AreUnfolded, template_rows}
use Rattle.rt_unfold.proofs.Mapping.{map-same}
use Rattle.rt_templates.specs.Laws.{OneUnfolding}
use Rattle.rt_templates.specs.Tables.{AreTemplatesOf, IsTemplateOf, called_in, item_of}
use Rattle.rt_templates.proofs.TableRows.{rows_with}

-- One template of a member.

module _ (program : Program) (known : List Knowledge) (roles : Roles) (schemes : List (Option Scheme)) (group : List ℕ) (number : ℕ) where
  abbrev IsIts : Context → Type 0
  IsIts context = IsContext program known roles schemes group number context

  same-knowledge : (a b : Context) (x : IsIts a) (y : IsIts b) → x.knowledge ≡ y.knowledge
  same-knowledge a b x y = same_Some x.knowledge y.knowledge (sym x.is_known ∙ y.is_known)

  same-context : (a b : Context) → IsIts a → IsIts b → a ≡ b
  same-context a b x y =
      let knowledge : x.knowledge ≡ y.knowledge = same-knowledge a b x y in
      let procedure : a.procedure ≡ b.procedure = x.procedure ∙ sym y.procedure in
      let reading : a.reading ≡ b.reading = x.reading ∙ ap (λ (k : Knowledge). k.reading) knowledge ∙ sym y.reading in
      let frame : a.frame ≡ b.frame = x.frame ∙ ap (λ (k : Knowledge). k.frame) knowledge ∙ sym y.frame in
      let linked : a.linked ≡ b.linked =
      x.linked ∙ ap (λ (k : Knowledge). linked_in program known schemes group k.calls) knowledge ∙ sym y.linked in
      let is_code : (symbol : ℕ) → a.is_code symbol ≡ b.is_code symbol = λ symbol. x.is_code symbol ∙ sym (y.is_code symbol) in
      let constant : (role : Role) → a.constant role ≡ b.constant role = λ role. x.constant role ∙ sym (y.constant role) in
      λ i. record {
        procedure = procedure i;
        reading = reading i;
        frame = frame i;
        linked = linked i;
        is_code = λ symbol. is_code symbol i;
        constant = λ role. constant role i;
      }

  one-template : (s t : Template) → IsTemplateOf program known roles schemes group number s
      → IsTemplateOf program known roles schemes group number t → s ≡ t
  one-template s t x y =
      let context : y.context ≡ x.context = same-context y.context x.context y.is_context x.is_context in
      let knowledge : x.is_context.knowledge ≡ y.is_context.knowledge =
      same-knowledge x.context y.context x.is_context y.is_context in
      let written : x.items ≡ y.items = one_writing x.context x.writes
      (subst (λ (c : Context). Writes c [] (items_from c 0 c.reading.actions) y.items) context y.writes) in
      let items : s.items ≡ t.items = x.items_are ∙ ap (map item_of) written ∙ sym y.items_are in
      let called : (site i : ℕ) → s.called site i ≡ t.called site i = λ site i.
      x.called_are site i
      ∙ ap (λ (k : Knowledge). called_in program schemes group (slice_index_or k.calls site []) i) knowledge
      ∙ sym (y.called_are site i) in
      λ k. record { items = items k; called = λ site i. called site i k }

-- One family of templates.

no_proc : Proc
no_proc = record { entry = record { section = 0; offset = 0 }; name = []; sites = [] }

module _ (object : Object) (roles : Roles) (procs : List Proc) (signatures : List Signature) (schemes : List (Option Scheme))
    (groups : List (List ℕ)) (templates others : ℕ → Template) where
  abbrev program_by : List Reading → Program
  program_by readings = record { object = object; procs = procs; readings = readings; signatures = signatures }

  one_readings : (first second : List Reading) → IsProgram (program_by first) → IsProgram (program_by second) → first ≡ second
  one_readings first second a b = same_lists first second (a.one_each ∙ sym b.one_each) (λ q reading less.
      let within : q < length procs = omega (arith, less, a.one_each) in
      one_reading object (get_or procs q no_proc) (get_or first q reading) (get_or second q reading)
      (a.readings q no_proc reading within) (b.readings q no_proc reading within))

  one-templates : AreTemplatesOf object roles procs signatures schemes groups templates
      → AreTemplatesOf object roles procs signatures schemes groups others → (group : List ℕ) (p : ℕ) → Contains groups group
      → Contains group p → templates p ≡ others p
  one-templates first second group p c d =
      let a = first.each group c in
      let b = second.each group c in
      let readings : b.0 ≡ a.0 = one_readings b.0 a.0 b.2.is_program a.2.is_program in
      let known : b.1 ≡ a.1 = one_known (program_by a.0) b.1 a.1 (subst (λ r. AreKnown (program_by r) b.1) readings b.2) a.2 in
      one-template (program_by a.0) a.1 roles schemes group p (templates p) (others p) (a.3 p d)
      (subst (λ k. IsTemplateOf (program_by a.0) k roles schemes group p (others p)) known
      (subst (λ r. IsTemplateOf (program_by r) b.1 roles schemes group p (others p)) readings (b.3 p d)))

  -- so the others unfold to the same
  unfolded-by : ((group : List ℕ) (p : ℕ) → Contains groups group → Contains group p → templates p ≡ others p) →
      (unfolded : ℕ → List Line) → AreUnfolded groups others unfolded → AreUnfolded groups templates unfolded
  unfolded-by same unfolded are = record {
    each = λ group p c d.
        are.each group p c d
        ∙ ap (λ rows. flat_map (λ (lines : List Line). lines) (group_lines rows))
        (map-same (λ q. template_rows (λ r. split_for r (unfolded r)) others q)
        (λ q. template_rows (λ r. split_for r (unfolded r)) templates q) group (λ q e. ap (rows_with (λ r. split_for r (unfolded r)) q) (sym (same group q c e))));
  }

pub one_unfolding : OneLaw → OneUnfolding
one_unfolding one_law object roles procs signatures schemes groups templates others first second are_groups a b x y p within =
    let s = (are_groups.nodes p).0 within in
    one_law groups templates first second a.are_templates x
    (unfolded-by object roles procs signatures schemes groups templates others
    (one-templates object roles procs signatures schemes groups templates others a.are_of b.are_of) second y)
    (group_at groups s.0) p (Contains-get_or groups s.0 [] s.1) s.2
