-- The rows that the table writes for a procedure are those that its template gives.
use Rattle.std.proofs.Common.{◌≡◌, ℕ, zero, suc, Bool, true, false, if◌then◌else◌, Option, Some, None, List, [], ◌∷◌, ◌++◌, map, refl}
use Rattle.std.proofs.Common.{sym, ap, ◌∙◌}
use Rattle.std.specs.Prelude.{slice_index_or}
use Rattle.rt_lines.specs.declared.label.Label.{Label}
use Rattle.rt_lines.specs.declared.variable.Base.{Base}
use Rattle.rt_lines.specs.declared.variable.Base.TheVariants as base
use Rattle.rt_lines.specs.declared.variable.Dtv.{Dtv}
use Rattle.rt_lines.specs.declared.line.Line.{Line}
use Rattle.rt_lines.specs.declared.line.Line.TheVariants as line
use Rattle.rt_lattice.specs.declared.roles.Roles.{Roles}
use Rattle.rt_proc.specs.declared.site.Callee.{Callee}
use Rattle.rt_proc.specs.declared.site.Callee.TheVariants as callee
use Rattle.rt_liveness.specs.declared.call.Call.{Call}
use Rattle.rt_liveness.specs.Programs.{Program, args_at, signature_at}
use Rattle.rt_scheme.specs.declared.scheme.Scheme as scheme
use Rattle.rt_scheme.specs.Instances.{instance_lines, instance_ports}
use Rattle.rt_scheme.specs.Ports.{label_at}
use Rattle.rt_rows.specs.declared.row.Root.TheVariants as root
use Rattle.rt_rows.specs.declared.row.Row.{Row}
use Rattle.rt_rows.specs.declared.row.Row.TheVariants as row
use Rattle.rt_table.specs.declared.item.Item.{Item}
use Rattle.rt_table.specs.declared.item.Item.TheVariants as item
use Rattle.rt_table.specs.Facts.{Knowledge}
use Rattle.rt_table.specs.Lists.{AreRowsOf, is_member, linked_by, linked_in, scheme_target, target_by, words_at}
use Rattle.rt_table.specs.Table.{Context, Member, Scheme, instance_rows, scheme_rows, target_at}
use Rattle.rt_table.specs.Table.{filled as table_filled, new_name as table_name, new_root as table_root, new_row as table_row}
use Rattle.rt_table.specs.Table.{new_term as table_term}
use Rattle.rt_unfold.specs.Unfolded.{Template, Nothing, called_rows, filled, new_name, new_root, new_row, new_term, rows_by}
use Rattle.rt_templates.specs.Tables.{HaveOwnBases, IsTemplateOf, called_in, called_of, given_by, item_of, lines_or_none, outside_by}
use Rattle.rt_templates.specs.Tables.{scheme_lines}

-- The rows of an instance.

module _ (context : Context) (site i : ℕ) where
  name-same : (n : ℕ) (o : Option Label) → table_name context site i n o ≡ new_name context.procedure site i n o
  name-same n (Some letter) = refl
  name-same n None = refl

  module _ (ports : List (Label × ℕ)) where
    root-same : (b : Base) → table_root context site i ports b ≡ new_root context.procedure site i ports b
    root-same (base.Proc p) = refl
    root-same (base.Global g) = refl
    root-same (base.Exist n) = ap root.Named (name-same n (label_at ports n))
    root-same (base.Outer n) = refl

    term-same : (x : Dtv) → table_term context site i ports x ≡ new_term context.procedure site i ports x
    term-same x = λ t. record { root = root-same x.base t; word = x.word }

    row-same : (l : Line) → table_row context site i ports l ≡ new_row context.procedure site i ports l
    row-same (line.Var x) = λ t. row.Var (term-same x t)
    row-same (line.Same x y) = λ t. row.Same (term-same x t) (term-same y t)
    row-same (line.Sub x y) = λ t. row.Sub (term-same x t) (term-same y t)
    row-same (line.Low k x) = λ t. row.Low k (term-same x t)
    row-same (line.Up x k) = λ t. row.Up (term-same x t) k

  rows-same : (own : ℕ) (lines : List Line) (covered : Option ℕ) →
      scheme_rows context site i (Scheme own lines covered) ≡ rows_by context.procedure site i own lines
  rows-same own lines covered = λ t. map (λ l. row-same (instance_ports own lines 0) l t) (instance_lines own lines 0)

-- Calls of sites.

module _ (program : Program) (known : List Knowledge) (schemes : List (Option scheme.Scheme)) (group : List ℕ)
    (own_bases : HaveOwnBases schemes) (context : Context) where
  abbrev table_at : ℕ → ℕ → Callee → Bool → List Row
  table_at site i c b = scheme_rows context site i (target_by program known schemes group c b)

  abbrev template_at : ℕ → ℕ → Callee → List Row
  template_at site i c = called_rows (scheme_lines schemes) context.procedure site i (called_of program schemes group c)

  outside-same : (site i q : ℕ) (o : Option scheme.Scheme) → slice_index_or schemes q None ≡ o →
      scheme_rows context site i (scheme_target None o) ≡ called_rows (scheme_lines schemes) context.procedure site i (outside_by q o)
  outside-same site i q None e = refl
  outside-same site i q (Some s) e =
      rows-same context site i s.base s.lines None
      ∙ (λ t. rows_by context.procedure site i (own_bases q s e t) (sym (ap lines_or_none e) t))

  given-same : (site i : ℕ) (covered : Option ℕ) (o : Option scheme.Scheme) →
      scheme_rows context site i (scheme_target covered o) ≡ called_rows (scheme_lines schemes) context.procedure site i (given_by o)
  given-same site i covered None = refl
  given-same site i covered (Some s) = rows-same context site i s.base s.lines covered

  callee-same : (site i : ℕ) (c : Callee) (b : Bool) → table_at site i c b ≡ template_at site i c
  callee-same site i (callee.Proc q) b = by (is_member group q)
    where
      by : (t : Bool) →
          scheme_rows context site i (if t then Member q (words_at known q) else scheme_target None (slice_index_or schemes q None))
          ≡ called_rows (scheme_lines schemes) context.procedure site i
          (if t then Nothing else outside_by q (slice_index_or schemes q None))
      by true = refl
      by false = outside-same site i q (slice_index_or schemes q None) refl
  callee-same site i (callee.Extern symbol) b = given-same site i (args_at program symbol) (signature_at program symbol)
  callee-same site i (callee.Unknown register) true = refl
  callee-same site i (callee.Unknown register) false = refl

  here-same : (site i : ℕ) (calls : List Call) (k : ℕ) →
      scheme_rows context site i (target_at (map (linked_by program known schemes group) calls) k)
      ≡ called_rows (scheme_lines schemes) context.procedure site i (called_in program schemes group calls k)
  here-same site i [] k = refl
  here-same site i (call ∷ calls) zero = callee-same site i call.callee call.is_plain
  here-same site i (call ∷ calls) (suc k) = here-same site i calls k

  calls-same : (site i : ℕ) (calls : List (List Call)) (place : ℕ) →
      scheme_rows context site i (target_at (slice_index_or (linked_in program known schemes group calls) place []) i)
      ≡ called_rows (scheme_lines schemes) context.procedure site i (called_in program schemes group (slice_index_or calls place []) i)
  calls-same site i [] place = refl
  calls-same site i (here ∷ calls) zero = here-same site i here i
  calls-same site i (here ∷ calls) (suc place) = calls-same site i calls place

-- Items.

items-same : (f g : ℕ → ℕ → List Row) (items : List Item) → ((site i : ℕ) → f site i ≡ g site i) →
    table_filled f items ≡ filled g (map item_of items)
items-same f g [] h = refl
items-same f g (item.Told x ∷ items) h = ap (λ rows. x ∷ rows) (items-same f g items h)
items-same f g (item.Instance site i ∷ items) h = λ t. h site i t ++ items-same f g items h t

-- Templates of rows.

-- the rows of a template of the procedure of a number
abbrev pub rows_with : (ℕ → List Line) → ℕ → Template → List Row
rows_with lines_of p template = filled (λ site i. called_rows lines_of p site i (template.called site i)) template.items

module _ (program : Program) (known : List Knowledge) (roles : Roles) (schemes : List (Option scheme.Scheme)) (group : List ℕ) where
  abbrev pub template_of : (p : ℕ) (rows : List Row) → AreRowsOf program known roles schemes group p rows → Template
  template_of p rows are = record {
    items = map item_of are.are_rows.items;
    called = λ site i. called_in program schemes group (slice_index_or are.is_context.knowledge.calls site []) i;
  }

  pub template-is : (p : ℕ) (rows : List Row) (are : AreRowsOf program known roles schemes group p rows) →
      IsTemplateOf program known roles schemes group p (template_of p rows are)
  template-is p rows are = record {
    context = are.context;
    is_context = are.is_context;
    items = are.are_rows.items;
    writes = are.are_rows.writes;
    items_are = refl;
    called_are = λ site i. refl;
  }

  pub rows-are : HaveOwnBases schemes → (p : ℕ) (rows : List Row) (are : AreRowsOf program known roles schemes group p rows) →
      rows ≡ rows_with (scheme_lines schemes) p (template_of p rows are)
  rows-are own_bases p rows are =
      are.are_rows.filled_in
      ∙ (items-same (instance_rows are.context)
      (λ site i. called_rows (scheme_lines schemes) are.context.procedure site i ((template_of p rows are).called site i))
      are.are_rows.items each
      ∙ ap (λ n. rows_with (scheme_lines schemes) n (template_of p rows are)) are.is_context.procedure)
    where
      each : (site i : ℕ) → instance_rows are.context site i
          ≡ called_rows (scheme_lines schemes) are.context.procedure site i ((template_of p rows are).called site i)
      each site i =
          ap (λ linked. scheme_rows are.context site i (target_at (slice_index_or linked site []) i)) are.is_context.linked
          ∙ calls-same program known schemes group own_bases are.context site i are.is_context.knowledge.calls site
