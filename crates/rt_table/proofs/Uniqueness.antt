-- The lists of a group are determined by the object, the signatures and the schemes of callees.
use Rattle.std.proofs.Common.{◌≡◌, ◌↔◌, ℕ, ◌<◌, Option, Some, None, List, [], ◌∷◌, ◌++◌, Contains, length, get_or}
use Rattle.std.proofs.Common.{refl, sym, ap, subst, ◌∙◌, arith, ext_get_or}
use Rattle.std.specs.Prelude.{slice_get}
use Rattle.std.proofs.lemmas.List.{same_lists}
use Rattle.std.proofs.lemmas.List.Kept.{AllPairs-from_increasing}
use Rattle.std.proofs.lemmas.Option.{none-some, same_Some}
use Rattle.rt_lines.specs.declared.line.Line.{Line}
use Rattle.rt_lattice.specs.declared.role.Role.{Role}
use Rattle.rt_lattice.specs.declared.roles.Roles.{Roles}
use Rattle.rt_elf.specs.Parts.{Parts as Object}
use Rattle.rt_proc.specs.declared.proc.Proc.{Proc}
use Rattle.rt_body.specs.Readings.{Reading}
use Rattle.rt_proc.proofs.Ordered.{one_ordered}
use Rattle.rt_body.proofs.Uniqueness.{one_reading}
use Rattle.rt_liveness.specs.Programs.{Program, IsProgram}
use Rattle.rt_liveness.proofs.Uniqueness.{one_calls_in}
use Rattle.rt_frame.specs.Frames.{IsFrameOf}
use Rattle.rt_frame.proofs.Uniqueness.{one_frame}
use Rattle.rt_scheme.specs.declared.scheme.Scheme.{Scheme}
use Rattle.rt_sigs.specs.Signatures.{Signature}
use Rattle.rt_rows.specs.declared.name.Name.{Name}
use Rattle.rt_rows.specs.declared.row.Row.{Row}
use Rattle.rt_rows.specs.Terms.{group_lines, row_names}
use Rattle.rt_table.specs.declared.item.Item.{Item}
use Rattle.rt_table.specs.declared.item.Item.TheVariants as item
use Rattle.rt_table.specs.Table.{Context, Writes, AreProcedureRows, items_from, filled, instance_rows, first_closed, merge_rows, told}
use Rattle.rt_table.specs.Table.Writes.{ends, places, writes, opens}
use Rattle.rt_table.specs.Facts.{Knowledge, TakesWord, IsKnown, AreKnown}
use Rattle.rt_table.specs.Lists.{IsContext, AreRowsOf, AreLinesOf, linked_in}
use Rattle.rt_table.specs.Laws.{OneList}
use Rattle.rt_base.proofs.Options.{one_some}

not_some : {X : Type 0} (o : Option X) (x : X) → o ≡ None → o ≡ Some x → ⊥
not_some o x e f = none-some x (sym e ∙ f)

module _ (context : Context) where
  pub one_writing : {open_names : List Name} {items first second : List Item} → Writes context open_names items first
      → Writes context open_names items second → first ≡ second
  one_writing ends ends = refl
  one_writing (places {site = site} {i = i} w) (places v) = ap (λ done. item.Instance site i ∷ done) (one_writing w v)
  one_writing (writes {x = x} none w) (writes none' v) = ap (λ done. item.Told x ∷ done) (one_writing w v)
  one_writing {open_names = open_names} (writes {x = x} none w) (opens {merge = merge} some v) =
      absurd (not_some (first_closed open_names (row_names x)) merge none some)
  one_writing {open_names = open_names} (opens {x = x} {merge = merge} some w) (writes none v) =
      absurd (not_some (first_closed open_names (row_names x)) merge none some)
  one_writing {open_names = open_names} {second = second} (opens {x = x} {items = items} {merge = merge} some w)
      (opens {merge = other} some' v) =
      let same : other ≡ merge = one_some (first_closed open_names (row_names x)) other merge some' some in
      one_writing w (subst (λ m. Writes context (m ∷ open_names) (told (merge_rows context m) ++ item.Told x ∷ items) second) same v)

-- so a procedure has its rows
pub one_rows : (context : Context) (first second : List Row) → AreProcedureRows context first → AreProcedureRows context second → first ≡ second
one_rows context first second a b =
    a.filled_in ∙ ap (filled (instance_rows context)) (one_writing context a.writes b.writes) ∙ sym b.filled_in

no_proc : Proc
no_proc = record { entry = record { section = 0; offset = 0 }; name = []; sites = [] }

-- the readings of an object's procedures
one_readings : (object : Object) (procs : List Proc) (signatures : List Signature) (first second : List Reading)
    → IsProgram (record { object = object; procs = procs; readings = first; signatures = signatures })
    → IsProgram (record { object = object; procs = procs; readings = second; signatures = signatures }) → first ≡ second
one_readings object procs signatures first second a b = same_lists first second (a.one_each ∙ sym b.one_each) (λ q reading less.
    let within : q < length procs = omega (arith, less, a.one_each) in
    one_reading object (get_or procs q no_proc) (get_or first q reading) (get_or second q reading)
    (a.readings q no_proc reading within) (b.readings q no_proc reading within))

-- what is known of a procedure
module _ (program : Program) (q : ℕ) (proc : Proc) (a b : Knowledge) (x : IsKnown program q proc a) (y : IsKnown program q proc b) where
  reading_same : a.reading ≡ b.reading
  reading_same = one_some (slice_get program.readings q) a.reading b.reading x.reading y.reading

  calls_same : a.calls ≡ b.calls
  calls_same = one_calls_in program q proc a.calls b.calls x.calls y.calls

  frame_same : a.frame ≡ b.frame
  frame_same = one_frame a.reading a.calls a.frame b.frame x.frame
      (subst (λ r. IsFrameOf r a.calls b.frame) (sym reading_same) (subst (λ c. IsFrameOf b.reading c b.frame) (sym calls_same) y.frame))

  words_same : a.words ≡ b.words
  words_same = one_ordered (λ j k. j < k) (λ j k up down. omega (arith, up, down)) (TakesWord a.reading a.frame) a.words b.words
      (AllPairs-from_increasing a.words x.words_ascending) x.words (AllPairs-from_increasing b.words y.words_ascending)
      (λ k. subst (λ r. Contains b.words k ↔ TakesWord r a.frame k) (sym reading_same)
      (subst (λ f. Contains b.words k ↔ TakesWord b.reading f k) (sym frame_same) (y.words k)))

  one_knowledge : a ≡ b
  one_knowledge = λ i. record { reading = reading_same i; calls = calls_same i; frame = frame_same i; words = words_same i }

pub one_known : (program : Program) (first second : List Knowledge) → AreKnown program first → AreKnown program second → first ≡ second
one_known program first second a b = same_lists first second (a.one_each ∙ sym b.one_each) (λ q knowledge less.
    one_knowledge program q (get_or program.procs q no_proc) (get_or first q knowledge) (get_or second q knowledge)
    (a.each q no_proc knowledge less) (b.each q no_proc knowledge (omega (arith, less, a.one_each, b.one_each))))

-- what the table is read against for a member of a group
module _ (program : Program) (known : List Knowledge) (roles : Roles) (schemes : List (Option Scheme)) (group : List ℕ) (number : ℕ) where
  one_context : (a b : Context) → IsContext program known roles schemes group number a
      → IsContext program known roles schemes group number b → a ≡ b
  one_context a b x y =
      let knowledge : x.knowledge ≡ y.knowledge = one_some (slice_get known number) x.knowledge y.knowledge x.is_known y.is_known in
      let procedure : a.procedure ≡ b.procedure = x.procedure ∙ sym y.procedure in
      let reading : a.reading ≡ b.reading = x.reading ∙ ap (λ (k : Knowledge). k.reading) knowledge ∙ sym y.reading in
      let frame : a.frame ≡ b.frame = x.frame ∙ ap (λ (k : Knowledge). k.frame) knowledge ∙ sym y.frame in
      let linked : a.linked ≡ b.linked = x.linked ∙ ap (λ (k : Knowledge). linked_in program known schemes group k.calls) knowledge ∙ sym y.linked in
      let is_code : (symbol : ℕ) → a.is_code symbol ≡ b.is_code symbol = λ symbol. x.is_code symbol ∙ sym (y.is_code symbol) in
      let constant : (role : Role) → a.constant role ≡ b.constant role = λ role. x.constant role ∙ sym (y.constant role) in
      λ i. record {
        procedure = procedure i;
        reading = reading i;
        frame = frame i;
        linked = linked i;
        is_code = λ symbol. is_code symbol i;
        constant = λ role. constant role i;
      }

  one_rows_of : (first second : List Row) → AreRowsOf program known roles schemes group number first
      → AreRowsOf program known roles schemes group number second → first ≡ second
  one_rows_of first second a b =
      one_rows a.context first second a.are_rows
      (subst (λ (c : Context). AreProcedureRows c second) (one_context b.context a.context b.is_context a.is_context) b.are_rows)

abbrev program_by : Object → List Proc → List Signature → List Reading → Program
program_by object procs signatures readings = record { object = object; procs = procs; readings = readings; signatures = signatures }

pub one_list : OneList
one_list object roles procs signatures schemes group first second a b = a.lines ∙ ap group_lines rows ∙ sym b.lines
  where
    readings : b.readings ≡ a.readings
    readings = one_readings object procs signatures b.readings a.readings b.are_known.is_program a.are_known.is_program

    known_there : AreKnown (program_by object procs signatures a.readings) b.known
    known_there = subst (λ r. AreKnown (program_by object procs signatures r) b.known) readings b.are_known

    known : b.known ≡ a.known
    known = one_known (program_by object procs signatures a.readings) b.known a.known known_there a.are_known

    rows_there : (i : ℕ) → i < length group
        → AreRowsOf (program_by object procs signatures a.readings) a.known roles schemes group (get_or group i 0) (get_or b.rows i [])
    rows_there i less =
        subst (λ k. AreRowsOf (program_by object procs signatures a.readings) k roles schemes group (get_or group i 0) (get_or b.rows i []))
        known
        (subst (λ r. AreRowsOf (program_by object procs signatures r) b.known roles schemes group (get_or group i 0) (get_or b.rows i []))
        readings (b.are_rows i less))

    rows : a.rows ≡ b.rows
    rows = ext_get_or [] a.rows b.rows (a.one_each ∙ sym b.one_each) (λ i less.
        let within : i < length group = omega (arith, less, a.one_each) in
        one_rows_of (program_by object procs signatures a.readings) a.known roles schemes group (get_or group i 0)
        (get_or a.rows i []) (get_or b.rows i []) (a.are_rows i within) (rows_there i within))
