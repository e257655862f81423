-- What is written for an object is one text.
use Rattle.std.proofs.Common.{◌≡◌, ℕ, ◌<◌, ◌≤◌, ◌⊎◌, inl, inr, Option, Some, None, List, [], ◌∷◌, Contains, map, length, get_or, refl, sym, ap, subst, ◌∙◌, arith, ext_get_or}
use Rattle.std.specs.Prelude.{slice_index_or}
use Rattle.std.specs.List.Sorted.{IsStrictlyIncreasing}
use Rattle.std.proofs.lemmas.Bool.{cases_order}
use Rattle.std.proofs.lemmas.List.{get_or_default}
use Rattle.std.proofs.lemmas.Map.Keys.{sorted_from_strictly_increasing, below_from_sorted}
use Rattle.rt_lines.specs.declared.line.Line.{Line}
use Rattle.rt_lines.specs.Orders.{IsAtOrBelow}
use Rattle.rt_lattice.specs.Bounds.{IsAntisymmetric}
use Rattle.rt_lattice.specs.Lattices.{NamedOrder, IsBelow, size_of}
use Rattle.rt_components.specs.Groups.{group_at}
use Rattle.rt_components.proofs.Unique.{rises, same_ascending, same_group}
use Rattle.rt_elf.specs.declared.section.Section.{Section}
use Rattle.rt_elf.specs.declared.symbol.Symbol.{Symbol}
use Rattle.rt_elf.specs.declared.reloc.Reloc.{Reloc}
use Rattle.rt_elf.specs.Parts.{Parts as Object}
use Rattle.rt_proc.specs.declared.proc.Proc.{Proc}
use Rattle.rt_proc.specs.Laws.{IsLawOfOneList}
use Rattle.rt_calls.specs.Calls.{Calls}
use Rattle.rt_sigs.specs.Signatures.{Signature}
use Rattle.rt_liveness.specs.Ends.{ends_of}
use Rattle.rt_table.specs.Laws.{OneList}
use Rattle.rt_table.specs.Lists.{AreLinesOf}
use Rattle.rt_solve.specs.Laws.{OneSolution}
use Rattle.rt_tree.specs.Trees.{Nodes}
use Rattle.rt_sketch.specs.Laws.{OneSketch}
use Rattle.rt_sketch.specs.Sketches.{IsSketchOf}
use Rattle.rt_cdecl.specs.Texts.{decls_text}
use Rattle.rt_header.specs.Headers.{IsHeaderOf}
use Rattle.rt_header.specs.Laws.{OneHeaderOf}
use Rattle.rt_scheme.specs.declared.scheme.Scheme.{Scheme}
use Rattle.rt_scheme.specs.declared.report.Entry.{Entry}
use Rattle.rt_scheme.specs.declared.report.Report.{Report}
use Rattle.rt_scheme.specs.Reports.{report_text}
use Rattle.rt_run.specs.declared.content.Content.{Content}
use Rattle.rt_run.specs.declared.content.Content.TheVariants.{Header, Lines, Sketches}
use Rattle.rt_run.specs.declared.content.Told.{Told}
use Rattle.rt_run.specs.declared.content.Told.TheVariants.{Constraints, Schemes}
use Rattle.rt_run.specs.Globals.{AreGlobals, global_of}
use Rattle.rt_run.specs.Headers.{AreSketches, IsHeaderTextOf, Numbered, numbered_at}
use Rattle.rt_run.specs.Laws.{OneText}
use Rattle.rt_run.specs.Objects.{IsInProfile, IsReadAs}
use Rattle.rt_run.specs.Reports.{AreConstraints, AreEntries, AreSchemes, IsEntryOf, IsReportOf, IsRightOf, IsScheme, IsTold}
use Rattle.rt_run.specs.Sketches.{IsSketch, IsSketchesOf, sketches_text}
use Rattle.rt_run.specs.Texts.{IsTextOf}

-- numbers at two places of a list that rises differ
one_place : (xs : List ℕ) → IsStrictlyIncreasing xs → (i j : ℕ) → i < length xs → j < length xs → get_or xs i 0 ≡ get_or xs j 0 → i ≡ j
one_place xs up i j hi hj same = by (cases_order i j)
  where
    by : (i ≡ j) ⊎ ((i < j) ⊎ (j < i)) → i ≡ j
    by (inl e) = e
    by (inr (inl less)) = absurd (omega (arith, same, below_from_sorted xs i j 0 (sorted_from_strictly_increasing xs up) less hj))
    by (inr (inr less)) = absurd (omega (arith, same, below_from_sorted xs j i 0 (sorted_from_strictly_increasing xs up) less hi))

-- a look-up finds one scheme
one_found : (o : Option Scheme) (s t : Scheme) → o ≡ Some s → o ≡ Some t → s ≡ t
one_found None s t e f = cc
one_found (Some u) s t e f = cc

-- some procedure of a list that has one
some_of : (procs : List Proc) (n : ℕ) → n < length procs → Proc
some_of [] n h = absurd (omega (arith, h))
some_of (proc ∷ procs) n h = proc

abbrev entry_by : ℕ → ℕ → ℕ → List ℕ → List Line → Entry
entry_by number section offset name lines = record { number = number; place = record { section = section; offset = offset }; name = name; lines = lines }

-- entries of one procedure with the same lines are one
one_entry : (number : ℕ) (proc : Proc) (a b : Entry) → IsEntryOf number proc a → IsEntryOf number proc b → a.lines ≡ b.lines → a ≡ b
one_entry number proc a b x y lines =
    ap (λ n. entry_by n a.place.section a.place.offset a.name a.lines) (x.has_number ∙ sym y.has_number)
    ∙ (ap (λ s. entry_by b.number s a.place.offset a.name a.lines) (x.section ∙ sym y.section)
    ∙ (ap (λ o. entry_by b.number b.place.section o a.name a.lines) (x.offset ∙ sym y.offset)
    ∙ (ap (λ n. entry_by b.number b.place.section b.place.offset n a.lines) (x.name ∙ sym y.name)
    ∙ ap (λ ls. entry_by b.number b.place.section b.place.offset b.name ls) lines)))

abbrev report_by : List (ℕ × List ℕ) → List Entry → Report
report_by globals entries = record { globals = globals; entries = entries }

-- entries name one list of globals
one_globals : (object : Object) (entries : List Entry) (xs ys : List (ℕ × List ℕ)) → AreGlobals object entries xs → AreGlobals object entries ys → xs ≡ ys
one_globals object entries xs ys a b =
    let numbers : a.numbers ≡ b.numbers = same_ascending a.numbers b.numbers (rises a.numbers a.ascending) (rises b.numbers b.ascending)
    (λ n c. (b.named n).1 ((a.named n).0 c)) (λ n c. (a.named n).1 ((b.named n).0 c)) in
    a.globals ∙ (ap (map (global_of object)) numbers ∙ sym b.globals)

module _ (object : Object) (order : NamedOrder) (signatures : List Signature) (one_procs : IsLawOfOneList) (one_list : OneList) (one_solution : OneSolution) where
  procs_same : (ps qs : List Proc) → IsInProfile object (ends_of object signatures) ps → IsInProfile object (ends_of object signatures) qs → ps ≡ qs
  procs_same ps qs p q = one_procs object (ends_of object signatures) ps qs p.are_procs q.are_procs

  module _ (procs : List Proc) (profile : IsInProfile object (ends_of object signatures) procs) where
    schemes_same : (s t : List (Option Scheme)) → AreSchemes object order signatures procs s → AreSchemes object order signatures procs t → s ≡ t
    schemes_same s t a b =
        one_solution object (ends_of object signatures) order.roles order.order signatures procs procs a.groups b.groups s t profile.are_procs profile.are_procs
        a.are_groups b.are_groups a.are_solved b.are_solved

  -- a procedure's lines are one list
  constraints_same : (procs : List Proc) (schemes : List (Option Scheme)) (n : ℕ) (ls ms : List Line) → AreConstraints object order signatures procs schemes n ls
      → AreConstraints object order signatures procs schemes n ms → ls ≡ ms
  constraints_same procs schemes n ls ms a b = by a.is_group b.is_group
    where
      by : Contains a.groups a.group → Contains b.groups b.group → ls ≡ ms
      by (i, hi, ei) (j, hj, ej) =
          let at_i : group_at a.groups i ≡ a.group = get_or_default a.groups i [] a.group hi ∙ ei in
          let at_j : group_at b.groups j ≡ b.group = get_or_default b.groups j [] b.group hj ∙ ej in
          let in_i : Contains (group_at a.groups i) n = subst (λ g. Contains g n) (sym at_i) (a.place, a.within, get_or_default a.group a.place n 0 a.within ∙ a.is_member) in
          let in_j : Contains (group_at b.groups j) n = subst (λ g. Contains g n) (sym at_j) (b.place, b.within, get_or_default b.group b.place n 0 b.within ∙ b.is_member) in
          let groups : a.group ≡ b.group = sym at_i ∙ (same_group (length procs) (Calls procs) a.groups b.groups a.are_groups b.are_groups i j n in_i in_j ∙ at_j) in
          let rising : IsStrictlyIncreasing b.group = subst IsStrictlyIncreasing at_j (b.are_groups.ascending j hj) in
          let within : a.place < length b.group = subst (λ g. a.place < length g) groups a.within in
          let member : get_or b.group a.place 0 ≡ n = subst (λ g. get_or g a.place 0 ≡ n) groups a.is_member in
          let places : a.place ≡ b.place = one_place b.group rising a.place b.place within b.within (member ∙ sym b.is_member) in
          let bodies : a.bodies ≡ b.bodies =
          one_list object order.roles procs signatures schemes b.group a.bodies b.bodies
          (subst (λ g. AreLinesOf object order.roles procs signatures schemes g a.bodies) groups a.are_lines) b.are_lines in
          a.lines_are ∙ (ap (λ bs. get_or bs a.place []) bodies ∙ (ap (λ p. get_or b.bodies p []) places ∙ sym b.lines_are))

  told_same : (told : Told) (procs : List Proc) (schemes : List (Option Scheme)) (n : ℕ) (ls ms : List Line) → IsTold told object order signatures procs schemes n ls
      → IsTold told object order signatures procs schemes n ms → ls ≡ ms
  told_same Constraints procs schemes n ls ms a b = constraints_same procs schemes n ls ms a b
  told_same Schemes procs schemes n ls ms a b =
      a.lines_are ∙ (ap (λ (s : Scheme). s.lines) (one_found (slice_index_or schemes n None) a.scheme b.scheme a.is_scheme b.is_scheme) ∙ sym b.lines_are)

  entries_same : (told : Told) (procs : List Proc) (schemes : List (Option Scheme)) (xs ys : List Entry) → AreEntries told object order signatures procs schemes xs
      → AreEntries told object order signatures procs schemes ys → xs ≡ ys
  entries_same told procs schemes xs ys a b = ext_get_or nothing xs ys (a.one_each ∙ sym b.one_each) (λ n less. at n (omega (arith, less, a.one_each)))
    where
      nothing : Entry
      nothing = entry_by 0 0 0 [] []

      at : (n : ℕ) → n < length procs → get_or xs n nothing ≡ get_or ys n nothing
      at n less =
          let proc = some_of procs n less in
          one_entry n (get_or procs n proc) (get_or xs n nothing) (get_or ys n nothing) (a.each n proc nothing less) (b.each n proc nothing less)
          (told_same told procs schemes n _ _ (a.lines n nothing less) (b.lines n nothing less))

  right_same : (told : Told) (x y : Report) → IsRightOf told order signatures object x → IsRightOf told order signatures object y → x ≡ y
  right_same told x y a b =
      let procs : b.procs ≡ a.procs = procs_same b.procs a.procs b.in_profile a.in_profile in
      let schemes : b.schemes ≡ a.schemes =
      schemes_same a.procs a.in_profile b.schemes a.schemes (subst (λ ps. AreSchemes object order signatures ps b.schemes) procs b.are_schemes) a.are_schemes in
      let there : AreEntries told object order signatures a.procs a.schemes y.entries =
      subst (λ s. AreEntries told object order signatures a.procs s y.entries) schemes
      (subst (λ ps. AreEntries told object order signatures ps b.schemes y.entries) procs b.entries) in
      let entries : x.entries ≡ y.entries = entries_same told a.procs a.schemes x.entries y.entries a.entries there in
      let globals : x.globals ≡ y.globals = one_globals object x.entries x.globals y.globals a.globals (subst (λ es. AreGlobals object es y.globals) (sym entries) b.globals) in
      ap (λ g. report_by g x.entries) globals ∙ ap (λ es. report_by y.globals es) entries

  report_same : (told : Told) (s t : List ℕ) → IsReportOf told order signatures object s → IsReportOf told order signatures object t → s ≡ t
  report_same told s t a b = a.is_text ∙ (ap (report_text order.names) (right_same told a.report b.report a.is_right b.is_right) ∙ sym b.is_text)

  module _ (anti : IsAntisymmetric (IsAtOrBelow order.order) order.order.count) (one_sketch : OneSketch) where
    tree_same : (schemes : List (Option Scheme)) (n : ℕ) (s t : Nodes) → IsSketch order schemes n s → IsSketch order schemes n t → s ≡ t
    tree_same schemes n s t a b =
        let lines : b.scheme.lines ≡ a.scheme.lines = ap (λ (s : Scheme). s.lines) (one_found (slice_index_or schemes n None) b.scheme a.scheme b.is_scheme a.is_scheme) in
        one_sketch order.order n a.scheme.lines s t anti a.is_tree b.is_tree a.is_sketch (subst (λ ls. IsSketchOf order.order n ls t) lines b.is_sketch)

    sketches_same : (s t : List ℕ) → IsSketchesOf order signatures object s → IsSketchesOf order signatures object t → s ≡ t
    sketches_same s t a b =
        let procs : b.procs ≡ a.procs = procs_same b.procs a.procs b.in_profile a.in_profile in
        let schemes : b.schemes ≡ a.schemes =
        schemes_same a.procs a.in_profile b.schemes a.schemes (subst (λ ps. AreSchemes object order signatures ps b.schemes) procs b.are_schemes) a.are_schemes in
        let each : length b.trees ≡ length a.procs = b.one_each ∙ ap length procs in
        let trees : a.trees ≡ b.trees =
        ext_get_or [] a.trees b.trees (a.one_each ∙ sym each)
        (λ n less. tree_same a.schemes n (get_or a.trees n []) (get_or b.trees n []) (a.are_sketches n (omega (arith, less, a.one_each)))
        (subst (λ s. IsSketch order s n (get_or b.trees n [])) schemes (b.are_sketches n (omega (arith, less, a.one_each, ap length procs))))) in
        a.is_text ∙ (ap (sketches_text order 0 a.procs) trees ∙ (ap (λ ps. sketches_text order 0 ps b.trees) (sym procs) ∙ sym b.is_text))

    numbered_same : (schemes : List (Option Scheme)) (count : ℕ) (xs ys : Numbered) → AreSketches order schemes count xs → AreSketches order schemes count ys → xs ≡ ys
    numbered_same schemes count xs ys a b = ext_get_or (0, []) xs ys (a.each ∙ sym b.each) (λ i less. at i (omega (arith, less, a.each)))
      where
        at : (i : ℕ) → i < count → numbered_at xs i ≡ numbered_at ys i
        at i less =
            let numbers : (numbered_at xs i).0 ≡ (numbered_at ys i).0 = a.numbers i less ∙ sym (b.numbers i less) in
            let trees : (numbered_at xs i).1 ≡ (numbered_at ys i).1 = tree_same schemes i _ _ (a.are i less) (b.are i less) in
            ap (λ n. (n, (numbered_at xs i).1)) numbers ∙ ap (λ (t : Nodes). ((numbered_at ys i).0, t)) trees

    header_same : OneHeaderOf → IsAntisymmetric (IsBelow order) (size_of order) → (s t : List ℕ) → IsHeaderTextOf order signatures object s → IsHeaderTextOf order signatures object t → s ≡ t
    header_same one_header_of named s t a b =
        let procs : b.procs ≡ a.procs = procs_same b.procs a.procs b.in_profile a.in_profile in
        let schemes : b.schemes ≡ a.schemes =
        schemes_same a.procs a.in_profile b.schemes a.schemes (subst (λ ps. AreSchemes object order signatures ps b.schemes) procs b.are_schemes) a.are_schemes in
        let there : AreSketches order a.schemes (length a.procs) b.sketches =
        subst (λ s. AreSketches order s (length a.procs) b.sketches) schemes (subst (λ ps. AreSketches order b.schemes (length ps) b.sketches) procs b.are_sketches) in
        let sketches : b.sketches ≡ a.sketches = numbered_same a.schemes (length a.procs) b.sketches a.sketches there a.are_sketches in
        let decls : a.decls ≡ b.decls =
        one_header_of order a.sketches a.decls b.decls named a.are_good b.are_good a.is_header (subst (λ ss. IsHeaderOf order ss b.decls) sketches b.is_header) in
        a.is_text ∙ (ap decls_text decls ∙ sym b.is_text)

abbrev object_by : List Section → List Symbol → List Reloc → List ℕ → Object
object_by sections symbols relocs bytes = record { sections = sections; symbols = symbols; relocs = relocs; bytes = bytes }

-- bytes are read as one object
one_object : (bytes : List ℕ) (a b : Object) → IsReadAs bytes a → IsReadAs bytes b → a ≡ b
one_object bytes a b x y =
    ap (λ s. object_by s a.symbols a.relocs a.bytes) (x.is_object.sections ∙ sym y.is_object.sections)
    ∙ (ap (λ s. object_by b.sections s a.relocs a.bytes) (x.is_object.symbols ∙ sym y.is_object.symbols)
    ∙ (ap (λ r. object_by b.sections b.symbols r a.bytes) (x.is_object.relocs ∙ sym y.is_object.relocs)
    ∙ ap (λ bs. object_by b.sections b.symbols b.relocs bs) (x.is_object.bytes_kept ∙ sym y.is_object.bytes_kept)))

pub one_text_of : IsLawOfOneList → OneList → OneSolution → OneSketch → OneHeaderOf → OneText
one_text_of one_procs one_list one_solution one_sketch one_header_of order content signatures bytes s t partial a b =
    let objects : b.object ≡ a.object = one_object bytes b.object a.object b.is_read a.is_read in
    by content a.object a.is_text (subst (λ o. IsTextOf content order signatures o t) objects b.is_text)
  where
    anti : IsAntisymmetric (IsAtOrBelow order.order) order.order.count
    anti = subst (IsAntisymmetric (IsBelow order)) (sym partial.counted) partial.antisymmetric

    by : (content : Content) (object : Object) → IsTextOf content order signatures object s → IsTextOf content order signatures object t → s ≡ t
    by (Lines told) object a b = report_same object order signatures one_procs one_list one_solution told s t a b
    by Sketches object a b = sketches_same object order signatures one_procs one_list one_solution anti one_sketch s t a b
    by Header object a b = header_same object order signatures one_procs one_list one_solution anti one_sketch one_header_of partial.antisymmetric s t a b
