-- Texts of sketches, procedure by procedure.
use Rattle.std.proofs.Common.{◌≡◌, ◌∙◌, ◌⊎◌, ℕ, zero, suc, ◌+◌, ◌<◌, List, [], ◌∷◌, ◌++◌, All, Some, None, Ok, Err, Result, append_assoc, ap, arith, get_or, inl, inr, length, refl, subst, sym, take}
use Rattle.std.specs.Prelude.{OnOk, codes, if◌then◌else◌, slice_get, slice_index_or}
use Rattle.std.specs.Result.{is_ok}
use Rattle.std.proofs.lemmas.Bool.{cases_order}
use Rattle.std.proofs.lemmas.List.{get_or_append_left, get_or_default, get_or_push, take_all}
use Rattle.std.proofs.lemmas.Option.{slice_get-get_or}
use Rattle.std.specs.Option.{option_map, option_and_then}
use Rattle.rt_lines.specs.declared.line.Line.{Line}
use Rattle.rt_lines.specs.Lines.{HasConstantsBelow}
use Rattle.rt_lines.specs.Orders.{Below}
use Rattle.rt_components.specs.Groups.{group_at}
use Rattle.rt_elf.specs.Parts.{Parts as Object}
use Rattle.rt_proc.specs.declared.proc.Proc.{Proc}
use Rattle.rt_lattice.specs.Lattices.{IsLattice, NamedOrder, size_of}
use Rattle.rt_liveness.specs.Ends.{ends_of}
use Rattle.rt_sigs.specs.Signatures.{Signature}
use Rattle.rt_scheme.specs.declared.report.Place2.{Place2}
use Rattle.rt_scheme.specs.declared.scheme.Scheme.{Scheme}
use Rattle.rt_scheme.specs.Reports.{heading_text}
use Rattle.rt_tree.specs.Trees.{IsTree, Nodes, marks_of}
use Rattle.rt_sketch.specs.Sketches.{IsSketchOf}
use Rattle.rt_sketch.specs.Texts.{AreMarksBelow, tree_text}
use Rattle.rt_run.specs.declared.analysis.Analysis.{Analysis}
use Rattle.rt_run.specs.Inside.Analyses.{IsAnalysis, object_in, procs_in}
use Rattle.rt_run.specs.Objects.{IsInProfile}
use Rattle.rt_run.specs.Sketches.{AddsSketch, IsSketch, IsSketchesOf, sketch_text, sketches_text}
use Rattle.rt_solve.proofs.Setting.{some_of}

-- The marks of a sketch are below the count of its order.
pub marks_below : (order : Below) (own : ℕ) (lines : List Line) (tree : Nodes) → IsSketchOf order own lines tree → AreMarksBelow order.count tree
marks_below order own lines tree is = λ n d less.
    let (w, reached) = is.minimal.reached n less in
    let marks = is.marks w (marks_of (get_or tree n d))
    (ap (λ o. option_and_then (λ m. option_map marks_of (slice_get tree m)) o) reached ∙ ap (option_map marks_of) (slice_get-get_or tree n d less)) in
    (marks.low.within, marks.up.within)

-- They have names, and are below the count of the lattice's order.

pub marks_named : (lattice : NamedOrder) (own : ℕ) (lines : List Line) (sketch tree : Nodes) (names : List (List ℕ)) → IsLattice lattice
    → names ≡ lattice.names → tree ≡ sketch → IsSketchOf lattice.order own lines sketch → AreMarksBelow (length names) tree
marks_named lattice own lines sketch tree names is_lattice are_names is_tree is =
    subst (AreMarksBelow (length names)) (sym is_tree)
    (subst (λ n. AreMarksBelow n sketch) (is_lattice.counted ∙ sym (ap length are_names)) (marks_below lattice.order own lines sketch is))

pub marks_ordered : (lattice : NamedOrder) (own : ℕ) (lines : List Line) (sketch tree : Nodes) (order : Below) → order ≡ lattice.order → tree ≡ sketch
    → IsSketchOf lattice.order own lines sketch → AreMarksBelow order.count tree
marks_ordered lattice own lines sketch tree order is_order is_tree is =
    subst (AreMarksBelow order.count) (sym is_tree)
    (subst (λ (o : Below). AreMarksBelow o.count sketch) (sym is_order) (marks_below lattice.order own lines sketch is))

-- Each procedure has a scheme, which is its own, and of which constants are those of the lattice.

pub record HasScheme (analysis : Analysis) (number : ℕ) : Type 0 where
  pub scheme : Scheme
  pub is_scheme : slice_index_or analysis.schemes number None ≡ Some scheme
  pub own : scheme.base ≡ number
  pub constants : All (HasConstantsBelow (size_of analysis.lattice.now)) scheme.lines

pub has_scheme : (analysis : Analysis) (number : ℕ) → IsAnalysis analysis → number < length (procs_in analysis) → HasScheme analysis number
has_scheme analysis number is_analysis within =
    let (k, less, (i, below, is)) = (is_analysis.groups.nodes number).0 within in
    let group = group_at analysis.groups k in
    let at : get_or group i 0 ≡ number = get_or_default group i 0 number below ∙ is in
    let solved = (is_analysis.solved.each group (k, less, get_or_default analysis.groups k group [] less)).solved i below in
    let found : slice_index_or analysis.schemes number None ≡ Some solved.scheme = subst (λ n. slice_index_or analysis.schemes n None ≡ Some solved.scheme) at solved.is_scheme in
    record {
      scheme = solved.scheme;
      is_scheme = found;
      own = solved.own ∙ at;
      constants = (is_analysis.given number solved.scheme found).constants;
    }

-- the scheme that is found is that one
pub scheme_is : (analysis : Analysis) (number : ℕ) (scheme : Scheme) (has : HasScheme analysis number) → slice_index_or analysis.schemes number None ≡ Some scheme
    → has.scheme ≡ scheme
scheme_is analysis number scheme has found = some_of has.scheme scheme (sym has.is_scheme ∙ found)

-- there is one
pub scheme_there : (analysis : Analysis) (number : ℕ) → HasScheme analysis number → None ≡ slice_index_or analysis.schemes number None → ⊥
scheme_there analysis number has none = no has.scheme (none ∙ has.is_scheme)
  where
    no : (scheme : Scheme) → None ≡ Some scheme → ⊥
    no scheme e = cc

-- Texts.

-- a procedure's heading, the text of its sketch and the end are added
pub adds : (analysis : Analysis) (number : ℕ) (proc : Proc) (place : Place2) (name : List ℕ) (scheme : Scheme) (sketch tree : Nodes) (names : List (List ℕ)) (order : Below)
    (old headed drawn new : List ℕ) {E : Type 0} (result : Result (Unit {0}) E)
    → slice_index_or analysis.schemes number None ≡ Some scheme → scheme.base ≡ number → IsSketchOf analysis.lattice.now.order scheme.base scheme.lines sketch
    → IsTree tree → tree ≡ sketch → names ≡ analysis.lattice.now.names → order ≡ analysis.lattice.now.order
    → place ≡ record { section = proc.entry.section; offset = proc.entry.offset } → name ≡ proc.name
    → headed ≡ old ++ heading_text number place name → drawn ≡ headed ++ tree_text names order tree → new ≡ (if is_ok result then drawn ++ codes "end\n" else drawn)
    → OnOk result (AddsSketch analysis.lattice.now analysis.schemes number proc old new)
adds analysis number proc place name scheme sketch tree names order old headed drawn new (Err e) found own is tree_is is_tree are_names is_order is_place is_name is_headed is_drawn is_new = tt
adds analysis number proc place name scheme sketch tree names order old headed drawn new (Ok t) found own is tree_is is_tree are_names is_order is_place is_name is_headed is_drawn is_new =
    let heading = heading_text number (record { section = proc.entry.section; offset = proc.entry.offset }) proc.name in
    let text = tree_text analysis.lattice.now.names analysis.lattice.now.order sketch in
    let same : heading_text number place name ≡ heading = ap (λ p. heading_text number p name) is_place ∙ ap (heading_text number (record { section = proc.entry.section; offset = proc.entry.offset })) is_name in
    let drawn_same : tree_text names order tree ≡ text =
    ap (λ t. tree_text names order t) is_tree ∙ (ap (λ n. tree_text n order sketch) are_names ∙ ap (λ o. tree_text analysis.lattice.now.names o sketch) is_order) in
    record {
      tree = sketch;
      is_sketch = record {
        scheme = scheme;
        is_scheme = found;
        is_sketch = subst (λ n. IsSketchOf analysis.lattice.now.order n scheme.lines sketch) own is;
        is_tree = subst IsTree is_tree tree_is;
      };
      is_text = is_new ∙ (ap (λ t. t ++ codes "end\n") (is_drawn ∙ (ap (λ t. t ++ tree_text names order tree) (is_headed ∙ ap (λ t. old ++ t) same) ∙ ap (λ t. (old ++ heading) ++ t) drawn_same)) ∙
          (ap (λ t. t ++ codes "end\n") (append_assoc old heading text) ∙ append_assoc old (heading ++ text) (codes "end\n")));
    }

-- the text of procedures up to one is that of those before it, and its own
texts_more : (order : NamedOrder) (from n : ℕ) (procs : List Proc) (proc : Proc) (trees : List Nodes) (tree : Nodes) → n < length procs → length trees ≡ n
    → get_or procs n proc ≡ proc
    → sketches_text order from (take (suc n) procs) (trees ++ tree ∷ []) ≡ sketches_text order from (take n procs) trees ++ sketch_text order (from + n) proc tree
texts_more order from n [] proc trees tree less long is = absurd (omega (arith, less))
texts_more order from zero (first ∷ procs) proc [] tree less long is =
    let number : from + 0 ≡ from = omega arith in
    append_none (sketch_text order from first tree) ∙ (ap (λ p. sketch_text order from p tree) is ∙ ap (λ k. sketch_text order k proc tree) (sym number))
  where
    append_none : (l : List ℕ) → l ++ [] ≡ l
    append_none [] = refl
    append_none (x ∷ l) = ap (λ t. x ∷ t) (append_none l)
texts_more order from zero (first ∷ procs) proc (own ∷ trees) tree less long is = absurd (omega (arith, long))
texts_more order from (suc n) (first ∷ procs) proc [] tree less long is = absurd (omega (arith, long))
texts_more order from (suc n) (first ∷ procs) proc (own ∷ trees) tree less long is =
    let number : (from + 1) + n ≡ from + suc n = omega arith in
    let text = sketch_text order from first own in
    let before = sketches_text order (from + 1) (take n procs) trees in
    ap (λ t. text ++ t) (texts_more order (from + 1) n procs proc trees tree (omega (arith, less)) (omega (arith, long)) is ∙ ap (λ k. before ++ sketch_text order k proc tree) number) ∙
    sym (append_assoc text before (sketch_text order (from + suc n) proc tree))

-- the text of the first procedures with their sketches
pub record AreDrawn (analysis : Analysis) (n : ℕ) (text : List ℕ) : Type 0 where
  pub trees : List Nodes
  pub one_each : length trees ≡ n
  pub are_sketches : (number : ℕ) → number < n → IsSketch analysis.lattice.now analysis.schemes number (get_or trees number [])
  pub is_text : text ≡ sketches_text analysis.lattice.now 0 (take n (procs_in analysis)) trees

pub drawn_none : (analysis : Analysis) → AreDrawn analysis 0 []
drawn_none analysis = record {
  trees = [];
  one_each = refl;
  are_sketches = λ number less. absurd (omega (arith, less));
  is_text = refl;
}

pub drawn_next : (analysis : Analysis) (n : ℕ) (proc : Proc) (old new : List ℕ) → AreDrawn analysis n old → proc ≡ get_or (procs_in analysis) n proc
    → n < length (procs_in analysis) → AddsSketch analysis.lattice.now analysis.schemes n proc old new → AreDrawn analysis (n + 1) new
drawn_next analysis n proc old new drawn is within adds =
    let number : n + 1 ≡ suc n = omega arith in
    let first : 0 + n ≡ n = omega arith in
    let order = analysis.lattice.now in
    record {
      trees = drawn.trees ++ adds.tree ∷ [];
      one_each = omega (arith, length_push drawn.trees adds.tree, drawn.one_each);
      are_sketches = λ k less. by k (cases_order k n) less;
      is_text = adds.is_text ∙ (ap (λ t. t ++ sketch_text order n proc adds.tree) drawn.is_text ∙
          (ap (λ k. sketches_text order 0 (take n (procs_in analysis)) drawn.trees ++ sketch_text order k proc adds.tree) (sym first) ∙
          (sym (texts_more order 0 n (procs_in analysis) proc drawn.trees adds.tree within drawn.one_each (sym is)) ∙
          ap (λ k. sketches_text order 0 (take k (procs_in analysis)) (drawn.trees ++ adds.tree ∷ [])) (sym number))));
    }
  where
    length_push : (xs : List Nodes) (x : Nodes) → length (xs ++ x ∷ []) ≡ length xs + 1
    length_push [] x = refl
    length_push (y ∷ ys) x = omega (arith, length_push ys x)

    by : (k : ℕ) → (k ≡ n) ⊎ ((k < n) ⊎ (n < k)) → k < n + 1 → IsSketch analysis.lattice.now analysis.schemes k (get_or (drawn.trees ++ adds.tree ∷ []) k [])
    by k (inl same) less =
        subst (λ j. IsSketch analysis.lattice.now analysis.schemes j (get_or (drawn.trees ++ adds.tree ∷ []) j [])) (sym same)
        (subst (IsSketch analysis.lattice.now analysis.schemes n) (sym (get_or_push drawn.trees adds.tree [] n drawn.one_each)) adds.is_sketch)
    by k (inr (inl earlier)) less =
        subst (IsSketch analysis.lattice.now analysis.schemes k) (sym (get_or_append_left drawn.trees (adds.tree ∷ []) [] k (omega (arith, drawn.one_each, earlier))))
        (drawn.are_sketches k earlier)
    by k (inr (inr later)) less = absurd (omega (arith, less, later))

-- all procedures are drawn
pub drawn_whole : (object : Object) (procs : List Proc) (order : NamedOrder) (signatures : List Signature) (analysis : Analysis) (n : ℕ) (text : List ℕ)
    → IsInProfile object (ends_of object signatures) procs → IsAnalysis analysis → object_in analysis ≡ object → procs_in analysis ≡ procs
    → analysis.sigs.now ≡ signatures → analysis.lattice.now ≡ order → n ≡ length (procs_in analysis) → AreDrawn analysis n text
    → IsSketchesOf order signatures object text
drawn_whole object procs order signatures analysis n text in_profile is_analysis is_object are_procs are_signatures is_order is drawn =
    subst (λ s. IsSketchesOf order s object text) are_signatures (subst (λ o. IsSketchesOf o analysis.sigs.now object text) is_order
    (subst (λ o. IsSketchesOf analysis.lattice.now analysis.sigs.now o text) is_object (record {
      procs = procs_in analysis;
      in_profile = subst (λ o. IsInProfile o (ends_of o analysis.sigs.now) (procs_in analysis)) (sym is_object)
          (subst (IsInProfile object (ends_of object analysis.sigs.now)) (sym are_procs)
          (subst (λ s. IsInProfile object (ends_of object s) procs) (sym are_signatures) in_profile));
      schemes = analysis.schemes;
      are_schemes = record { groups = analysis.groups; are_groups = is_analysis.groups; are_solved = is_analysis.solved };
      trees = drawn.trees;
      one_each = drawn.one_each ∙ is;
      are_sketches = λ number less. drawn.are_sketches number (omega (arith, less, is));
      is_text = drawn.is_text ∙ ap (λ k. sketches_text analysis.lattice.now 0 k drawn.trees) (take_all n (procs_in analysis) (omega (arith, is)));
    })))
