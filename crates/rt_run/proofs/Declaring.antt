-- Headers of sketches.
use Rattle.std.proofs.Common.{◌≡◌, ◌∙◌, ◌⊎◌, ℕ, ◌+◌, ◌<◌, List, [], ◌∷◌, ◌++◌, All, Some, None, ap, arith, get_or, inl, inr, length, length-append, map, refl, subst, sym}
use Rattle.std.specs.Prelude.{slice_index_or}
use Rattle.std.specs.List.Sorted.{IsStrictlyIncreasing}
use Rattle.std.proofs.lemmas.Bool.{cases_order}
use Rattle.std.proofs.lemmas.List.{get_or-map, get_or_append_left, get_or_push, length-map}
use Rattle.rt_lines.specs.declared.line.Line.{Line}
use Rattle.rt_lattice.specs.Lattices.{IsLattice, NamedOrder, size_of}
use Rattle.rt_elf.specs.Parts.{Parts as Object}
use Rattle.rt_proc.specs.declared.proc.Proc.{Proc}
use Rattle.rt_liveness.specs.Ends.{ends_of}
use Rattle.rt_sigs.specs.Signatures.{Signature}
use Rattle.rt_scheme.specs.declared.scheme.Scheme.{Scheme}
use Rattle.rt_tree.specs.Trees.{IsTree, Nodes}
use Rattle.rt_sketch.specs.Sketches.{HasMarksBelow, IsSketchOf}
use Rattle.rt_cdecl.specs.declared.declarations.Decls.{Decls}
use Rattle.rt_cdecl.specs.GoodDecls.{IsGoodDecls}
use Rattle.rt_cdecl.specs.Texts.{decls_text}
use Rattle.rt_header.specs.Headers.{IsHeaderOf}
use Rattle.rt_run.specs.declared.analysis.Analysis.{Analysis}
use Rattle.rt_run.specs.Inside.Analyses.{IsAnalysis, object_in, procs_in}
use Rattle.rt_run.specs.Headers.{AreSketches, IsHeaderTextOf, Numbered, numbered_at}
use Rattle.rt_run.specs.Objects.{IsInProfile}
use Rattle.rt_run.specs.Sketches.{IsSketch}

-- The sketch of a procedure's scheme.

pub sketch_is : (analysis : Analysis) (number : ℕ) (scheme : Scheme) (sketch tree : Nodes) → slice_index_or analysis.schemes number None ≡ Some scheme → scheme.base ≡ number
    → IsSketchOf analysis.lattice.now.order scheme.base scheme.lines sketch → IsTree tree → tree ≡ sketch → IsSketch analysis.lattice.now analysis.schemes number sketch
sketch_is analysis number scheme sketch tree found own is is_tree same = record {
  scheme = scheme;
  is_scheme = found;
  is_sketch = subst (λ n. IsSketchOf analysis.lattice.now.order n scheme.lines sketch) own is;
  is_tree = subst IsTree same is_tree;
}

-- its marks are names
pub marks_are_names : (lattice : NamedOrder) (own : ℕ) (lines : List Line) (sketch : Nodes) → IsLattice lattice → IsSketchOf lattice.order own lines sketch
    → HasMarksBelow (size_of lattice) sketch
marks_are_names lattice own lines sketch is_lattice is w m e =
    let marks = is.marks w m e in
    (subst (λ n. m.0 < n) is_lattice.counted marks.low.within, subst (λ n. m.1 < n) is_lattice.counted marks.up.within)

-- Those of all procedures.

pub sketches_none : (analysis : Analysis) → AreSketches analysis.lattice.now analysis.schemes 0 []
sketches_none analysis = record {
  each = refl;
  numbers = λ i less. absurd (omega (arith, less));
  are = λ i less. absurd (omega (arith, less));
}

pub sketches_next : (analysis : Analysis) (n : ℕ) (sketches : Numbered) (tree : Nodes) → AreSketches analysis.lattice.now analysis.schemes n sketches
    → IsSketch analysis.lattice.now analysis.schemes n tree → AreSketches analysis.lattice.now analysis.schemes (n + 1) (sketches ++ (n, tree) ∷ [])
sketches_next analysis n sketches tree are is = record {
  each = length-append sketches ((n, tree) ∷ []) ∙ ap (λ k. k + 1) are.each;
  numbers = λ i less. numbers i (cases_order i n) less;
  are = λ i less. each i (cases_order i n) less;
}
  where
    last : numbered_at (sketches ++ (n, tree) ∷ []) n ≡ (n, tree)
    last = get_or_push sketches (n, tree) (0, []) n are.each

    before : (i : ℕ) → i < n → numbered_at (sketches ++ (n, tree) ∷ []) i ≡ numbered_at sketches i
    before i less = get_or_append_left sketches ((n, tree) ∷ []) (0, []) i (let e = are.each in omega (arith, e, less))

    numbers : (i : ℕ) → (i ≡ n) ⊎ ((i < n) ⊎ (n < i)) → i < n + 1 → (numbered_at (sketches ++ (n, tree) ∷ []) i).0 ≡ i
    numbers i (inl e) less = ap (λ k. (numbered_at (sketches ++ (n, tree) ∷ []) k).0) e ∙ (ap (λ (s : ℕ × Nodes). s.0) last ∙ sym e)
    numbers i (inr (inl h)) less = ap (λ (s : ℕ × Nodes). s.0) (before i h) ∙ are.numbers i h
    numbers i (inr (inr g)) less = absurd (omega (arith, less, g))

    each : (i : ℕ) → (i ≡ n) ⊎ ((i < n) ⊎ (n < i)) → i < n + 1 → IsSketch analysis.lattice.now analysis.schemes i (numbered_at (sketches ++ (n, tree) ∷ []) i).1
    each i (inl e) less =
        subst (λ k. IsSketch analysis.lattice.now analysis.schemes k (numbered_at (sketches ++ (n, tree) ∷ []) k).1) (sym e)
        (subst (λ (s : ℕ × Nodes). IsSketch analysis.lattice.now analysis.schemes n s.1) (sym last) is)
    each i (inr (inl h)) less =
        subst (λ (s : ℕ × Nodes). IsSketch analysis.lattice.now analysis.schemes i s.1) (sym (before i h)) (are.are i h)
    each i (inr (inr g)) less = absurd (omega (arith, less, g))

-- their numbers rise
pub sketches_rise : (lattice : NamedOrder) (analysis : Analysis) (count : ℕ) (sketches : Numbered) → AreSketches lattice analysis.schemes count sketches
    → IsStrictlyIncreasing (map (λ (s : ℕ × Nodes). s.0) sketches)
sketches_rise lattice analysis count sketches are k less =
    let long : length (map (λ (s : ℕ × Nodes). s.0) sketches) ≡ length sketches = length-map sketches (λ (s : ℕ × Nodes). s.0) in
    let each = are.each in
    let here : k < length sketches = omega (arith, less, long) in
    let next : k + 1 < length sketches = omega (arith, less, long) in
    let first : get_or (map (λ (s : ℕ × Nodes). s.0) sketches) k 0 ≡ k =
    get_or-map (λ (s : ℕ × Nodes). s.0) sketches k (0, []) 0 here ∙ are.numbers k (omega (arith, here, each)) in
    let second : get_or (map (λ (s : ℕ × Nodes). s.0) sketches) (k + 1) 0 ≡ k + 1 =
    get_or-map (λ (s : ℕ × Nodes). s.0) sketches (k + 1) (0, []) 0 next ∙ are.numbers (k + 1) (omega (arith, next, each)) in
    omega (arith, first, second)

-- The text of a header.

pub header_whole : (object : Object) (procs : List Proc) (order : NamedOrder) (signatures : List Signature) (analysis : Analysis) (sketches : Numbered) (decls : Decls) (text : List ℕ)
    → IsInProfile object (ends_of object signatures) procs → IsAnalysis analysis → object_in analysis ≡ object → procs_in analysis ≡ procs
    → analysis.sigs.now ≡ signatures → analysis.lattice.now ≡ order → AreSketches analysis.lattice.now analysis.schemes (length (procs_in analysis)) sketches
    → IsGoodDecls decls → IsHeaderOf order sketches decls → text ≡ decls_text decls → IsHeaderTextOf order signatures object text
header_whole object procs order signatures analysis sketches decls text in_profile is_analysis is_object are_procs are_signatures is_order are good is_header is_text =
    subst (λ s. IsHeaderTextOf order s object text) are_signatures (subst (λ o. IsHeaderTextOf o analysis.sigs.now object text) is_order
    (subst (λ o. IsHeaderTextOf analysis.lattice.now analysis.sigs.now o text) is_object (record {
      procs = procs_in analysis;
      in_profile = subst (λ o. IsInProfile o (ends_of o analysis.sigs.now) (procs_in analysis)) (sym is_object)
          (subst (IsInProfile object (ends_of object analysis.sigs.now)) (sym are_procs)
          (subst (λ s. IsInProfile object (ends_of object s) procs) (sym are_signatures) in_profile));
      schemes = analysis.schemes;
      are_schemes = record { groups = analysis.groups; are_groups = is_analysis.groups; are_solved = is_analysis.solved };
      sketches = sketches;
      are_sketches = are;
      decls = decls;
      are_good = good;
      is_header = subst (λ o. IsHeaderOf o sketches decls) (sym is_order) is_header;
      is_text = is_text;
    })))
