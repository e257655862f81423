-- What `sketches` writes for an object.
use Rattle.std.specs.Prelude.{◌≡◌, ℕ, ◌+◌, ◌<◌, Option, Some, None, List, [], ◌∷◌, ◌++◌, codes, get_or, length, slice_index_or}
use Rattle.rt_lattice.specs.Lattices.{NamedOrder}
use Rattle.rt_elf.specs.Parts.{Parts as Object}
use Rattle.rt_proc.specs.declared.proc.Proc.{Proc}
use Rattle.rt_sigs.specs.Signatures.{Signature}
use Rattle.rt_liveness.specs.Ends.{ends_of}
use Rattle.rt_tree.specs.Trees.{IsTree, Nodes}
use Rattle.rt_scheme.specs.declared.scheme.Scheme.{Scheme}
use Rattle.rt_scheme.specs.Reports.{heading_text}
use Rattle.rt_sketch.specs.Sketches.{IsSketchOf}
use Rattle.rt_sketch.specs.Texts.{tree_text}
use Rattle.rt_run.specs.Objects.{IsInProfile}
use Rattle.rt_run.specs.Reports.{AreSchemes}

-- the tree is the sketch of the scheme of the procedure of a number, and a node's edges are in the order of their labels
pub record IsSketch (order : NamedOrder) (schemes : List (Option Scheme)) (number : ℕ) (tree : Nodes) : Type 0 where
  pub scheme : Scheme
  pub is_scheme : slice_index_or schemes number None ≡ Some scheme
  pub is_sketch : IsSketchOf order.order number scheme.lines tree
  pub is_tree : IsTree tree

-- a procedure with its tree: its heading, the tree's text, and `end`
abbrev pub sketch_text : NamedOrder → ℕ → Proc → Nodes → List ℕ
sketch_text order number proc tree =
    heading_text number (record { section = proc.entry.section; offset = proc.entry.offset }) proc.name ++
    tree_text order.names order.order tree ++ codes "end\n"

-- procedures, from this number on, each with its tree
abbrev pub sketches_text : NamedOrder → ℕ → List Proc → List Nodes → List ℕ
sketches_text order number [] trees = []
sketches_text order number (proc ∷ procs) [] = []
sketches_text order number (proc ∷ procs) (tree ∷ trees) =
    sketch_text order number proc tree ++ sketches_text order (number + 1) procs trees

-- the text of the sketches of an object of the profile, with this lattice and these signatures: one for each procedure, in the order of
-- their numbers
pub record IsSketchesOf (order : NamedOrder) (signatures : List Signature) (object : Object) (text : List ℕ) : Type 0 where
  pub procs : List Proc
  pub in_profile : IsInProfile object (ends_of object signatures) procs
  pub schemes : List (Option Scheme)
  pub are_schemes : AreSchemes object order signatures procs schemes
  pub trees : List Nodes
  pub one_each : length trees ≡ length procs
  pub are_sketches : (number : ℕ) → number < length procs → IsSketch order schemes number (get_or trees number [])
  pub is_text : text ≡ sketches_text order 0 procs trees

-- A text has become longer by that of a procedure with the sketch of its scheme.
pub record AddsSketch (order : NamedOrder) (schemes : List (Option Scheme)) (number : ℕ) (proc : Proc) (old new : List ℕ) : Type 0 where
  pub tree : Nodes
  pub is_sketch : IsSketch order schemes number tree
  pub is_text : new ≡ old ++ sketch_text order number proc tree
