-- What `header` writes for an object.
use Rattle.std.specs.Prelude.{◌≡◌, ℕ, ◌<◌, Option, List, [], get_or, length}
use Rattle.rt_lattice.specs.Lattices.{NamedOrder}
use Rattle.rt_elf.specs.Parts.{Parts as Object}
use Rattle.rt_proc.specs.declared.proc.Proc.{Proc}
use Rattle.rt_sigs.specs.Signatures.{Signature}
use Rattle.rt_liveness.specs.Ends.{ends_of}
use Rattle.rt_tree.specs.Trees.{Nodes}
use Rattle.rt_scheme.specs.declared.scheme.Scheme.{Scheme}
use Rattle.rt_cdecl.specs.declared.declarations.Decls.{Decls}
use Rattle.rt_cdecl.specs.GoodDecls.{IsGoodDecls}
use Rattle.rt_cdecl.specs.Texts.{decls_text}
use Rattle.rt_header.specs.Headers.{IsHeaderOf}
use Rattle.rt_run.specs.Objects.{IsInProfile}
use Rattle.rt_run.specs.Reports.{AreSchemes}
use Rattle.rt_run.specs.Sketches.{IsSketch}

-- a list of trees with the numbers of their procedures
abbrev pub Numbered : Type 0
Numbered = List (ℕ × Nodes)

-- that of a number
abbrev pub numbered_at : Numbered → ℕ → ℕ × Nodes
numbered_at sketches i = get_or sketches i (0, [])

-- the sketches of the schemes of so many procedures, with their numbers
pub record AreSketches (order : NamedOrder) (schemes : List (Option Scheme)) (count : ℕ) (sketches : Numbered) : Type 0 where
  pub each : length sketches ≡ count
  pub numbers : (i : ℕ) → i < count → (numbered_at sketches i).0 ≡ i
  pub are : (i : ℕ) → i < count → IsSketch order schemes i (numbered_at sketches i).1

-- the text of the header of an object of the profile, with this lattice and these signatures: the declarations of its procedures' sketches
pub record IsHeaderTextOf (order : NamedOrder) (signatures : List Signature) (object : Object) (text : List ℕ) : Type 0 where
  pub procs : List Proc
  pub in_profile : IsInProfile object (ends_of object signatures) procs
  pub schemes : List (Option Scheme)
  pub are_schemes : AreSchemes object order signatures procs schemes
  pub sketches : Numbered
  pub are_sketches : AreSketches order schemes (length procs) sketches
  pub decls : Decls
  pub are_good : IsGoodDecls decls
  pub is_header : IsHeaderOf order sketches decls
  pub is_text : text ≡ decls_text decls
