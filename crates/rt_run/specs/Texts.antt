-- What is written for an object.
use Rattle.std.specs.Prelude.{ℕ, List}
use Rattle.rt_lattice.specs.Lattices.{NamedOrder}
use Rattle.rt_elf.specs.Parts.{Parts as Object}
use Rattle.rt_sigs.specs.Signatures.{Signature}
use Rattle.rt_run.specs.declared.content.Content.{Content}
use Rattle.rt_run.specs.declared.content.Content.TheVariants.{Header, Lines, Sketches}
use Rattle.rt_run.specs.Headers.{IsHeaderTextOf}
use Rattle.rt_run.specs.Objects.{IsReadAs}
use Rattle.rt_run.specs.Reports.{IsReportOf}
use Rattle.rt_run.specs.Sketches.{IsSketchesOf}

-- the text of an object, with this lattice and these signatures
abbrev pub IsTextOf : Content → NamedOrder → List Signature → Object → List ℕ → Type 0
IsTextOf (Lines told) = IsReportOf told
IsTextOf Sketches = IsSketchesOf
IsTextOf Header = IsHeaderTextOf

-- that of the object that the bytes are read as
pub record IsObjectText (content : Content) (order : NamedOrder) (signatures : List Signature) (bytes text : List ℕ) : Type 0 where
  pub object : Object
  pub is_read : IsReadAs bytes object
  pub is_text : IsTextOf content order signatures object text
