-- Laws of headers.
use Rattle.std.specs.Prelude.{◌≡◌, ℕ, List}
use Rattle.rt_lattice.specs.Bounds.{IsAntisymmetric}
use Rattle.rt_lattice.specs.Lattices.{NamedOrder, IsBelow, size_of}
use Rattle.rt_tree.specs.Trees.{Nodes}
use Rattle.rt_cdecl.specs.declared.declarations.Decls.{Decls}
use Rattle.rt_cdecl.specs.GoodDecls.{IsGoodDecls}
use Rattle.rt_header.specs.Headers.{IsHeaderOf}

-- sketches have one header
abbrev pub OneHeaderOf : Type 0
OneHeaderOf =
    (lattice : NamedOrder) (sketches : List (ℕ × Nodes)) (first second : Decls) → IsAntisymmetric (IsBelow lattice) (size_of lattice)
    → IsGoodDecls first → IsGoodDecls second → IsHeaderOf lattice sketches first → IsHeaderOf lattice sketches second → first ≡ second
