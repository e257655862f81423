-- Laws of what is written.
use Rattle.std.specs.Prelude.{◌≡◌, ℕ, List}
use Rattle.rt_lines.specs.declared.line.Line.{Line}
use Rattle.rt_rules.specs.Rules.{Derivable}
use Rattle.rt_lattice.specs.Lattices.{NamedOrder}
use Rattle.rt_lattice.specs.Laws.{AreOne, IsPartial}
use Rattle.rt_sigs.specs.Signatures.{Signature}
use Rattle.rt_run.specs.declared.content.Content.{Content}
use Rattle.rt_run.specs.Texts.{IsObjectText}

-- two lattices of one order derive the same judgements, from any lines
abbrev pub OneLattice : Type 0
OneLattice =
    (first second : NamedOrder) (lines : List Line) (judgement : Line) → AreOne first second → Derivable first.order lines judgement →
    Derivable second.order lines judgement

-- the bytes of an object have one text of each content, with a lattice whose order is partial, and signatures
abbrev pub OneText : Type 0
OneText =
    (order : NamedOrder) (content : Content) (signatures : List Signature) (bytes first second : List ℕ) → IsPartial order
    → IsObjectText content order signatures bytes first → IsObjectText content order signatures bytes second → first ≡ second
