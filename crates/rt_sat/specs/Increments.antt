-- What lines tell of the variables that they and others name, as far as tables of bytes have it.
use Rattle.std.specs.Prelude.{◌⊎◌, ◌++◌, ◌∷◌, List, [], Contains, length}
use Rattle.rt_lines.specs.declared.variable.Dtv.{Dtv}
use Rattle.rt_lines.specs.declared.line.Line.{Line}
use Rattle.rt_lines.specs.declared.line.Line.TheVariants.{Sub}
use Rattle.rt_lines.specs.Orders.{Below}
use Rattle.rt_rules.specs.Rules.{HasSide}
use Rattle.rt_sat.specs.declared.state.Edge.{Edge}
use Rattle.rt_sat.specs.declared.increments.GrowingTable.{GrowingTable as Grown}
use Rattle.rt_sat.specs.declared.increments.Snapshot.{Snapshot}
use Rattle.rt_sat.specs.Closings.{AreLineEdges}
use Rattle.rt_sat.specs.Inside.Links.{AreLinked, AreReady}
use Rattle.rt_sat.specs.Hints.{IsFamily, IsToldFamily}
use Rattle.rt_sat.specs.Numbered.{AreDistinct}
use Rattle.rt_sat.specs.Pushes.{AreSound, IsInFrame}

-- the variables, by number
abbrev pub named_of : Grown → List Dtv
named_of grown = grown.frame.named

-- what the tables have is told by edges, which are counted judgements of the lines
pub record Tells (lines : List Line) (grown : Grown) : Type 0 where
  pub edges : List Edge
  pub distinct : AreDistinct (named_of grown)
  pub frame : (order : Below) → IsInFrame (record { order = order; lines = lines }) (named_of grown) grown.frame.flips.items
  pub sides : (x y : Dtv) → Contains lines (Sub x y) → Contains (named_of grown) x × Contains (named_of grown) y
  pub sound : (order : Below) → AreSound (record { order = order; lines = lines }) (named_of grown) edges
  pub family : IsFamily (length (named_of grown)) grown.family
  pub ready : AreReady (named_of grown) grown.frame.flips.items grown.family grown.kin.links grown.kin.ready.items
  pub linked : AreLinked (named_of grown) grown.frame.flips.items edges grown.kin.links
  pub told : IsToldFamily (named_of grown) grown.frame.flips.items edges grown.family

-- the line was added, or nothing was
abbrev pub IsAdded : List Line → Line → Grown → Type 0
IsAdded lines line grown = Tells lines grown ⊎ Tells (lines ++ line ∷ []) grown

-- so it was when the snapshot was taken
abbrev pub Told : List Line → Snapshot → Grown → Type 0
Told lines snapshot grown = Tells lines (record { frame = grown.frame; family = snapshot.family; kin = grown.kin })

-- the edges are those of some of the lines, whose sides are named
pub record AreEdgesAmong (lines : List Line) (known : List Dtv) (edges : List Edge) : Type 0 where
  pub those : List Line
  pub among : (l : Line) → Contains those l → Contains lines l
  pub named : (l : Line) (x : Dtv) → Contains those l → HasSide l x → Contains known x
  pub are : AreLineEdges those known edges

-- so it was, with some of more lines
pub record IsWith (told lines : List Line) (snapshot : Snapshot) (grown : Grown) : Type 0 where
  pub those : List Line
  pub among : (l : Line) → Contains those l → Contains lines l
  pub tells : Told (told ++ those) snapshot grown
