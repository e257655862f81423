-- Tests of variables: which are named, and which can be read and written through.
use Rattle.std.specs.Prelude.{List, Bool}
use Rattle.std.specs.List.{list_any}
use Rattle.rt_lines.specs.declared.variable.Dtv.{Dtv}
use Rattle.rt_lines.specs.Equality.{variable_eq}
use Rattle.rt_bridge.specs.Growing.{Var, dv, Given}
use Rattle.rt_bridge.specs.Laws.{AreNamed, AreFlips}
use Rattle.rt_shape.specs.Graphs.{Graph, node_of}
use Rattle.rt_shape.specs.Shapes.{IsShapeOf}
use Rattle.rt_named.specs.Naming.{named}
use Rattle.rt_named.specs.Nodes.{flips_at}

-- the variable is in the list
abbrev pub is_among : List Dtv → Var → Bool
is_among known x = list_any (variable_eq (dv x)) known

-- the variable can be read and written through, by its node
abbrev pub flips_by : Graph → Var → Bool
flips_by graph x = flips_at graph (node_of graph (dv x))

-- the variables of lines and more, and the flips of their shape, are what counted judgements ask for
abbrev pub DecidingLaw : Type 0
DecidingLaw =
    (L : Given) (extra : List Dtv) (graph : Graph) → IsShapeOf L.lines graph → AreNamed L (is_among (named L.lines extra)) ×
    AreFlips L (flips_by graph)
