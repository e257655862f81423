-- Chains of lines, as lines of their own: each base alone, and one variable that stands for all procedures and globals.
use Rattle.std.specs.Prelude.{◌≡◌, ◌⊎◌, ℕ, Some, List, [], ◌∷◌, ◌++◌, flat_map, Contains}
use Rattle.rt_lines.specs.declared.variable.Base.{Base}
use Rattle.rt_lines.specs.declared.variable.Base.TheVariants.{Proc, Global, Exist, Outer}
use Rattle.rt_lines.specs.declared.variable.Dtv.{Dtv}
use Rattle.rt_lines.specs.declared.line.Line.{Line}
use Rattle.rt_lines.specs.declared.line.Line.TheVariants.{Var, Same, Sub, Low, Up}
use Rattle.rt_rules.specs.Rules.{HasSide}
use Rattle.rt_reduction.specs.Emits.{first_side}
use Rattle.rt_shape.specs.Graphs.{Graph, bare, node_of}

-- the variable that stands for procedures and globals
abbrev pub ground : Dtv
ground = bare (Outer 0)

-- that the base is a procedure or a global, if it is
abbrev pub ground_links : Base → List Line
ground_links (Proc n) = Same (bare (Proc n)) ground ∷ []
ground_links (Global n) = Same (bare (Global n)) ground ∷ []
ground_links (Exist n) = []
ground_links (Outer n) = []

-- that the line joins the bases of its sides
abbrev pub links_of : Line → List Line
links_of (Var x) = ground_links x.base
links_of (Same x y) = Same (bare x.base) (bare y.base) ∷ ground_links x.base ++ ground_links y.base
links_of (Sub x y) = Same (bare x.base) (bare y.base) ∷ ground_links x.base ++ ground_links y.base
links_of (Low k x) = ground_links x.base
links_of (Up x k) = ground_links x.base

abbrev pub links : List Line → List Line
links lines = flat_map links_of lines

-- no side is of another object
abbrev pub HasNoOuter : List Line → Type 0
HasNoOuter lines = (l : Line) (x : Dtv) (n : ℕ) → Contains lines l → HasSide l x → x.base ≡ Outer n → ⊥

-- the base has the node of the variable that stands for procedures and globals
abbrev pub IsGrounded : Graph → Base → Type 0
IsGrounded graph b = (n : ℕ) × (node_of graph (bare b) ≡ Some n) × (node_of graph ground ≡ Some n)

-- the line comes to the others where its base is grounded, and else they stay as they are
abbrev pub IsKeptOrLeft : Graph → Line → List Line → List Line → Type 0
IsKeptOrLeft graph l old new =
    (IsGrounded graph (first_side l).base × (new ≡ old ++ l ∷ [])) ⊎
    ((IsGrounded graph (first_side l).base → ⊥) × (new ≡ old))
