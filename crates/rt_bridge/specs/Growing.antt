-- Variables built at the right end, and what is derivable of them.
use Rattle.std.specs.Prelude.{List, [], ◌∷◌, Contains}
use Rattle.rt_lines.specs.declared.label.Label.{Label}
use Rattle.rt_lines.specs.declared.variable.Base.{Base}
use Rattle.rt_lines.specs.declared.variable.Dtv.{Dtv}
use Rattle.rt_lines.specs.declared.line.Line.{Line}
use Rattle.rt_lines.specs.declared.line.Line.TheVariants.{Var as VarLine, Same, Sub}
use Rattle.rt_lines.specs.Orders.{Below}
use Rattle.rt_rules.specs.Rules.{longer, Derivable}

-- a variable built at the right end
pub data Var : Type 0 where
  at : Base → Var
  dot : Var → Label → Var

-- the variable of lines that it is
abbrev pub dv : Var → Dtv
dv (at b) = record { base = b; word = [] }
dv (dot x l) = longer (dv x) l

-- an order and lines
pub record Given : Type 0 where
  pub order : Below
  pub lines : List Line

pub data Fact : Type 0 where
  V : Var → Fact
  E : Var → Var → Fact
  S : Var → Var → Fact

abbrev pub line_of : Fact → Line
line_of (V x) = VarLine (dv x)
line_of (E x y) = Same (dv x) (dv y)
line_of (S x y) = Sub (dv x) (dv y)

-- derivable, as the rules say
pub record Der (L : Given) (f : Fact) : Type 0 where
  pub derives : Derivable L.order L.lines (line_of f)

abbrev pub HasSub : Given → Var → Var → Type 0
HasSub L x y = Contains L.lines (Sub (dv x) (dv y))

abbrev pub rest : Var → List Label → Var
rest x [] = x
rest x (l ∷ z) = rest (dot x l) z

-- a variable of lines, read letter by letter
abbrev pub vd : Dtv → Var
vd x = rest (at x.base) x.word
