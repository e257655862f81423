-- Ways from one variable to another, by the kind of the letters that are to follow both.
use Rattle.std.specs.Prelude.{List, Contains}
use Rattle.rt_lines.specs.declared.label.Label.{Label}
use Rattle.rt_lines.specs.declared.label.Variance.TheVariants.{Co, Contra}
use Rattle.rt_lines.specs.declared.variable.Dtv.{Dtv}
use Rattle.rt_lines.specs.declared.line.Line.{Line}
use Rattle.rt_lines.specs.declared.line.Line.TheVariants.{Var, Sub}
use Rattle.rt_lines.specs.Orders.{Below}
use Rattle.rt_rules.specs.Rules.{longer, Derivable}
use Rattle.rt_loose.specs.Kinds.{Kind, flexible, signed, Push}

-- a way over variables of a set: with letters of its kind behind both, the first lies loosely below the second
pub data Way (order : Below) (lines : List Line) (M : Dtv → Type 0) : Dtv → Dtv → Kind → Type 0 where
  here : {x : Dtv} (k : Kind) → M x → Derivable order lines (Var x) → Way order lines M x x k
  up : {x y : Dtv} → Contains lines (Sub x y) → Way order lines M x y (signed Co)
  down : {x y : Dtv} → Contains lines (Sub x y) → Way order lines M y x (signed Contra)
  flexible_up : {x y : Dtv} → Contains lines (Sub x y) → Way order lines M x y flexible
  flexible_down : {x y : Dtv} → Contains lines (Sub x y) → Way order lines M y x flexible
  join : {x y z : Dtv} {k : Kind} → Way order lines M x y k → Way order lines M y z k → Way order lines M x z k
  push : {x y : Dtv} {l m : Label} {d k : Kind} → M (longer x l) → M (longer y m) → Derivable order lines (Var (longer x l)) →
      Derivable order lines (Var (longer y m)) → Way order lines M x y d → Push order lines x l m d k →
      Way order lines M (longer x l) (longer y m) k

-- the set of all variables
abbrev pub Every : Dtv → Type 0
Every x = Unit {0}
