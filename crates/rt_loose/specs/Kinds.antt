-- Kinds of rests, and the letters that may be pushed onto ways.
use Rattle.std.specs.Prelude.{List}
use Rattle.rt_lines.specs.declared.label.Label.{Label}
use Rattle.rt_lines.specs.declared.label.Label.TheVariants.{Load, Store}
use Rattle.rt_lines.specs.declared.label.Variance.{Variance}
use Rattle.rt_lines.specs.declared.label.Variance.TheVariants.{Contra}
use Rattle.rt_lines.specs.declared.variable.Dtv.{Dtv}
use Rattle.rt_lines.specs.declared.line.Line.{Line}
use Rattle.rt_lines.specs.declared.line.Line.TheVariants.{Var}
use Rattle.rt_lines.specs.Words.{label_variance, times}
use Rattle.rt_lines.specs.Orders.{Below}
use Rattle.rt_rules.specs.Rules.{longer, Derivable}
pub use Rattle.rt_bridge.specs.Counted.{IsPointer}

-- what is asked of the letters that are to follow: a load or store of what can be read and written through, or a variance
pub data Kind : Type 0 where
  flexible : Kind
  signed : Variance → Kind

-- the kind of letters with one before them, if that one isn't a load or store of what can be read and written through
abbrev pub before : Label → Kind → Kind
before l flexible = flexible
before l (signed a) = signed (times (label_variance l) a)

-- the kind of the same letters the other way round
abbrev pub opposite : Kind → Kind
opposite flexible = flexible
opposite (signed a) = signed (times Contra a)

-- the variable can be read and written through
abbrev pub Flips : Below → List Line → Dtv → Type 0
Flips order lines x = Derivable order lines (Var (longer x Load)) × Derivable order lines (Var (longer x Store))

-- with l behind x and m behind another variable, a way of one kind between these two gives one of another kind between what is
-- behind: each letter may follow both; and of what can be read and written through a load or store may follow each
pub data Push (order : Below) (lines : List Line) (x : Dtv) : Label → Label → Kind → Kind → Type 0 where
  half : {l m : Label} {k : Kind} → IsPointer l → IsPointer m → Flips order lines x → Push order lines x l m flexible k
  kept : {l : Label} {k : Kind} → Push order lines x l l (before l k) k
