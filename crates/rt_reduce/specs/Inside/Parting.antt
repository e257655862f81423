-- What `<=` lines say of shapes, where a store counts as a load.
use Rattle.std.specs.Prelude.{◌≡◌, ℕ, List, map, Bool, true, Some, Contains, slice_get}
use Rattle.rt_lines.specs.declared.label.Label.{Label}
use Rattle.rt_lines.specs.declared.label.Label.TheVariants.{In, Out, Load, Store, Field}
use Rattle.rt_lines.specs.declared.variable.Dtv.{Dtv}
use Rattle.rt_lines.specs.declared.line.Line.{Line}
use Rattle.rt_lines.specs.declared.line.Line.TheVariants.{Var, Same, Sub}
use Rattle.rt_lines.specs.Orders.{Below}
use Rattle.rt_rules.specs.Rules.{Derivable}
use Rattle.rt_sure.specs.Fates.{flag_at}

-- a letter, but that a store counts as a load
abbrev pub pointed_letter : Label → Label
pointed_letter (In at) = In at
pointed_letter (Out n) = Out n
pointed_letter Load = Load
pointed_letter Store = Load
pointed_letter (Field bits at) = Field bits at

-- a variable, but that stores count as loads
abbrev pub pointed : Dtv → Dtv
pointed x = record { base = x.base; word = map pointed_letter x.word }

-- what is said of the `<=` lines: the sides of those that are flagged have one shape, and the lower sides of all are there
pub record AreJoins (lines : List Line) (flags : List Bool) (joins : List Line) : Type 0 where
  pub joined : (i : ℕ) (x y : Dtv) → slice_get lines i ≡ Some (Sub x y) → flag_at flags i ≡ true → Contains joins (Same (pointed x) (pointed y))
  pub there : (i : ℕ) (x y : Dtv) → slice_get lines i ≡ Some (Sub x y) → (order : Below) → Derivable order joins (Var (pointed x))

-- behind the lines it is said that two variables have one shape, or that they exist
pub record AreAdded (left right : Dtv) (are_one : Bool) (old new : List Line) : Type 0 where
  pub kept : (m : Line) → Contains old m → Contains new m
  pub joined : are_one ≡ true → Contains new (Same left right)
  pub there : (order : Below) → Derivable order new (Var left)
