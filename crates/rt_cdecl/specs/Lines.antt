-- Types by their lines: parts of the way to those that declarations use.
use Rattle.std.specs.Prelude.{◌≡◌, ℕ, ◌↔◌, List, ◌++◌, All, Contains, Vec}
use Rattle.std.specs.BTreeMap.{BTreeMap, values}
use Rattle.rt_cdecl.specs.declared.declarations.CType.{CType}
use Rattle.rt_cdecl.specs.Types.{IsTypedef}
use Rattle.rt_cdecl.specs.Rows.{typedef_text}

-- a type that has a line of its own, by its line
pub record IsByLine {Y : Type 0} (entry : Vec ℕ Y × CType) : Type 0 where
  pub typedef : IsTypedef entry.1
  pub line : entry.0.items ≡ typedef_text entry.1

-- each is
abbrev pub AreByLine : {Y : Type 0} → BTreeMap (Vec ℕ Y) CType → Type 0
AreByLine types = All IsByLine types.entries

-- the same types stand in two lists
abbrev pub HaveSame : List CType → List CType → Type 0
HaveSame some others = (t : CType) → Contains some t ↔ Contains others t

-- types by their lines, and the same with more of them
pub record Gains {Y : Type 0} (old new : BTreeMap (Vec ℕ Y) CType) (more : List CType) : Type 0 where
  pub gain : AreByLine old → All IsTypedef more → AreByLine new × HaveSame (values new) (values old ++ more)
