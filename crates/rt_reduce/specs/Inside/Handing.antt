-- Lines that stood before, of which none follows from the others.
use Rattle.std.specs.Prelude.{◌≡◌, ◌∷◌, ◌++◌, ◌⊎◌, List, Contains}
use Rattle.rt_lines.specs.Numbering.{deduplicated}
use Rattle.rt_lines.specs.declared.line.Line.{Line}
use Rattle.rt_lines.specs.Orders.{Below}
use Rattle.rt_rules.specs.Rules.{Derivable}

-- none of the lines follows from the others
abbrev pub AreNeeded : Below → List Line → Type 0
AreNeeded order lines = (before after : List Line) (l : Line) → lines ≡ before ++ l ∷ after →
    Derivable order (before ++ after) l → ⊥

-- each of the lines is known, or follows from those that stood before and are gone
pub record DoFollow (order : Below) (lines before known : List Line) : Type 0 where
  pub gone : List Line
  pub come : List Line
  pub stood : (g : Line) → Contains gone g → Contains before g × (Contains (deduplicated lines) g → ⊥)
  pub all : (m : Line) → Contains lines m → Contains come m ⊎ Contains known m
  pub derived : (m : Line) → Contains come m → Derivable order gone m
