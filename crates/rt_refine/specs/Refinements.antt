-- Two-sided refinement of existentials: classes of existentials that have one shape and the same lines but for classes.
use Rattle.std.specs.Prelude.{◌≡◌, ◌≤◌, ℕ, ◌⊎◌, List, map, Contains}
use Rattle.rt_lines.specs.declared.label.Label.{Label}
use Rattle.rt_lines.specs.declared.variable.Base.{Base}
use Rattle.rt_lines.specs.declared.variable.Base.TheVariants.{Proc, Global, Exist, Outer}
use Rattle.rt_lines.specs.declared.variable.Dtv.{Dtv}
use Rattle.rt_lines.specs.declared.line.Line.{Line}
use Rattle.rt_lines.specs.declared.line.Line.TheVariants.{Same, Sub, Low, Up}
use Rattle.rt_lines.specs.Orders.{Below}
use Rattle.rt_lines.specs.Sides.{map_line, renamed}
use Rattle.rt_rules.specs.Rules.{Derivable}
use Rattle.rt_rules.specs.Put.{exist}

-- the existential with a word
abbrev pub of_exist : ℕ → List Label → Dtv
of_exist n w = record { base = Exist n; word = w }

-- the base, an existential by the name of its class
abbrev pub moved : (ℕ → ℕ) → Base → Base
moved class (Proc n) = Proc n
moved class (Global n) = Global n
moved class (Exist n) = Exist (class n)
moved class (Outer n) = Outer n

-- the variable of that base with the same word
abbrev pub move : (ℕ → ℕ) → Dtv → Dtv
move class = renamed (moved class)

-- each `<=` line and bound of the first existential is one of the second: on the same side with the same word, and its other side is the
-- same but for classes
pub record AreMatched (lines : List Line) (class : ℕ → ℕ) (v w : ℕ) : Type 0 where
  pub left : (u : List Label) (y : Dtv) → Contains lines (Sub (of_exist v u) y) →
      (z : Dtv) × Contains lines (Sub (of_exist w u) z) × (move class z ≡ move class y)
  pub right : (x : Dtv) (u : List Label) → Contains lines (Sub x (of_exist v u)) →
      (z : Dtv) × Contains lines (Sub z (of_exist w u)) × (move class z ≡ move class x)
  pub low : (k : ℕ) (u : List Label) → Contains lines (Low k (of_exist v u)) → Contains lines (Low k (of_exist w u))
  pub up : (u : List Label) (k : ℕ) → Contains lines (Up (of_exist v u) k) → Contains lines (Up (of_exist w u) k)

-- Each class has the name of its least member, whose shape the others have, and its members have the same lines but for classes. So an
-- existential that no line names is alone in its class.
pub record IsRefinement (lines : List Line) (class : ℕ → ℕ) : Type 0 where
  pub least : (v : ℕ) → class v ≤ v
  pub own : (v : ℕ) → class (class v) ≡ class v
  pub shaped : (v : ℕ) → (class v ≡ v) ⊎ ((order : Below) → Derivable order lines (Same (exist v) (exist (class v))))
  pub matched : (v w : ℕ) → class v ≡ class w → AreMatched lines class v w

-- no refinement has two existentials in one class that are in two classes here
pub record IsCoarsest (lines : List Line) (class : ℕ → ℕ) : Type 0 where
  pub refines : IsRefinement lines class
  pub widest : (other : ℕ → ℕ) → IsRefinement lines other → (v w : ℕ) → other v ≡ other w → class v ≡ class w

-- the lines with the least existential of each class in the place of the others
abbrev pub refined : (ℕ → ℕ) → List Line → List Line
refined class lines = map (map_line (move class)) lines
