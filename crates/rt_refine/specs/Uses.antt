-- The lines in which an existential stands on one side, and what stands beside it there.
use Rattle.std.specs.Prelude.{◌≡◌, ◌↔◌, ℕ, List, Contains}
use Rattle.rt_lines.specs.declared.label.Label.{Label}
use Rattle.rt_lines.specs.declared.variable.Dtv.{Dtv}
use Rattle.rt_lines.specs.declared.line.Line.{Line}
use Rattle.rt_lines.specs.declared.line.Line.TheVariants.{Sub, Low, Up}
use Rattle.rt_refine.specs.Refinements.{of_exist, move}
use Rattle.rt_refine.specs.declared.uses.Side.{Side}
use Rattle.rt_refine.specs.declared.uses.Side.TheVariants.{Left, Right}

-- a variable or a constant on the other side
pub data Peer : Type 0 where
  Variable : Dtv → Peer
  Constant : ℕ → Peer

-- the word of the existential, and what stands on the other side
abbrev pub Use : Type 0
Use = List Label × Peer

-- the line in which the existential stands on the side
abbrev pub use_line : Side → ℕ → Use → Line
use_line Left n (w, Variable z) = Sub (of_exist n w) z
use_line Left n (w, Constant k) = Up (of_exist n w) k
use_line Right n (w, Variable z) = Sub z (of_exist n w)
use_line Right n (w, Constant k) = Low k (of_exist n w)

-- the same, a variable by its class
abbrev pub move_peer : (ℕ → ℕ) → Peer → Peer
move_peer class (Variable z) = Variable (move class z)
move_peer class (Constant k) = Constant k

abbrev pub move_use : (ℕ → ℕ) → Use → Use
move_use class u = (u.0, move_peer class u.1)

-- the existential has the use in one of the lines, but for classes
abbrev pub Stands : Side → List Line → (ℕ → ℕ) → ℕ → Use → Type 0
Stands side lines class n u = (v : Use) × Contains lines (use_line side n v) × (move_use class v ≡ u)

-- two existentials have the same uses on the side, but for classes
abbrev pub HaveSameUses : Side → List Line → (ℕ → ℕ) → ℕ → ℕ → Type 0
HaveSameUses side lines class v w = (u : Use) → Stands side lines class v u ↔ Stands side lines class w u
