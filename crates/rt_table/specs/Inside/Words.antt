-- Words of the stack in which arguments are passed.
use Rattle.std.specs.Prelude.{ℕ, All, List}
use Rattle.rt_lines.specs.Words.{IsLoc}
use Rattle.rt_lines.specs.declared.label.Loc.TheVariants.{Stack}

-- the offsets of such words
abbrev pub AreStackWords : List ℕ → Type 0
AreStackWords words = All (λ (k : ℕ). IsLoc (Stack k)) words
