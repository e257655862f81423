-- The laws that the functions of `laws` state.
use Rattle.std.specs.Prelude.{◌≡◌, ◌↔◌, ℕ, List, Bool, true}
use Rattle.rt_lines.specs.declared.variable.Base.{Base}
use Rattle.rt_lines.specs.declared.variable.Base.TheVariants.{Exist}
use Rattle.rt_lines.specs.declared.line.Line.{Line}
use Rattle.rt_lines.specs.Orders.{Below}
use Rattle.rt_rules.specs.Alike.{Alike}
use Rattle.rt_rules.specs.Laws.{NamesBase}
use Rattle.rt_trim.specs.Idle.{AreIdle, trimmed}

-- where every existential is inside, the outside can derive the same when the lines of idle existentials become their shapes
abbrev pub TrimsAlikeLaw : Type 0
TrimsAlikeLaw =
    (order : Below) (inside : Base → Bool) (lines : List Line) (idle : ℕ → Bool) → ((n : ℕ) → inside (Exist n) ≡ true) →
    AreIdle lines idle → Alike order inside lines (trimmed idle lines)

-- one list at most is left
abbrev pub OneTrimLaw : Type 0
OneTrimLaw = (lines : List Line) (idle other : ℕ → Bool) → AreIdle lines idle → AreIdle lines other →
    trimmed idle lines ≡ trimmed other lines

-- the same bases are named
abbrev pub TrimsNamesLaw : Type 0
TrimsNamesLaw = (lines : List Line) (idle : ℕ → Bool) (b : Base) → NamesBase (trimmed idle lines) b ↔ NamesBase lines b
