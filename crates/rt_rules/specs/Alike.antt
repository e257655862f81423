-- Lists of lines that say the same to the outside.
use Rattle.std.specs.Prelude.{◌≡◌, ℕ, List, ◌++◌, All, Bool, true, false, not, nat_eq}
use Rattle.rt_lines.specs.declared.variable.Base.{Base}
use Rattle.rt_lines.specs.declared.variable.Base.TheVariants.{Proc, Global, Exist, Outer}
use Rattle.rt_lines.specs.declared.variable.Dtv.{Dtv}
use Rattle.rt_lines.specs.declared.line.Line.{Line}
use Rattle.rt_lines.specs.declared.line.Judge.{Judge}
use Rattle.rt_lines.specs.Orders.{Below}
pub use Rattle.rt_lines.specs.Sides.{map_line}
use Rattle.rt_rules.specs.Rules.{HasSide, Derivable, line_of}

-- no side of the line has an inside base
abbrev pub IsOutside : (Base → Bool) → Line → Type 0
IsOutside inside l = (x : Dtv) → HasSide l x → inside x.base ≡ false

-- what the outside can derive from the first list, it can derive from the second
abbrev pub Covers : Below → (Base → Bool) → List Line → List Line → Type 0
Covers order inside first second =
    (added : List Line) (j : Judge) → All (IsOutside inside) added → IsOutside inside (line_of j) →
    Derivable order (first ++ added) (line_of j) → Derivable order (second ++ added) (line_of j)

-- whatever lines the outside adds, it can derive the same from both lists
abbrev pub Alike : Below → (Base → Bool) → List Line → List Line → Type 0
Alike order inside first second = Covers order inside first second × Covers order inside second first

-- inside for procedure p: the existentials, and the procedures other than p
abbrev pub is_inside_for : ℕ → Base → Bool
is_inside_for p (Proc n) = not (nat_eq n p)
is_inside_for p (Global n) = false
is_inside_for p (Exist n) = true
is_inside_for p (Outer n) = false
