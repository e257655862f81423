-- Type schemes.
use Rattle.std.specs.Prelude.{ℕ, nat_eq, Bool, true, false, ◌&&◌, IsTrue, List, [], ◌∷◌, All}
use Rattle.rt_lines.specs.declared.label.Label.{Label}
use Rattle.rt_lines.specs.declared.label.Label.TheVariants.{In, Out, Load, Store, Field}
use Rattle.rt_lines.specs.declared.variable.Base.{Base}
use Rattle.rt_lines.specs.declared.variable.Base.TheVariants.{Proc, Global, Exist, Outer}
use Rattle.rt_lines.specs.declared.variable.Dtv.{Dtv}
use Rattle.rt_lines.specs.declared.line.Line.{Line}
use Rattle.rt_lines.specs.declared.line.Line.TheVariants.{Var, Same, Sub, Low, Up}

-- the word begins with an argument or a result
abbrev pub is_interface : List Label → Bool
is_interface [] = false
is_interface (In l ∷ w) = true
is_interface (Out n ∷ w) = true
is_interface (Load ∷ w) = false
is_interface (Store ∷ w) = false
is_interface (Field b k ∷ w) = false

-- an argument or a result of the scheme's own procedure, a global or an existential, and what is taken from it
abbrev pub is_scheme_side : ℕ → Base → List Label → Bool
is_scheme_side own (Proc n) w = nat_eq n own && is_interface w
is_scheme_side own (Global n) w = true
is_scheme_side own (Exist n) w = true
is_scheme_side own (Outer n) w = false

abbrev pub is_scheme_variable : ℕ → Dtv → Bool
is_scheme_variable own x = is_scheme_side own x.base x.word

-- a line of such variables
abbrev pub is_scheme_line : ℕ → Line → Bool
is_scheme_line own (Var x) = is_scheme_variable own x
is_scheme_line own (Same x y) = is_scheme_variable own x && is_scheme_variable own y
is_scheme_line own (Sub x y) = is_scheme_variable own x && is_scheme_variable own y
is_scheme_line own (Low k x) = is_scheme_variable own x
is_scheme_line own (Up x k) = is_scheme_variable own x

-- lines of such variables
abbrev pub AreSchemeLines : ℕ → List Line → Type 0
AreSchemeLines own lines = All (λ line. IsTrue (is_scheme_line own line)) lines
