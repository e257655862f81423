-- Lines in parts, by the uses of a sign that they are.
use Rattle.std.specs.Prelude.{List, map, Bool, true, false, not, cond}
use Rattle.rt_lines.specs.declared.label.Variance.{Variance}
use Rattle.rt_lines.specs.declared.label.Variance.TheVariants.{Co, Contra}
use Rattle.rt_lines.specs.declared.variable.Dtv.{Dtv}
use Rattle.rt_lines.specs.declared.line.Line.{Line}
use Rattle.rt_lines.specs.declared.line.Line.TheVariants.{Var, Same, Sub, Low, Up}
use Rattle.rt_lines.specs.Words.{variance_of_word}
use Rattle.rt_twins.specs.declared.parts.Part.{Part}
use Rattle.rt_twins.specs.declared.parts.Part.TheVariants.{Both, Left, Right}

-- whether a variable is a use of the sign as a left side; if not, it is one as a right side
abbrev pub is_other : Variance → Variance → Bool
is_other Co Co = false
is_other Co Contra = true
is_other Contra Co = true
is_other Contra Contra = false

abbrev pub leads : Variance → Dtv → Bool
leads s x = is_other s (variance_of_word x.word)

-- of sides that lead or not: a use on both sides, or on the one alone
abbrev pub of_sides : Part → Bool → Bool → Bool
of_sides Both p q = cond p (not q) false
of_sides Left p q = cond p q false
of_sides Right p q = cond p false (not q)

abbrev pub of_low : Part → Bool → Bool
of_low Both q = false
of_low Left q = false
of_low Right q = not q

abbrev pub of_up : Part → Bool → Bool
of_up Both p = false
of_up Left p = p
of_up Right p = false

-- whether the line is of the part
abbrev pub is_of : Variance → Part → Line → Bool
is_of sign part (Var x) = false
is_of sign part (Same x y) = false
is_of sign part (Sub x y) = of_sides part (leads sign x) (leads sign y)
is_of sign part (Low k y) = of_low part (leads sign y)
is_of sign part (Up x k) = of_up part (leads sign x)

-- what is left of a line but its order
abbrev pub shape_of : Line → Line
shape_of (Var x) = Var x
shape_of (Same x y) = Same x y
shape_of (Sub x y) = Same x y
shape_of (Low k x) = Var x
shape_of (Up x k) = Var x

-- a line of the part, and of every other one its shape
abbrev pub kept_of : Variance → Part → Line → Line
kept_of sign part l = cond (is_of sign part l) l (shape_of l)

abbrev pub part_of : Variance → Part → List Line → List Line
part_of sign part lines = map (kept_of sign part) lines
