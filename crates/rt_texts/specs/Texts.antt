-- The one text of a line.
use Rattle.std.specs.Prelude.{ℕ, List, [], ◌∷◌, ◌++◌, codes, decimal, slice_index_or}
use Rattle.std.specs.Fmt.{signed_decimal}
use Rattle.std.specs.List.{flat_map}
use Rattle.rt_lines.specs.declared.label.Loc.TheVariants.{Arg, Stack}
use Rattle.rt_lines.specs.declared.label.Label.{Label}
use Rattle.rt_lines.specs.declared.label.Label.TheVariants.{In, Out, Load, Store, Field}
use Rattle.rt_lines.specs.declared.variable.Base.{Base}
use Rattle.rt_lines.specs.declared.variable.Base.TheVariants.{Proc, Global, Exist, Outer}
use Rattle.rt_lines.specs.declared.variable.Dtv.{Dtv}
use Rattle.rt_lines.specs.declared.line.Line.{Line}
use Rattle.rt_lines.specs.declared.line.Line.TheVariants.{Var, Same, Sub, Low, Up}
use Rattle.rt_lines.specs.declared.line.Judge.{Judge}
use Rattle.rt_lines.specs.declared.line.Judge.TheVariants.{Var as JudgeVar, Sub as JudgeSub, Low as JudgeLow, Up as JudgeUp}

-- what stands before a field's offset
abbrev pub field_front : ℕ → List ℕ
field_front w = codes "s" ++ decimal w ++ codes "@"

-- a label's text
abbrev pub label_text : Label → List ℕ
label_text (In (Arg n)) = codes "in_a" ++ decimal n
label_text (In (Stack k)) = codes "in_stack" ++ decimal k
label_text (Out n) = codes "out_a" ++ decimal n
label_text Load = codes "load"
label_text Store = codes "store"
label_text (Field w k) = field_front w ++ signed_decimal k

-- a base's text: a letter for its kind, and its number
abbrev pub base_text : Base → List ℕ
base_text (Proc n) = codes "f" ++ decimal n
base_text (Global n) = codes "g" ++ decimal n
base_text (Exist n) = codes "t" ++ decimal n
base_text (Outer n) = codes "x" ++ decimal n

-- a dot before each label
abbrev pub word_text : List Label → List ℕ
word_text [] = []
word_text (l ∷ w) = 46 ∷ label_text l ++ word_text w

-- the base and the word
abbrev pub dtv_text : Dtv → List ℕ
dtv_text x = base_text x.base ++ word_text x.word

-- a hash sign and the constant's name
abbrev pub constant_text : List (List ℕ) → ℕ → List ℕ
constant_text names k = 35 ∷ slice_index_or names k []

-- a line's text, without the line's end
abbrev pub line_text : List (List ℕ) → Line → List ℕ
line_text names (Var x) = codes "var " ++ dtv_text x
line_text names (Same x y) = codes "same " ++ dtv_text x ++ codes " " ++ dtv_text y
line_text names (Sub x y) = dtv_text x ++ codes " <= " ++ dtv_text y
line_text names (Low k x) = constant_text names k ++ codes " <= " ++ dtv_text x
line_text names (Up x k) = dtv_text x ++ codes " <= " ++ constant_text names k

-- a text of lines: each line's text and a line end
abbrev pub lines_text : List (List ℕ) → List Line → List ℕ
lines_text names lines = flat_map (λ l. line_text names l ++ 10 ∷ []) lines

-- a judgement's text, that of the line that says the same
abbrev pub judge_text : List (List ℕ) → Judge → List ℕ
judge_text names (JudgeVar x) = line_text names (Var x)
judge_text names (JudgeSub x y) = line_text names (Sub x y)
judge_text names (JudgeLow k x) = line_text names (Low k x)
judge_text names (JudgeUp x k) = line_text names (Up x k)
