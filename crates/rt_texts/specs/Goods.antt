-- The values that have texts: labels in range, numbers below 2^32, constants below the number of names.
use Rattle.std.specs.Prelude.{◌≡◌, ℕ, ◌<◌, ◌≤◌, ◌^◌, ◌%◌, List, All}
use Rattle.rt_lines.specs.declared.label.Loc.TheVariants.{Arg, Stack}
use Rattle.rt_lines.specs.declared.label.Label.{Label}
use Rattle.rt_lines.specs.declared.label.Label.TheVariants.{In, Out, Load, Store, Field}
use Rattle.rt_lines.specs.declared.variable.Base.{Base}
use Rattle.rt_lines.specs.declared.variable.Base.TheVariants.{Proc, Global, Exist, Outer}
use Rattle.rt_lines.specs.declared.variable.Dtv.{Dtv}
use Rattle.rt_lines.specs.declared.line.Line.{Line}
use Rattle.rt_lines.specs.declared.line.Line.TheVariants.{Var, Same, Sub, Low, Up}
use Rattle.rt_lines.specs.declared.line.Judge.{Judge}
use Rattle.rt_lines.specs.declared.line.Judge.TheVariants.{Var as JudgeVar, Sub as JudgeSub, Low as JudgeLow, Up as JudgeUp}
use Rattle.rt_lines.specs.Words.{IsLabel}

-- the label of an argument in a register
abbrev pub IsArg : Label → Type 0
IsArg (In (Arg n)) = n ≤ 7
IsArg _ = ⊥

-- the label of an argument on the stack
abbrev pub IsStack : Label → Type 0
IsStack (In (Stack k)) = (k % 4 ≡ 0) × (k ≤ 65532)
IsStack _ = ⊥

-- the label of a result
abbrev pub IsOut : Label → Type 0
IsOut (Out n) = n ≤ 1
IsOut _ = ⊥

-- the labels of what is read and written through a pointer
abbrev pub IsPointer : Label → Type 0
IsPointer Load = Unit {0}
IsPointer Store = Unit {0}
IsPointer _ = ⊥

-- the label of a field
abbrev pub IsField : Label → Type 0
IsField (Field w k) = IsLabel (Field w k)
IsField _ = ⊥

-- a number below 2^32
abbrev pub IsNumber : ℕ → Type 0
IsNumber n = n < 2 ^ 32

-- the base's number is one
abbrev pub IsBase : Base → Type 0
IsBase (Proc n) = IsNumber n
IsBase (Global n) = IsNumber n
IsBase (Exist n) = IsNumber n
IsBase (Outer n) = IsNumber n

-- labels of the grammar
abbrev pub IsWord : List Label → Type 0
IsWord w = All IsLabel w

-- a variable of such parts
abbrev pub IsDtv : Dtv → Type 0
IsDtv x = IsBase x.base × IsWord x.word

-- a line of such variables, and constants below the count
abbrev pub IsLine : ℕ → Line → Type 0
IsLine count (Var x) = IsDtv x
IsLine count (Same x y) = IsDtv x × IsDtv y
IsLine count (Sub x y) = IsDtv x × IsDtv y
IsLine count (Low k x) = (k < count) × IsDtv x
IsLine count (Up x k) = IsDtv x × (k < count)

-- a judgement of such variables, and constants below the count
abbrev pub IsJudge : ℕ → Judge → Type 0
IsJudge count (JudgeVar x) = IsDtv x
IsJudge count (JudgeSub x y) = IsDtv x × IsDtv y
IsJudge count (JudgeLow k x) = (k < count) × IsDtv x
IsJudge count (JudgeUp x k) = IsDtv x × (k < count)
