-- The two sides of a line, and their texts.
use Rattle.std.specs.Prelude.{ℕ, ◌<◌, List, []}
use Rattle.rt_lines.specs.declared.line.Line.{Line}
use Rattle.rt_lines.specs.declared.line.Line.TheVariants.{Sub, Low, Up}
use Rattle.rt_texts.specs.declared.line.Pair.{Pair}
use Rattle.rt_texts.specs.declared.line.Bound.{Bound}
use Rattle.rt_texts.specs.Goods.{IsDtv}
use Rattle.rt_texts.specs.Texts.{dtv_text, constant_text}

-- two variables
abbrev pub IsPair : Pair → Type 0
IsPair p = IsDtv p.left × IsDtv p.right

-- the texts of two variables
abbrev pub pair_texts : Pair → List ℕ × List ℕ
pair_texts p = (dtv_text p.left, dtv_text p.right)

-- a constant below the count, and a variable
abbrev pub IsBound : ℕ → Bound → Type 0
IsBound count b = (b.constant < count) × IsDtv b.variable

-- the texts of a constant and a variable
abbrev pub bound_texts : List (List ℕ) → Bound → List ℕ × List ℕ
bound_texts names b = (constant_text names b.constant, dtv_text b.variable)

-- a line of two sides with `<=` between them
abbrev pub IsRelation : ℕ → Line → Type 0
IsRelation count (Sub x y) = IsDtv x × IsDtv y
IsRelation count (Low k x) = (k < count) × IsDtv x
IsRelation count (Up x k) = IsDtv x × (k < count)
IsRelation count _ = ⊥

-- the texts of such a line's sides
abbrev pub side_texts : List (List ℕ) → Line → List ℕ × List ℕ
side_texts names (Sub x y) = (dtv_text x, dtv_text y)
side_texts names (Low k x) = (constant_text names k, dtv_text x)
side_texts names (Up x k) = (dtv_text x, constant_text names k)
side_texts names _ = ([], [])
