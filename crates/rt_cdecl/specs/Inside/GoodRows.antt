-- The lines that a header may have, each by itself.
use Rattle.std.specs.Prelude.{◌≤◌}
use Rattle.rt_texts.specs.Goods.{IsNumber}
use Rattle.rt_cdecl.specs.Types.{IsPresent, IsTypedef, IsWide, IsField}
use Rattle.rt_cdecl.specs.Rows.{Row, Typedef, Named, Opened, Gap, Member, Closed, Pair, Half, Stated, Returns, Nothing, Value, Both}
use Rattle.rt_cdecl.specs.GoodDecls.{AreArgs}

-- one value is that of something
abbrev pub IsReturned : Returns → Type 0
IsReturned Nothing = Unit {0}
IsReturned (Value t) = IsWide t × IsPresent t
IsReturned Both = Unit {0}

-- a line that names or begins a struct, or begins a pair of results
abbrev pub IsStructLine : Row → Type 0
IsStructLine (Named n) = IsNumber n
IsStructLine (Opened n) = IsNumber n
IsStructLine (Pair n) = IsNumber n
IsStructLine row = ⊥

-- a line of such parts
abbrev pub IsRow : Row → Type 0
IsRow (Typedef t) = IsTypedef t
IsRow (Named n) = IsNumber n
IsRow (Opened n) = IsNumber n
IsRow (Gap k n) = IsNumber k × IsNumber n
IsRow (Member field) = IsField field
IsRow Closed = Unit {0}
IsRow (Pair n) = IsNumber n
IsRow (Half r t) = (r ≤ 1) × IsWide t
IsRow (Stated returns n args) = IsReturned returns × IsNumber n × AreArgs args
