-- Sums of values, which wrap at 32 bits.
use Rattle.std.specs.Prelude.{◌+◌, ◌%◌, ◌^◌, ◌+ℤ◌, pos, ℕ, ℤ}
use Rattle.std.specs.Int.{cast_signed, cast_unsigned, int_wrap, w32}
use Rattle.rt_track.specs.declared.value.Value.{Value}
use Rattle.rt_track.specs.declared.value.Value.TheVariants.{Const, Sym, Frame, Entry, At, Multi}

-- a value plus a number
abbrev pub plus : Value → ℤ → Value
plus (Const word) k = Const ((word + cast_unsigned w32 k) % 2 ^ 32)
plus (Sym symbol offset) k = Sym symbol (int_wrap w32 (offset +ℤ k))
plus (Frame offset) k = Frame (int_wrap w32 (offset +ℤ k))
plus (Entry reg offset) k = Entry reg (int_wrap w32 (offset +ℤ k))
plus (At site reg offset) k = At site reg (int_wrap w32 (offset +ℤ k))
plus Multi k = Multi

-- the sum of two values, of which the first is neither a constant nor several, for the definition of a register at a site
abbrev pub onto : ℕ → ℕ → Value → Value → Value
onto site reg v (Const word) = plus v (cast_signed w32 word)
onto site reg v Multi = Multi
onto site reg v w = At site reg (pos 0)

-- the sum of two values: where one is a constant, the other plus it; else several where one is several; else a value that the
-- definition of the register at the site gives
abbrev pub sum : ℕ → ℕ → Value → Value → Value
sum site reg (Const word) w = plus w (cast_signed w32 word)
sum site reg Multi w = Multi
sum site reg v w = onto site reg v w
