-- The text of a name.
use Rattle.std.specs.Prelude.{ℕ, ◌+◌, ◌/◌, ◌%◌, ◌==◌, Bool, true, false, ◌&&◌, nat_lt, nat_le, if◌then◌else◌, List, [], ◌∷◌, codes}
use Rattle.std.specs.List.{flat_map}

-- the digit of a number below 16: 0 to 9, a to f
abbrev pub hexadecimal_digit : ℕ → ℕ
hexadecimal_digit n = if nat_lt n 10 then 48 + n else 87 + n

-- the visible bytes of ASCII, but for the backslash
abbrev pub is_plain : ℕ → Bool
is_plain b = nat_le 33 b && nat_le b 126 && (if b == 92 then false else true)

-- a plain byte, or a backslash and two digits
abbrev pub byte_text : ℕ → List ℕ
byte_text b = if is_plain b then b ∷ [] else 92 ∷ hexadecimal_digit (b / 16) ∷ hexadecimal_digit (b % 16) ∷ []

-- each byte's text; the empty name has the text of the name `-`, and that one is written by its digits
abbrev pub name_text : List ℕ → List ℕ
name_text [] = codes "-"
name_text (b ∷ []) = if b == 45 then 92 ∷ codes "2d" else byte_text b
name_text (a ∷ b ∷ bytes) = flat_map byte_text (a ∷ b ∷ bytes)
