-- Digests: numbers that are the same for equal lines, and seldom for others. The digest of a word goes on from that of its front.
use Rattle.std.specs.Prelude.{ℕ, ◌+◌, ◌*◌, ◌%◌, ◌^◌, ◌/◌, List, fold}
use Rattle.std.specs.Int.{cast_unsigned, w32}
use Rattle.rt_lines.specs.declared.label.Loc.TheVariants.{Arg, Stack}
use Rattle.rt_lines.specs.declared.label.Label.{Label}
use Rattle.rt_lines.specs.declared.label.Label.TheVariants.{In, Out, Load, Store, Field}
use Rattle.rt_lines.specs.declared.variable.Base.{Base}
use Rattle.rt_lines.specs.declared.variable.Base.TheVariants.{Proc, Global, Exist, Outer}
use Rattle.rt_lines.specs.declared.variable.Dtv.{Dtv}
use Rattle.rt_lines.specs.declared.line.Line.{Line}
use Rattle.rt_lines.specs.declared.line.Line.TheVariants.{Var, Same, Sub, Low, Up}
use Rattle.rt_lines.specs.Words.{times, variance_of_word}
use Rattle.rt_polar.specs.declared.digest.Summary.{Summary}

-- the number of a letter
abbrev pub letter_code : Label → ℕ
letter_code Load = 1
letter_code Store = 2
letter_code (Out n) = 3 + n
letter_code (In (Arg n)) = 512 + n
letter_code (In (Stack k)) = 2 ^ 32 + k
letter_code (Field width offset) = 2 ^ 33 + 2 ^ 32 * width + cast_unsigned w32 offset

-- the number of a base
abbrev pub base_code : Base → ℕ
base_code (Proc n) = 2 ^ 34 + n
base_code (Global n) = 2 ^ 35 + n
base_code (Exist n) = 2 ^ 36 + n
base_code (Outer n) = 2 ^ 37 + n

-- a digest, and a number more
abbrev pub mixed : ℕ → ℕ → ℕ
mixed digest code = ((digest * 11400714819323198485) % 2 ^ 64 + code) % 2 ^ 64

-- a digest, and the letters of a word more
abbrev pub with_letter : ℕ → Label → ℕ
with_letter digest letter = mixed digest (letter_code letter)

abbrev pub with_word : ℕ → List Label → ℕ
with_word digest word = fold with_letter digest word

-- what is known of a variable
abbrev pub summary : Dtv → Summary
summary x = record { digest = with_word (base_code x.base) x.word; variance = variance_of_word x.word }

-- what is known of it with a word more
abbrev pub followed : Summary → List Label → Summary
followed known word = record { digest = with_word known.digest word; variance = times known.variance (variance_of_word word) }

-- the first and the last side of a line
abbrev pub first_side : Line → Dtv
first_side (Var x) = x
first_side (Same x y) = x
first_side (Sub x y) = x
first_side (Low k x) = x
first_side (Up x k) = x

abbrev pub last_side : Line → Dtv
last_side (Var x) = x
last_side (Same x y) = y
last_side (Sub x y) = y
last_side (Low k x) = x
last_side (Up x k) = x

-- the number of a line's form and of its constant
abbrev pub form_code : Line → ℕ
form_code (Var x) = 1
form_code (Same x y) = 2
form_code (Sub x y) = 3
form_code (Low k x) = 2 ^ 16 + k
form_code (Up x k) = 2 ^ 17 + k

-- the digest of a line
abbrev pub digest_of : Line → ℕ
digest_of l = mixed (mixed (mixed (form_code l) (summary (first_side l)).digest) (summary (last_side l)).digest) 0 / 2 ^ 32
