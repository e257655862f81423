-- The fields of a file, by place. All numbers are little endian, and past the end all bytes are 0.
use Rattle.std.specs.Prelude.{ℕ, List, slice_index, drop}
use Rattle.byteorder.specs.Endian.{little_number}

unfoldable pub byte_at : List ℕ → ℕ → ℕ
byte_at bytes at = slice_index bytes at

unfoldable pub half_at : List ℕ → ℕ → ℕ
half_at bytes at = little_number 2 (drop at bytes)

unfoldable pub word_at : List ℕ → ℕ → ℕ
word_at bytes at = little_number 4 (drop at bytes)
