-- Tests of names.
use Rattle.std.specs.Prelude.{ℕ, Bool, true, not, ◌&&◌, ◌||◌, ◌==◌, nat_le, List, [], ◌∷◌, length, slice_index}
use Rattle.std.specs.List.{list_any, list_all}
use Rattle.std.specs.Str.{bytes_eq}

-- a lower-case letter
abbrev pub is_letter : ℕ → Bool
is_letter b = nat_le 97 b && nat_le b 122

-- a lower-case letter, a digit or an underscore
abbrev pub is_name_byte : ℕ → Bool
is_name_byte b = is_letter b || ((nat_le 48 b && nat_le b 57) || b == 95)

-- the spelling of a name: `[a-z][a-z0-9_]*`, with at most 32 bytes
abbrev pub is_spelled : List ℕ → Bool
is_spelled name = (is_letter (slice_index name 0) && list_all is_name_byte name) && nat_le (length name) 32

-- the name stands in the list
abbrev pub has_name : List (List ℕ) → List ℕ → Bool
has_name names name = list_any (λ n. bytes_eq n name) names

-- no name stands twice
abbrev pub are_distinct : List (List ℕ) → Bool
are_distinct [] = true
are_distinct (name ∷ names) = not (has_name names name) && are_distinct names

-- distinct names, spelled as such
abbrev pub are_names : List (List ℕ) → Bool
are_names names = list_all is_spelled names && are_distinct names
