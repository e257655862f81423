-- Names read from their texts.
use Rattle.std.specs.Prelude.{ℕ, ◌+◌, ◌*◌, ◌-◌, ◌<◌, ◌==◌, nat_le, ◌&&◌, if◌then◌else◌, List, [], ◌∷◌, All}

-- bytes, as a name is a list of
abbrev pub AreBytes : List ℕ → Type 0
AreBytes name = All (λ b. b < 256) name

-- the value of a digit: 0 to 9, a to f; of any other byte it is 0
abbrev pub digit_value : ℕ → ℕ
digit_value b = if nat_le 48 b && nat_le b 57 then b - 48 else if nat_le 97 b && nat_le b 102 then b - 97 + 10 else 0

-- a text with a byte in place of each backslash and the two digits after it
abbrev pub unescaped : List ℕ → List ℕ
unescaped [] = []
unescaped (a ∷ []) = a ∷ []
unescaped (a ∷ b ∷ []) = a ∷ b ∷ []
unescaped (a ∷ b ∷ c ∷ text) =
    if a == 92 then (16 * digit_value b + digit_value c) ∷ unescaped text else a ∷ unescaped (b ∷ c ∷ text)

-- what the text is the text of, if it is that of a name
abbrev pub meant : List ℕ → List ℕ
meant [] = []
meant (a ∷ []) = if a == 45 then [] else a ∷ []
meant (a ∷ b ∷ text) = unescaped (a ∷ b ∷ text)
