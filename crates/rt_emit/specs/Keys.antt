-- Keys, by which variables are compared.
use Rattle.std.specs.Prelude.{ℕ, List, map}
use Rattle.std.specs.Global.{Vec}

-- the numbers of a key
abbrev pub numbers : Vec (Vec ℕ) → List (List ℕ)
numbers key = map (λ part. part.items) key.items
