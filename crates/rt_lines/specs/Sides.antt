-- The variables of a line.
use Rattle.std.specs.Prelude.{◌≡◌, List, [], ◌∷◌}
use Rattle.rt_lines.specs.declared.variable.Base.{Base}
use Rattle.rt_lines.specs.declared.variable.Dtv.{Dtv}
use Rattle.rt_lines.specs.declared.line.Line.{Line}
use Rattle.rt_lines.specs.declared.line.Line.TheVariants.{Var, Same, Sub, Low, Up}

-- the variables of a line, the left one before the right
abbrev pub sides : Line → List Dtv
sides (Var x) = x ∷ []
sides (Same x y) = x ∷ y ∷ []
sides (Sub x y) = x ∷ y ∷ []
sides (Low k x) = x ∷ []
sides (Up x k) = x ∷ []

-- a line with each variable replaced
abbrev pub map_line : (Dtv → Dtv) → Line → Line
map_line f (Var x) = Var (f x)
map_line f (Same x y) = Same (f x) (f y)
map_line f (Sub x y) = Sub (f x) (f y)
map_line f (Low k x) = Low k (f x)
map_line f (Up x k) = Up (f x) k

-- the variable with its base renamed
abbrev pub renamed : (Base → Base) → Dtv → Dtv
renamed rename x = record { base = rename x.base; word = x.word }

-- a line with each variable replaced by a related one
abbrev pub IsMapped : (Dtv → Dtv → Type 0) → Line → Line → Type 0
IsMapped R (Var x) made = (y : Dtv) × R x y × (made ≡ Var y)
IsMapped R (Same x z) made = (y : Dtv) × (w : Dtv) × R x y × R z w × (made ≡ Same y w)
IsMapped R (Sub x z) made = (y : Dtv) × (w : Dtv) × R x y × R z w × (made ≡ Sub y w)
IsMapped R (Low k x) made = (y : Dtv) × R x y × (made ≡ Low k y)
IsMapped R (Up x k) made = (y : Dtv) × R x y × (made ≡ Up y k)
