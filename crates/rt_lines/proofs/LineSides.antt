-- Lines whose variables are replaced.
use Rattle.std.proofs.Common.{◌≡◌, ◌≤◌, ℕ, map, length, refl, arith}
use Rattle.rt_lines.specs.declared.variable.Dtv.{Dtv}
use Rattle.rt_lines.specs.declared.line.Line.{Line}
use Rattle.rt_lines.specs.declared.line.Line.TheVariants.{Var, Same, Sub, Low, Up}
use Rattle.rt_lines.specs.Lines.{HasConstantsBelow}
use Rattle.rt_lines.specs.Sides.{map_line, sides}

pub map_line-twice : (f g : Dtv → Dtv) (l : Line) → map_line f (map_line g l) ≡ map_line (λ x. f (g x)) l
map_line-twice f g (Var x) = refl
map_line-twice f g (Same x y) = refl
map_line-twice f g (Sub x y) = refl
map_line-twice f g (Low k x) = refl
map_line-twice f g (Up x k) = refl

-- a line has at most two sides
pub length-sides : (l : Line) → length (sides l) ≤ 2
length-sides (Var x) = omega arith
length-sides (Same x y) = omega arith
length-sides (Sub x y) = omega arith
length-sides (Low k x) = omega arith
length-sides (Up x k) = omega arith

-- the sides of a replaced line are the replaced sides
pub sides-map_line : (f : Dtv → Dtv) (l : Line) → sides (map_line f l) ≡ map f (sides l)
sides-map_line f (Var x) = refl
sides-map_line f (Same x y) = refl
sides-map_line f (Sub x y) = refl
sides-map_line f (Low k x) = refl
sides-map_line f (Up x k) = refl

-- the constants of a replaced line are those of the line
pub HasConstantsBelow-map_line : (count : ℕ) (f : Dtv → Dtv) (l : Line) → HasConstantsBelow count l → HasConstantsBelow count (map_line f l)
HasConstantsBelow-map_line count f (Var x) h = h
HasConstantsBelow-map_line count f (Same x y) h = h
HasConstantsBelow-map_line count f (Sub x y) h = h
HasConstantsBelow-map_line count f (Low k x) h = h
HasConstantsBelow-map_line count f (Up x k) h = h
