-- The sides of lines, as a list.
use Rattle.std.proofs.Common.{◌≡◌, ◌⊎◌, inl, inr, List, [], ◌∷◌, map, Contains, refl, sym, ap, subst}
use Rattle.rt_base.proofs.Lists.{Contains-none, Contains-here, Contains-there, Contains-cons_cases, Contains-map_source}
use Rattle.rt_lines.specs.declared.variable.Dtv.{Dtv}
use Rattle.rt_lines.specs.declared.line.Line.{Line}
use Rattle.rt_lines.specs.declared.line.Line.TheVariants.{Var, Same, Sub, Low, Up}
use Rattle.rt_lines.specs.Sides.{map_line, sides}
use Rattle.rt_lines.proofs.LineSides.{sides-map_line}
use Rattle.rt_rules.specs.Rules.{HasSide}

pub first_in : (x z : Dtv) (more : List Dtv) → x ≡ z → Contains (x ∷ more) z
first_in x z more e = subst (Contains (x ∷ more)) e (Contains-here x more)

second_in : (x y z : Dtv) → (x ≡ z) ⊎ (y ≡ z) → Contains (x ∷ y ∷ []) z
second_in x y z (inl e) = first_in x z (y ∷ []) e
second_in x y z (inr e) = Contains-there x (y ∷ []) z (first_in y z [] e)

pub Contains-sides : (l : Line) (z : Dtv) → HasSide l z → Contains (sides l) z
Contains-sides (Var x) z h = first_in x z [] h
Contains-sides (Same x y) z h = second_in x y z h
Contains-sides (Sub x y) z h = second_in x y z h
Contains-sides (Low k x) z h = first_in x z [] h
Contains-sides (Up x k) z h = first_in x z [] h

only : (x z : Dtv) → (x ≡ z) ⊎ Contains [] z → x ≡ z
only x z (inl e) = e
only x z (inr c) = absurd (Contains-none z c)

either : (x y z : Dtv) → (x ≡ z) ⊎ Contains (y ∷ []) z → (x ≡ z) ⊎ (y ≡ z)
either x y z (inl e) = inl e
either x y z (inr c) = inr (only y z (Contains-cons_cases y [] z c))

pub HasSide-in_sides : (l : Line) (z : Dtv) → Contains (sides l) z → HasSide l z
HasSide-in_sides (Var x) z c = only x z (Contains-cons_cases x [] z c)
HasSide-in_sides (Same x y) z c = either x y z (Contains-cons_cases x (y ∷ []) z c)
HasSide-in_sides (Sub x y) z c = either x y z (Contains-cons_cases x (y ∷ []) z c)
HasSide-in_sides (Low k x) z c = only x z (Contains-cons_cases x [] z c)
HasSide-in_sides (Up x k) z c = only x z (Contains-cons_cases x [] z c)

-- a side of a replaced line is a replaced side
pub HasSide-map_line_source : (f : Dtv → Dtv) (l : Line) (x : Dtv) → HasSide (map_line f l) x → (y : Dtv) × HasSide l y × (f y ≡ x)
HasSide-map_line_source f l x h =
    let s = Contains-map_source f (sides l) x (subst (λ xs. Contains xs x) (sides-map_line f l) (Contains-sides (map_line f l) x h)) in
    (s.0, HasSide-in_sides l s.0 s.1, s.2)
