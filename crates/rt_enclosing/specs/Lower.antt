-- A relation without counts, of which each pair is derivable.
use Rattle.std.specs.Prelude.{◌≡◌, List}
use Rattle.rt_lines.specs.declared.label.Label.{Label}
use Rattle.rt_lines.specs.declared.label.Label.TheVariants.{Load, Store}
use Rattle.rt_lines.specs.declared.label.Variance.TheVariants.{Co, Contra}
use Rattle.rt_lines.specs.Words.{variance_of_word}
use Rattle.rt_bridge.specs.Growing.{Var, dot, rest, Given, V, S, Der, HasSub}

-- the variable is in the set, and exists
abbrev pub IsThere : Given → (Var → Type 0) → Var → Type 0
IsThere L M x = M x × Der L (V x)

-- what two variables may be to each other: the first below the second, both above one variable, or both below one
pub data Relation : Type 0 where
  below : Relation
  meets : Relation
  joins : Relation

-- the relation behind a path that turns types round, the other way
abbrev pub opposite : Relation → Relation
opposite below = below
opposite meets = joins
opposite joins = meets

-- the least relations between variables of a set, which exist: what lies below has the subtype lines, is reflexive and transitive, and goes
-- from the store of one variable to the load of another that meets it; variables meet above one, and join below one; and each relation goes
-- on behind each path by the path's sign, whether or not the variable above or below which they lie has the path in the set
pub data Lower (L : Given) (M : Var → Type 0) : Relation → Var → Var → Type 0 where
  line : {x y : Var} → HasSub L x y → Lower L M below x y
  self : {x : Var} → IsThere L M x → Lower L M below x x
  chain : {x y z : Var} → Lower L M below x y → Lower L M below y z → Lower L M below x z
  meet : {x y z : Var} → Lower L M below z x → Lower L M below z y → Lower L M meets x y
  meet_turned : {x y : Var} → Lower L M meets x y → Lower L M meets y x
  meet_onward : {x y z : Var} → Lower L M meets x y → Lower L M below y z → Lower L M meets x z
  join : {x y z : Var} → Lower L M below x z → Lower L M below y z → Lower L M joins x y
  join_turned : {x y : Var} → Lower L M joins x y → Lower L M joins y x
  join_onward : {x y z : Var} → Lower L M joins x y → Lower L M below z y → Lower L M joins x z
  co : {r : Relation} {x y : Var} (w : List Label) → variance_of_word w ≡ Co → Lower L M r x y →
      IsThere L M (rest x w) → IsThere L M (rest y w) → Lower L M r (rest x w) (rest y w)
  contra : {r : Relation} {x y : Var} (w : List Label) → variance_of_word w ≡ Contra → Lower L M r x y →
      IsThere L M (rest x w) → IsThere L M (rest y w) → Lower L M (opposite r) (rest y w) (rest x w)
  pointer_co : {x y : Var} (w : List Label) → variance_of_word w ≡ Co → Lower L M meets x y →
      IsThere L M (rest (dot x Store) w) → IsThere L M (rest (dot y Load) w) →
      Lower L M below (rest (dot x Store) w) (rest (dot y Load) w)
  pointer_contra : {x y : Var} (w : List Label) → variance_of_word w ≡ Contra → Lower L M meets x y →
      IsThere L M (rest (dot x Store) w) → IsThere L M (rest (dot y Load) w) →
      Lower L M below (rest (dot y Load) w) (rest (dot x Store) w)

-- what the relations say by derivability
abbrev pub Means : Given → Relation → Var → Var → Type 0
Means L below x y = Der L (S x y)
Means L meets x y = (z : Var) × Der L (S z x) × Der L (S z y)
Means L joins x y = (z : Var) × Der L (S x z) × Der L (S y z)
