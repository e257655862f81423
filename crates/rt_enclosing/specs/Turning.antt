-- Upper relations that tell apart which variables may have a common lower variable, and which a common upper one.
use Rattle.std.specs.Prelude.{◌≡◌}
use Rattle.rt_lines.specs.declared.label.Label.{Label}
use Rattle.rt_lines.specs.declared.label.Label.TheVariants.{Load, Store}
use Rattle.rt_lines.specs.declared.label.Variance.TheVariants.{Co, Contra}
use Rattle.rt_lines.specs.Words.{label_variance}
use Rattle.rt_bridge.specs.Growing.{Var, dot, Given, E, Der}
use Rattle.rt_bridge.specs.Counted.{IsPointer, Flip}
use Rattle.rt_enclosing.specs.Lower.{IsThere}

-- variables with a letter more, which exist and are in the set; what they have a letter more than has one shape, and counts matter at the
-- first
pub record AreBehind (L : Given) (M W : Var → Type 0) (x y : Var) (l m : Label) : Type 0 where
  pub first : IsThere L M (dot x l)
  pub second : IsThere L M (dot y m)
  pub same : Der L (E x y)
  pub matters : W (dot x l)

-- an upper relation: what lies below what, what may have a common lower variable, what may have a common upper one, where counts matter,
-- and what is pushed, which is a part of the first. Counts matter at all of a shape, where a variable can be read and written through, and
-- where they matter behind a letter
pub record IsTurning (L : Given) (M W : Var → Type 0) (below meets joins pushed : Var → Var → Type 0) : Type 0 where
  pub self : {x : Var} → IsThere L M x → below x x
  pub chain : {x y z : Var} → below x y → below y z → below x z
  pub stays : {x y : Var} → pushed x y → below x y
  -- from variables of one shape to what is behind a letter of both, by its sign; and from the store of one to the load of another that may
  -- have a common lower variable
  pub co : {x y : Var} (l : Label) → label_variance l ≡ Co → IsThere L M (dot x l) → IsThere L M (dot y l) → Der L (E x y) →
      below x y → pushed (dot x l) (dot y l)
  pub contra : {x y : Var} (l : Label) → label_variance l ≡ Contra → IsThere L M (dot x l) → IsThere L M (dot y l) →
      Der L (E x y) →
      below x y → pushed (dot y l) (dot x l)
  pub pointer : {x y : Var} → IsThere L M (dot x Store) → IsThere L M (dot y Load) → Flip L x → Der L (E x y) →
      meets x y → pushed (dot x Store) (dot y Load)
  pub flips : {x : Var} → IsThere L M x → Flip L x → W x
  pub shape : {x y : Var} → Der L (E x y) → W x → W y
  pub letter : {x : Var} (l : Label) → IsThere L M (dot x l) → W (dot x l) → W x
  -- which may have a common one: each variable and itself, and whatever lies above, or below, those that may have one
  pub alone_meets : {x : Var} → IsThere L M x → W x → meets x x
  pub turned_meets : {x y : Var} → Der L (E x y) → meets x y → meets y x
  pub onward_meets : {x y z : Var} → meets x y → below y z → meets x z
  pub alone_joins : {x : Var} → IsThere L M x → W x → joins x x
  pub turned_joins : {x y : Var} → joins x y → joins y x
  pub onward_joins : {x y z : Var} → joins x y → below z y → joins x z
  -- and what is behind a letter of two that may have one, by its sign
  pub meets_co : {x y : Var} (l : Label) → label_variance l ≡ Co → AreBehind L M W x y l l → meets x y → meets (dot x l) (dot y l)
  pub meets_contra : {x y : Var} (l : Label) → label_variance l ≡ Contra → AreBehind L M W x y l l → joins x y →
      meets (dot x l) (dot y l)
  pub joins_co : {x y : Var} (l : Label) → label_variance l ≡ Co → AreBehind L M W x y l l → joins x y → joins (dot x l) (dot y l)
  pub joins_contra : {x y : Var} (l : Label) → label_variance l ≡ Contra → AreBehind L M W x y l l → meets x y →
      joins (dot x l) (dot y l)
  -- and all loads and stores of one shape of what can be read and written through
  pub meets_pointer : {x y : Var} {l m : Label} → IsPointer l → IsPointer m → Flip L x → AreBehind L M W x y l m →
      meets (dot x l) (dot y m)
  pub joins_pointer : {x y : Var} {l m : Label} → IsPointer l → IsPointer m → Flip L x → AreBehind L M W x y l m →
      joins (dot x l) (dot y m)
