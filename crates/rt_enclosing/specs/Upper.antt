-- Relations without counts that have each derivable pair.
use Rattle.std.specs.Prelude.{◌≡◌, ◌⊎◌}
use Rattle.rt_lines.specs.declared.label.Label.{Label}
use Rattle.rt_lines.specs.declared.label.Label.TheVariants.{Load, Store}
use Rattle.rt_lines.specs.declared.label.Variance.TheVariants.{Co, Contra}
use Rattle.rt_lines.specs.Words.{label_variance}
use Rattle.rt_bridge.specs.Growing.{Var, dot, Given, E, Der, HasSub}
use Rattle.rt_bridge.specs.Counted.{IsPointer, Flip}
use Rattle.rt_enclosing.specs.Lower.{IsThere}

-- letters behind variables of one shape between which something can be pushed: they are equal, or both are load or store of what can be
-- read and written through
abbrev pub AreBeside : Given → Var → Label → Label → Type 0
AreBeside L x l m = (l ≡ m) ⊎ (IsPointer l × IsPointer m × Flip L x)

-- variables behind such letters, which can be read and written through: counts alone tell whether a variable lies below both
pub record NeedHub (L : Given) (M : Var → Type 0) (x y : Var) (l m : Label) : Type 0 where
  pub first : IsThere L M (dot x l)
  pub second : IsThere L M (dot y m)
  pub same : Der L (E x y)
  pub beside : AreBeside L x l m
  pub flips : Flip L (dot x l)

-- an upper relation: what lies below what, what may have a common lower variable, and what is pushed, which is a part of the first
pub record IsUpper (L : Given) (M : Var → Type 0) (below meets pushed : Var → Var → Type 0) : Type 0 where
  pub self : {x : Var} → IsThere L M x → below x x
  pub chain : {x y z : Var} → below x y → below y z → below x z
  pub stays : {x y : Var} → pushed x y → below x y
  -- from variables of one shape to what is behind a letter of both, by its sign; and from the store of one to the load of another that may
  -- have a common lower variable
  pub co : {x y : Var} (l : Label) → label_variance l ≡ Co → IsThere L M (dot x l) → IsThere L M (dot y l) → Der L (E x y) →
      below x y → pushed (dot x l) (dot y l)
  pub contra : {x y : Var} (l : Label) → label_variance l ≡ Contra → IsThere L M (dot x l) → IsThere L M (dot y l) →
      Der L (E x y) →
      below x y → pushed (dot y l) (dot x l)
  pub pointer : {x y : Var} → IsThere L M (dot x Store) → IsThere L M (dot y Load) → Flip L x → Der L (E x y) →
      meets x y → pushed (dot x Store) (dot y Load)
  -- which may have one: each variable that can be read and written through and itself, whatever lies above those that may have one, and
  -- whatever needs a hub
  pub alone : {x : Var} → IsThere L M x → Flip L x → meets x x
  pub turned : {x y : Var} → meets x y → meets y x
  pub onward : {x y z : Var} → meets x y → below y z → meets x z
  pub hubs : {x y : Var} {l m : Label} → NeedHub L M x y l m → meets (dot x l) (dot y m)

-- a variable below two others, whose load and store are in the set
pub record HasHub (M : Var → Type 0) (below : Var → Var → Type 0) (x y : Var) : Type 0 where
  pub hub : Var
  pub load : M (dot hub Load)
  pub store : M (dot hub Store)
  pub first : below hub x
  pub second : below hub y

-- an upper relation by hubs. The set has variables besides those that exist: the hubs with what is behind them
pub record IsByHubs (L : Given) (M : Var → Type 0) (below pushed : Var → Var → Type 0) : Type 0 where
  pub self : {x : Var} → M x → below x x
  pub chain : {x y z : Var} → below x y → below y z → below x z
  pub stays : {x y : Var} → pushed x y → below x y
  pub co : {x y : Var} (l : Label) → label_variance l ≡ Co → M (dot x l) → M (dot y l) → below x y → pushed (dot x l) (dot y l)
  pub contra : {x y : Var} (l : Label) → label_variance l ≡ Contra → M (dot x l) → M (dot y l) → below x y →
      pushed (dot y l) (dot x l)
  pub pointer : {x : Var} → M (dot x Store) → M (dot x Load) → pushed (dot x Store) (dot x Load)
  -- load and store of what can be read and written through are in the set, and where a hub is needed there is one
  pub filled : {x : Var} → IsThere L M x → Flip L x → M (dot x Load) × M (dot x Store)
  pub hubs : {x y : Var} {l m : Label} → NeedHub L M x y l m → HasHub M below (dot x l) (dot y m)

-- steps of subtype lines, and of what is pushed
pub data Steps (L : Given) (pushed : Var → Var → Type 0) : Var → Var → Type 0 where
  stay : {x : Var} → Steps L pushed x x
  by_line : {x y z : Var} → HasSub L x y → Steps L pushed y z → Steps L pushed x z
  by_push : {x y z : Var} → pushed x y → Steps L pushed y z → Steps L pushed x z
