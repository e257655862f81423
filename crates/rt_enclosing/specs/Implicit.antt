-- Upper relations that leave out load and store of some variables.
use Rattle.std.specs.Prelude.{◌≡◌, [], ◌∷◌}
use Rattle.rt_lines.specs.declared.label.Label.{Label}
use Rattle.rt_lines.specs.declared.label.Label.TheVariants.{Load, Store}
use Rattle.rt_lines.specs.declared.label.Variance.TheVariants.{Co, Contra}
use Rattle.rt_lines.specs.Words.{label_variance, variance_of_word}
use Rattle.rt_bridge.specs.Growing.{Var, at, dot, Given, E, Der, HasSub}
use Rattle.rt_bridge.specs.Counted.{IsPointer, Flip}
use Rattle.rt_enclosing.specs.Lower.{IsThere}

-- load or store of one of the variables
abbrev pub IsAccess : (Var → Type 0) → Var → Type 0
IsAccess I (at b) = ⊥
IsAccess I (dot x l) = IsPointer l × I x

-- in the set, and no load or store of those variables
abbrev pub Shown : (Var → Type 0) → (Var → Type 0) → Var → Type 0
Shown M I x = M x × (IsAccess I x → ⊥)

-- variables, with all of their shape, that can be read and written through, while what is loaded and stored can't be; none of the fewer
-- lines has their load or store for a side
pub record AreImplicit (L fewer : Given) (I : Var → Type 0) : Type 0 where
  pub flips : {x : Var} → I x → Flip L x
  pub shape : {x y : Var} → I x → Der L (E x y) → I y
  pub level : {x : Var} {l : Label} → I x → IsPointer l → Flip L (dot x l) → ⊥
  pub sides : (x y : Var) → HasSub fewer x y → (IsAccess I x → ⊥) × (IsAccess I y → ⊥)

-- what is pushed behind load and store of these variables, from what lies below what, and what may have a common lower variable
pub record ArePushedBehind (L : Given) (M I : Var → Type 0) (below meets pushed : Var → Var → Type 0) : Type 0 where
  pub co : {x y : Var} (p l : Label) → IsPointer p → variance_of_word (p ∷ l ∷ []) ≡ Co → I x →
      IsThere L M (dot (dot x p) l) → IsThere L M (dot (dot y p) l) → Der L (E x y) → below x y →
      pushed (dot (dot x p) l) (dot (dot y p) l)
  pub contra : {x y : Var} (p l : Label) → IsPointer p → variance_of_word (p ∷ l ∷ []) ≡ Contra → I x →
      IsThere L M (dot (dot x p) l) → IsThere L M (dot (dot y p) l) → Der L (E x y) → below x y →
      pushed (dot (dot y p) l) (dot (dot x p) l)
  pub pointer_co : {x y : Var} (l : Label) → label_variance l ≡ Co → I x →
      IsThere L M (dot (dot x Store) l) → IsThere L M (dot (dot y Load) l) → Der L (E x y) → meets x y →
      pushed (dot (dot x Store) l) (dot (dot y Load) l)
  pub pointer_contra : {x y : Var} (l : Label) → label_variance l ≡ Contra → I x →
      IsThere L M (dot (dot x Store) l) → IsThere L M (dot (dot y Load) l) → Der L (E x y) → meets x y →
      pushed (dot (dot y Load) l) (dot (dot x Store) l)
