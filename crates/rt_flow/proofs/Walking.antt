-- How definitions reach sites, edge by edge.
use Rattle.std.proofs.Common.{◌≡◌, ℕ, ℤ, List, [], ◌∷◌, ◌++◌, refl}
use Rattle.rt_flow.specs.declared.def.Def.{Def}
use Rattle.rt_flow.specs.declared.def.Def.TheVariants.{Entry, At}
use Rattle.rt_flow.specs.Bodies.{Body, Steps, Defines, Walk, NoneDefines, Reaches}
use Rattle.rt_flow.specs.Bodies.Walk.{stays, goes}

module _ (body : Body) where
  walk_on : (passed : List ℕ) (s t u : ℕ) → Walk body s passed t → Steps body t u → Walk body s (passed ++ t ∷ []) u
  walk_on passed s t u stays e = goes e stays
  walk_on passed s t u (goes {m = m} {passed = rest} f w) e = goes f (walk_on rest m t u w e)

  -- a walk that passes sites begins with an edge
  Begins : ℕ → List ℕ → ℕ → Type 0
  Begins s [] t = Unit {0}
  Begins s (p ∷ passed) t = (m : ℕ) × Steps body s m × Walk body m passed t

  begins : (passed : List ℕ) (s t : ℕ) → Walk body s passed t → Begins s passed t
  unfolding Begins
  begins passed s t stays = tt
  begins passed s t (goes {m = m} e w) = (m, e, w)

  begins_on : (p : ℕ) (passed : List ℕ) (s t : ℕ) → Walk body s (p ∷ passed) t → (m : ℕ) × Steps body s m × Walk body m passed t
  unfolding Begins
  begins_on p passed s t w = begins (p ∷ passed) s t w

  module _ (loc : ℤ) where
    none_on : (passed : List ℕ) (t : ℕ) → NoneDefines body loc passed → (Defines body t loc → ⊥) → NoneDefines body loc (passed ++ t ∷ [])
    none_on [] t none free = (free, tt)
    none_on (s ∷ passed) t none free = (none.0, none_on passed t none.1 free)

    pub entry_reaches : Reaches body loc Entry body.entry
    entry_reaches = ([], stays, tt)

    pub reaches_next : (d t : ℕ) → Defines body d loc → Steps body d t → Reaches body loc (At d) t
    reaches_next d t defines e = (defines, ([], goes e stays, tt))

    pub reaches_on : (x : Def) (s t : ℕ) → Reaches body loc x s → (Defines body s loc → ⊥) → Steps body s t → Reaches body loc x t
    reaches_on Entry s t (passed, walk, none) free e = (passed ++ s ∷ [], walk_on passed body.entry s t walk e, none_on passed s none free)
    reaches_on (At d) s t (defines, (passed, walk, none)) free e = (defines, (passed ++ s ∷ [], walk_on (d ∷ passed) d s t walk e, none_on passed s none free))

    along : (Q : ℕ → Type 0) → ((s t : ℕ) → Q s → (Defines body s loc → ⊥) → Steps body s t → Q t)
        → (passed : List ℕ) (s t : ℕ) → Walk body s passed t → NoneDefines body loc passed → Q s → Q t
    along Q step passed s t stays none here = here
    along Q step passed s t (goes {m = m} {passed = rest} e w) none here = along Q step rest m t w none.1 (step s m here none.0 e)

    -- what holds where a definition begins, and goes on along edges from sites without a definition, holds where it reaches
    pub reaches_all : (Q : ℕ → Type 0) → ((s t : ℕ) → Q s → (Defines body s loc → ⊥) → Steps body s t → Q t) → (x : Def) (t : ℕ)
        → (x ≡ Entry → Q body.entry) → ((d m : ℕ) → x ≡ At d → Defines body d loc → Steps body d m → Q m) → Reaches body loc x t → Q t
    reaches_all Q step Entry t entry next (passed, walk, none) = along Q step passed body.entry t walk none (entry refl)
    reaches_all Q step (At d) t entry next (defines, (passed, walk, none)) =
        let first = begins_on d passed d t walk in
        along Q step passed first.0 t first.2 none (next d first.0 refl defines first.1)
