-- Lists in which each element is less than the next.
use Rattle.std.proofs.Common.{◌≡◌, List, [], ◌∷◌, ◌++◌, Contains, subst}
use Rattle.rt_base.proofs.Lists.{Contains-here, Contains-there}

module _ {X : Type 0} (Less : X → X → Type 0) where
  pub data Rises : List X → Type 0 where
    none : Rises []
    one : (x : X) → Rises (x ∷ [])
    more : (x y : X) (ys : List X) → Less x y → Rises (y ∷ ys) → Rises (x ∷ y ∷ ys)

  -- an element that all are less than may stand behind them
  pub rises_behind : (xs : List X) (x : X) → Rises xs → ((y : X) → Contains xs y → Less y x) → Rises (xs ++ x ∷ [])
  rises_behind [] x none h = one x
  rises_behind (y ∷ []) x (one _) h = more y x [] (h y (Contains-here y [])) (one x)
  rises_behind (y ∷ z ∷ zs) x (more _ _ _ less r) h =
      more y z (zs ++ x ∷ []) less (rises_behind (z ∷ zs) x r (λ u c. h u (Contains-there y (z ∷ zs) u c)))

  no_end : (before : List X) (a : X) (after : List X) → [] ≡ before ++ a ∷ after → ⊥
  no_end [] a after e = cc
  no_end (c ∷ before) a after e = cc

  pub less_next : (before : List X) (a b : X) (after xs : List X) → Rises xs → xs ≡ before ++ a ∷ b ∷ after → Less a b
  less_next [] a b after [] none e = absurd cc
  less_next [] a b after (x ∷ []) (one _) e = absurd cc
  less_next [] a b after (x ∷ y ∷ ys) (more _ _ _ less r) e =
      let f : x ≡ a = cc in
      let g : y ≡ b = cc in
      subst (λ z. Less z b) f (subst (Less x) g less)
  less_next (c ∷ before) a b after [] none e = absurd cc
  less_next (c ∷ before) a b after (x ∷ []) (one _) e =
      let f : [] ≡ before ++ a ∷ b ∷ after = cc in
      absurd (no_end before a (b ∷ after) f)
  less_next (c ∷ before) a b after (x ∷ y ∷ ys) (more _ _ _ less r) e =
      let f : y ∷ ys ≡ before ++ a ∷ b ∷ after = cc in
      less_next before a b after (y ∷ ys) r f
