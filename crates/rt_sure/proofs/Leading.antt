-- Which numbered variable lies below which.
use Rattle.std.proofs.Common.{◌≡◌, ◌⊎◌, ℕ, inl, inr, List, [], ◌∷◌, Contains, Some, sym, subst}
use Rattle.std.specs.Prelude.{slice_get}
use Rattle.std.proofs.lemmas.Option.{get_or_from_slice_get}
use Rattle.rt_base.proofs.Lists.{Contains-none, Contains-here, Contains-cons_cases}
use Rattle.rt_lines.specs.declared.variable.Dtv.{Dtv}
use Rattle.rt_lines.specs.declared.line.Line.{Line}
use Rattle.rt_lines.specs.declared.line.Line.TheVariants.{Sub}
use Rattle.rt_lines.specs.Orders.{Below}
use Rattle.rt_rules.specs.Rules.{Derivable}
use Rattle.rt_named.specs.Origins.{no_variable}
use Rattle.rt_sat.specs.Numbered.{at_number}
use Rattle.rt_sat.specs.Tables.{HasBelow}

-- a list of one number
one_is : (xs : List ℕ) (n m : ℕ) → xs ≡ n ∷ [] → Contains xs m → n ≡ m
one_is xs n m e c = by (Contains-cons_cases n [] m (subst (λ ys. Contains ys m) e c))
  where
    by : (n ≡ m) ⊎ Contains [] m → n ≡ m
    by (inl f) = f
    by (inr d) = absurd (Contains-none m d)

one_has : (xs : List ℕ) (n : ℕ) → xs ≡ n ∷ [] → Contains xs n
one_has xs n e = subst (λ ys. Contains ys n) (sym e) (Contains-here n [])

module _ (order : Below) (lines : List Line) (named : List Dtv) where
  at : (n : ℕ) (z : Dtv) → slice_get named n ≡ Some z → at_number named n ≡ z
  at n z e = get_or_from_slice_get named n z no_variable e

  -- below each other by variables is so by numbers
  pub to_numbers : (n m : ℕ) (x y : Dtv) → slice_get named n ≡ Some x → slice_get named m ≡ Some y → Derivable order lines (Sub x y) →
      Derivable order lines (Sub (at_number named n) (at_number named m))
  to_numbers n m x y e f d =
      subst (λ z. Derivable order lines (Sub z (at_number named m))) (sym (at n x e))
      (subst (λ z. Derivable order lines (Sub x z)) (sym (at m y f)) d)

  pub from_numbers : (n m : ℕ) (x y : Dtv) → slice_get named n ≡ Some x → slice_get named m ≡ Some y →
      Derivable order lines (Sub (at_number named n) (at_number named m)) → Derivable order lines (Sub x y)
  from_numbers n m x y e f d =
      subst (λ z. Derivable order lines (Sub z y)) (at n x e)
      (subst (λ z. Derivable order lines (Sub (at_number named n) z)) (at m y f) d)

  module _ (x y : Dtv) (i j : ℕ) (sources targets : List ℕ) (e : slice_get named i ≡ Some x) (f : slice_get named j ≡ Some y)
      (p : sources ≡ i ∷ []) (q : targets ≡ j ∷ []) where
    pub below_has : Derivable order lines (Sub x y) → HasBelow order lines named sources targets
    below_has d = (i, j, one_has sources i p, one_has targets j q, to_numbers i j x y e f d)
