use Rattle.std.proofs.Common.{◌≡◌, ℕ, true, Option, Some, None, sym, subst, ◌∙◌}
use Rattle.std.specs.Prelude.{IfSome, is_some}
use Rattle.rt_rules.specs.Rules.{Derivable}
use Rattle.rt_rules.proofs.Carry.{are_there}
use Rattle.rt_earlier.proofs.earlier.Earlier.derives.Goals as goal

-- what is said of the value in a `Some`
some_has : (o : Option ℕ) (P : ℕ → Type 0) → IfSome o P → is_some o ≡ true → (n : ℕ) × P n
some_has None P h e = cc
some_has (Some n) P h e = (n, h)

pub returns-in-Var : goal.returns-in-Var
returns-in-Var c = λ e order lines sound.
    let found = some_has c.walk.result _ c.walk.ensures (sym c.is_some.ensures ∙ e) in
    subst (Derivable order lines) (sym c.in-Var.is) (are_there order lines (found.1 order lines sound).same).0

pub returns-in-Some-Some : goal.returns-in-Some-Some
returns-in-Some-Some c = λ e order lines sound.
    subst (Derivable order lines) (sym c.in-Same.is)
    (c.are_one.ensures e order lines c.in-Same.x c.in-Same.y sound (c.in-Some-Some.ensures order lines sound) (c.in-Some-Some.ensures' order lines sound))
