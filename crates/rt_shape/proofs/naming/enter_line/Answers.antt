use Rattle.std.proofs.Common.{rules, ◌≡◌, ◌⊎◌, inl, inr, refl, sym, subst}
use Rattle.rt_lines.specs.declared.variable.Dtv.{Dtv}
use Rattle.rt_lines.specs.declared.line.Line.{Line}
use Rattle.rt_lines.specs.declared.line.Line.TheVariants.{Same, Sub}
use Rattle.rt_rules.specs.Rules.{HasSide}
use Rattle.rt_shape.proofs.Named.{one_side, two_sides}
use Rattle.rt_shape.proofs.naming.enter_line.Goals as goal

first_side : (l : Line) (x y : Dtv) → (l ≡ Same x y) ⊎ (l ≡ Sub x y) → HasSide l x
first_side l x y (inl e) = subst (λ m. HasSide m x) (sym e) (inl refl)
first_side l x y (inr e) = subst (λ m. HasSide m x) (sym e) (inl refl)

second_side : (l : Line) (x y : Dtv) → (l ≡ Same x y) ⊎ (l ≡ Sub x y) → HasSide l y
second_side l x y (inl e) = subst (λ m. HasSide m y) (sym e) (inr refl)
second_side l x y (inr e) = subst (λ m. HasSide m y) (sym e) (inr refl)

pub returns-in_ok-right-in-Same-clause-only : goal.returns-in_ok-right-in-Same-clause-only
returns-in_ok-right-in-Same-clause-only c =
    two_sides c.args.line.now c.in-Same.x c.in-Same.y c.args.tree.now c.enter.new.self c.enter-in-Same.new.self
    (first_side _ _ _ c.in-Same.is) (second_side _ _ _ c.in-Same.is) c.in_ok-left-in-Same.ensures.only c.in_ok-right-in-Same.ensures.only

pub returns-in_ok-enter-in-Var-clause-only : goal.returns-in_ok-enter-in-Var-clause-only
returns-in_ok-enter-in-Var-clause-only c =
    let side : HasSide c.args.line.now c.in-Var.x = search rules in
    one_side c.args.line.now c.in-Var.x c.args.tree.now c.enter-in-Var.new.self side c.in_ok-enter-in-Var.ensures.only
