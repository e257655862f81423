use Rattle.std.proofs.Common.{rules, ◌≡◌, ◌⊎◌, inl, inr, refl, sym, subst}
use Rattle.rt_lines.specs.declared.variable.Dtv.{Dtv}
use Rattle.rt_lines.specs.declared.line.Line.{Line}
use Rattle.rt_lines.specs.declared.line.Line.TheVariants.{Same, Sub}
use Rattle.rt_rules.specs.Rules.{HasSide}
use Rattle.rt_shape.specs.Shapes.{IsFront}
use Rattle.rt_witness.specs.Witnesses.{HasFront}
use Rattle.rt_witness.proofs.Names.{HasNaming-chain, HasNaming-wider}
use Rattle.rt_witness.proofs.naming.name_line.Goals as goal

first_side : (l : Line) (x y : Dtv) → (l ≡ Same x y) ⊎ (l ≡ Sub x y) → HasSide l x
first_side l x y (inl e) = subst (λ m. HasSide m x) (sym e) (inl refl)
first_side l x y (inr e) = subst (λ m. HasSide m x) (sym e) (inl refl)

second_side : (l : Line) (x y : Dtv) → (l ≡ Same x y) ⊎ (l ≡ Sub x y) → HasSide l y
second_side l x y (inl e) = subst (λ m. HasSide m y) (sym e) (inr refl)
second_side l x y (inr e) = subst (λ m. HasSide m y) (sym e) (inr refl)

pub returns-in_ok-name_side-in-Var : goal.returns-in_ok-name_side-in-Var
returns-in_ok-name_side-in-Var c =
    let side : HasSide c.args.line.now c.in-Var.x = search rules in
    HasNaming-wider c.args.named.now (λ (y : Dtv). IsFront y c.in-Var.x) (HasFront c.args.line.now) c.args.rows.now.items
    c.name_side-in-Var.new.rows.items c.args.i (λ y f. (c.in-Var.x, side, f)) c.in_ok-name_side-in-Var.ensures

pub returns-in_ok-name_side-in-Same-2 : goal.returns-in_ok-name_side-in-Same-2
returns-in_ok-name_side-in-Same-2 c =
    let line = c.args.line.now in
    let first : HasSide line c.in-Same.x = first_side line c.in-Same.x c.in-Same.y c.in-Same.is in
    let second : HasSide line c.in-Same.y = second_side line c.in-Same.x c.in-Same.y c.in-Same.is in
    HasNaming-chain c.args.named.now (HasFront line) c.args.rows.now.items c.name_side.new.rows.items c.name_side-in-Same.new.rows.items c.args.i
    (HasNaming-wider c.args.named.now (λ (y : Dtv). IsFront y c.in-Same.x) (HasFront line) c.args.rows.now.items c.name_side.new.rows.items
    c.args.i (λ y f. (c.in-Same.x, first, f)) c.in_ok-name_side-in-Same.ensures)
    (HasNaming-wider c.args.named.now (λ (y : Dtv). IsFront y c.in-Same.y) (HasFront line) c.name_side.new.rows.items
    c.name_side-in-Same.new.rows.items c.args.i (λ y f. (c.in-Same.y, second, f)) c.in_ok-name_side-in-Same-2.ensures)
