use Rattle.std.proofs.Common.{◌≡◌, true, [], ◌∷◌, ◌++◌, sym, ap, subst, ◌∙◌}
use Rattle.rt_lines.specs.declared.variable.Dtv.{Dtv}
use Rattle.rt_lines.specs.declared.line.Line.{Line}
use Rattle.rt_lines.specs.Orders.{IsAtOrBelow}
use Rattle.rt_reduce.specs.Inside.Deciding.{AreAbove}
use Rattle.rt_reduce.proofs.Bounding.{above_more, above_other}
use Rattle.rt_reduce.proofs.bounds.enter_low.Goals as goal

pub returns-in_ok-push-in-Low : goal.returns-in_ok-push-in-Low
returns-in_ok-push-in-Low c = λ before are.
    subst (λ (l : Line). AreAbove c.args.order.now (before ++ l ∷ []) c.args.k c.push.new.self.items) (sym c.in-Low.is)
    (above_more c.args.order.now c.args.k before c.in-Low.bound c.in-Low.x c.args.found.now.items c.push.new.self.items
    (c.le.ensures.0 c.if-le.true) (c.in_ok-push-in-Low.ensures.items ∙ ap (λ (y : Dtv). c.args.found.now.items ++ y ∷ [])
    c.in_ok-copy-in-Low.ensures) are)

pub returns-else-le : goal.returns-else-le
returns-else-le c = λ before are. above_other c.args.order.now c.args.k before c.args.line.now c.args.found.now.items
    (λ b z e h. (let f = e ∙ c.in-Low.is in let g : b ≡ c.in-Low.bound = cc in
    let t : c.le.result ≡ true = c.le.ensures.1 (subst (λ n. IsAtOrBelow c.args.order.now c.args.k n) g h) in cc)) are

pub returns-in-Var : goal.returns-in-Var
returns-in-Var c = λ before are. above_other c.args.order.now c.args.k before c.args.line.now c.args.found.now.items
    (λ b z e h. (let f = e ∙ c.in-Var.is in cc)) are

pub returns-in-Same : goal.returns-in-Same
returns-in-Same c = λ before are. above_other c.args.order.now c.args.k before c.args.line.now c.args.found.now.items
    (λ b z e h. (let f = e ∙ c.in-Same.is in cc)) are

pub returns-in-Sub : goal.returns-in-Sub
returns-in-Sub c = λ before are. above_other c.args.order.now c.args.k before c.args.line.now c.args.found.now.items
    (λ b z e h. (let f = e ∙ c.in-Sub.is in cc)) are

pub returns-in-Up : goal.returns-in-Up
returns-in-Up c = λ before are. above_other c.args.order.now c.args.k before c.args.line.now c.args.found.now.items
    (λ b z e h. (let f = e ∙ c.in-Up.is in cc)) are
