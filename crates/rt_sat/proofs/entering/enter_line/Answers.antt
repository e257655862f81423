use Rattle.std.proofs.Common.{[], ◌∷◌, ◌++◌, sym, subst, ◌∙◌}
use Rattle.rt_lines.specs.declared.line.Line.{Line}
use Rattle.rt_sat.specs.Closings.{AreLineEdges}
use Rattle.rt_sat.proofs.Entered.{lines_sub, lines_other}
use Rattle.rt_sat.proofs.entering.enter_line.Goals as goal

pub returns-in_ok-enter_sub-in-Sub : goal.returns-in_ok-enter_sub-in-Sub
returns-in_ok-enter_sub-in-Sub c = λ before are.
    subst (λ (l : Line). AreLineEdges (before ++ l ∷ []) c.args.named.now c.enter_sub.new.edges.items) (sym c.in-Sub.is)
    (lines_sub c.args.named.now before c.in-Sub.x c.in-Sub.y c.args.edges.now.items c.enter_sub.new.edges.items c.in_ok-enter_sub-in-Sub.ensures are)

pub returns-in-Var : goal.returns-in-Var
returns-in-Var c = λ before are. lines_other c.args.named.now before c.args.line.now c.args.edges.now.items (λ x y e. (let f = e ∙ c.in-Var.is in cc)) are

pub returns-in-Same : goal.returns-in-Same
returns-in-Same c = λ before are. lines_other c.args.named.now before c.args.line.now c.args.edges.now.items (λ x y e. (let f = e ∙ c.in-Same.is in cc)) are

pub returns-in-Low : goal.returns-in-Low
returns-in-Low c = λ before are. lines_other c.args.named.now before c.args.line.now c.args.edges.now.items (λ x y e. (let f = e ∙ c.in-Low.is in cc)) are

pub returns-in-Up : goal.returns-in-Up
returns-in-Up c = λ before are. lines_other c.args.named.now before c.args.line.now c.args.edges.now.items (λ x y e. (let f = e ∙ c.in-Up.is in cc)) are
