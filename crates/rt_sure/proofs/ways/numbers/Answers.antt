use Rattle.std.proofs.Common.{◌+◌, ◌++◌, ◌∷◌, [], take, sym, ap, subst, ◌∙◌}
use Rattle.std.proofs.lemmas.List.{take_all, take_more}
use Rattle.rt_lines.specs.declared.variable.Dtv.{Dtv}
use Rattle.rt_outline.specs.Lines.{AreNumbers}
use Rattle.rt_outline.proofs.Entered.{numbers_next, numbers_none}
use Rattle.rt_sure.proofs.ways.numbers.Goals as goal

pub loop-x-init : goal.loop-x-init
loop-x-init c = numbers_none c.args.named.now c.in_ok-numbers.numbers.items c.in_ok-numbers.ensures.items

pub loop-x-preserved : goal.loop-x-preserved
loop-x-preserved c =
    let xs = c.args.variables.now in
    let i = c.loop-x.x-index in
    numbers_next c.args.named.now (take i xs) (take (i + 1) xs) c.x-item.result c.number.result c.loop-x.numbers.items
    c.push.new.self.items
    (take_more xs i c.x-item.result c.loop-x-test.true ∙ ap (λ (x : Dtv). take i xs ++ x ∷ []) (sym c.x-item.is))
    c.in_ok-push.ensures.items c.number.ensures c.loop-x.invariant

pub returns : goal.returns
returns c =
    subst (λ xs. AreNumbers c.args.named.now xs c.loop-x.numbers.items) (take_all c.loop-x.x-index c.args.variables.now c.loop-x-test.false)
    c.loop-x.invariant
