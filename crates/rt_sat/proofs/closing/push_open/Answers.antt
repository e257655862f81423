use Rattle.std.proofs.Common.{inr, arith}
use Rattle.std.proofs.lemmas.Grind.{common_steps}
use Rattle.rt_sat.specs.Pushes.{IsStill}
use Rattle.rt_sat.proofs.Growing.{all_none, all_counted}
use Rattle.rt_sat.proofs.closing.push_open.Goals as goal

pub returns-then-flag-clause-grown : goal.returns-then-flag-clause-grown
returns-then-flag-clause-grown c = all_none c.args.frame.now.named c.args.frame.now.flips.items c.args.layers.now

pub returns-clause-done : goal.returns-clause-done
returns-clause-done c = λ yes.
    (let still : IsStill c.args.layers.now c.push_number.new.layers =
    all_counted c.args.frame.now.named c.args.frame.now.flips.items c.args.layers.now c.push_number.new.layers c.in_ok-push_number.ensures.grown (grind (arith, common_steps)) in
    inr (c.in_ok-push_number.ensures.done still))
