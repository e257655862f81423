use Rattle.std.proofs.Common.{◌<◌, length, arith}
use Rattle.std.proofs.lemmas.Grind.{common_steps}
use Rattle.rt_rules.proofs.Carry.{given}
use Rattle.rt_earlier.proofs.Derived.{earlier-kept, earlier-last, derived-more}
use Rattle.rt_earlier.proofs.telling.told.Goals as goal

pub loop-line-preserved : goal.loop-line-preserved
loop-line-preserved c =
    let lines = c.args.lines.now in
    let i = c.loop-line.line-index in
    let line = c.line-item.result in
    let less : i < length lines = c.loop-line-test.true in
    record {
      each = grind (arith, common_steps, c.loop-line.invariant.each, c.in_ok-push.ensures.items);
      sound = λ order others gives.
          c.in_ok-add.ensures order others (c.loop-line.invariant.sound order others (λ k h. gives k (earlier-kept lines i line less c.line-item.is k h)))
          (gives line (earlier-last lines i line less c.line-item.is));
      derived = derived-more lines i line less c.line-item.is c.loop-line.told.items c.push.new.self.items c.derives.result c.in_ok-push.ensures.items
          c.loop-line.invariant.each c.loop-line.invariant.derived
          (λ e order. c.derives.ensures e order _ (c.loop-line.invariant.sound order _ (λ k h. given order _ k h)));
    }
