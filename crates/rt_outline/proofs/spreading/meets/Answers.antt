use Rattle.std.proofs.Common.{◌≡◌, true}
use Rattle.rt_outline.proofs.Following.{none_next, none_whole}
use Rattle.rt_outline.proofs.spreading.meets.Goals as goal

pub loop-target-preserved : goal.loop-target-preserved
loop-target-preserved c = none_next c.args.found.now c.args.targets.now c.loop-target.target-index c.loop-target.invariant (λ h. (let t : c.contains.result ≡ true = c.contains.ensures.1 h in absurd (cc)))

pub returns : goal.returns
returns c = (λ e. absurd (cc), λ r. absurd (none_whole c.args.found.now c.args.targets.now c.loop-target.target-index c.loop-target-test.false c.loop-target.invariant r.0 r.1 r.2))
