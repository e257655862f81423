use Rattle.std.proofs.Common.{◌≡◌, take}
use Rattle.rt_proc.specs.Sites.{step_tails}
use Rattle.rt_proc.proofs.sites.step_tails.Given as goal

abbrev pub invariant-loop-place : goal.invariant-loop-place
invariant-loop-place l = l.tails.items ≡ step_tails l.entries l.own (take l.place-index l.steps)
