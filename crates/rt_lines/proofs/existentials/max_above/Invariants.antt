use Rattle.std.proofs.Common.{◌≡◌, max, fold, map}
use Rattle.rt_lines.specs.Sides.{sides}
use Rattle.rt_lines.specs.SidesLeft.{sides_left}
use Rattle.rt_lines.specs.FirstFree.{above}
use Rattle.rt_lines.proofs.existentials.max_above.Given as goal

abbrev pub invariant-loop-x : goal.invariant-loop-x
invariant-loop-x l =
    fold max l.max (map (λ x. above x.base) (sides_left l.x-iterator)) ≡ fold max l.fn.first (map (λ x. above x.base) (sides l.line))
