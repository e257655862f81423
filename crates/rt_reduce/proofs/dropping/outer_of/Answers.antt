use Rattle.std.proofs.Common.{[], ap}
use Rattle.rt_outline.specs.Lines.{Lined}
use Rattle.rt_sat.proofs.Frames.{side_named}
use Rattle.rt_reduce.proofs.dropping.outer_of.Goals as goal

pub returns : goal.returns
returns c = (
  ap (λ (t : Lined). t.lines) c.in_ok-made.ensures,
  λ l x d h. side_named c.args.lines.now [] c.in_ok-made.made.named (ap (λ (t : Lined). t.named) c.in_ok-made.ensures) l x d h,
)
