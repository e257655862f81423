use Rattle.std.proofs.Common.{◌≡◌, None}
use Rattle.rt_rules.proofs.Carry.{are_there}
use Rattle.rt_shape.specs.Graphs.{node_of}
use Rattle.rt_sat.proofs.Below.{no_node}
use Rattle.rt_sat.proofs.judging.are_one.Goals as goal

pub returns-in_default : goal.returns-in_default
returns-in_default c = λ lines order shape. (
  λ e. absurd (cc),
  λ d. (let e : node_of c.args.shape.now c.args.y.now ≡ None = cc in absurd (no_node lines c.args.shape.now order c.args.y.now shape e (are_there order lines d).1)),
)

pub returns-in_default-2 : goal.returns-in_default-2
returns-in_default-2 c = λ lines order shape. (
  λ e. absurd (cc),
  λ d. (let e : node_of c.args.shape.now c.args.x.now ≡ None = cc in absurd (no_node lines c.args.shape.now order c.args.x.now shape e (are_there order lines d).0)),
)
