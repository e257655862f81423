use Rattle.std.proofs.Common.{◌<◌, length, arith}
use Rattle.rt_components.proofs.Numbering.{class_within}
use Rattle.rt_components.proofs.walk.numbers.Goals as goal

pub unreachable-requires : goal.unreachable-requires
unreachable-requires c =
    let found = c.requires c.loop-node.node-index c.loop-node-test.true in
    c.in_default.not-InClass found.0 found.1

pub returns : goal.returns
returns c = record {
  each = omega arith;
  same = λ a g e. let less : a < length c.args.state.now = class_within c.args.state.now a g e in c.loop-node.invariant.same a g (omega arith) e;
}
