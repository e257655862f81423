use Rattle.std.proofs.Common.{sym}
use Rattle.rt_shape.specs.Inside.Classes.Joined.{joined_self}
use Rattle.rt_shape.proofs.joining.Joining.enter_edges.Goals as goal

pub enter-requires : goal.enter-requires
enter-requires c =
    let e = c.edge-from.result in (
      c.args.tree.now,
      c.requires.0,
      c.loop-i.invariant c.requires.0 c.requires.1,
      c.edge-from.ensures.within.0,
      (c.edge-from.ensures.within.1, (e.0, e.1, joined_self, sym c.pointed.ensures, c.edge-from.ensures.found)),
    )

pub loop-i-preserved : goal.loop-i-preserved
loop-i-preserved c = λ pairs sound.
    let e = c.edge-from.result in
    c.in_ok-enter.ensures.sound c.args.tree.now pairs (c.loop-i.invariant pairs sound) (c.edge-from.ensures.within.1, (e.0, e.1, joined_self, sym c.pointed.ensures, c.edge-from.ensures.found))
