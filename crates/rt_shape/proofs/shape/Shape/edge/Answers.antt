use Rattle.std.proofs.Common.{◌<◌, subst}
use Rattle.rt_shape.proofs.shape.Shape.edge.Goals as goal

pub returns-clause-within : goal.returns-clause-within
returns-clause-within c =
    subst (λ g. (c.in-Some.letter.now.0 < g.count) × (c.in-Some.to.now < g.count)) c.self.view_is
    (c.self.invariant.whole.edges_in c.in-Some.letter.now.0 c.in-Some.letter.now.1 c.in-Some.to.now c.in-Some.ensures.value)
