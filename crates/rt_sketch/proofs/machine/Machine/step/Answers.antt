use Rattle.std.proofs.Common.{◌∙◌, sym}
use Rattle.rt_shape.proofs.Walks.{node_of-longer}
use Rattle.rt_sketch.proofs.Denoting.{no_step}
use Rattle.rt_sketch.proofs.machine.Machine.step.Goals as goal

pub returns-in_ok-next-in-Some : goal.returns-in_ok-next-in-Some
returns-in_ok-next-in-Some c = λ lines is x d.
    c.in_ok-next-in-Some.ensures lines x is d (node_of-longer c.args.self.now.shape x c.args.label c.args.state.now.node d.node ∙ sym c.step.ensures ∙ c.in-Some.is)

pub returns-in-None : goal.returns-in-None
returns-in-None c = λ lines is x d.
    no_step lines c.args.self.now c.args.state.now c.args.label is x d (node_of-longer c.args.self.now.shape x c.args.label c.args.state.now.node d.node ∙ sym c.step.ensures ∙ c.in-None.is)
