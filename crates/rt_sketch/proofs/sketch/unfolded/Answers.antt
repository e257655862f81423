use Rattle.rt_sketch.proofs.sketch.unfolded.Goals as goal

pub started-requires-clause-machine : goal.started-requires-clause-machine
started-requires-clause-machine c = c.in_ok-machine.ensures

pub started-requires-clause-constants : goal.started-requires-clause-constants
started-requires-clause-constants c = c.requires

pub returns : goal.returns
returns c = c.in_ok-tree.ensures
