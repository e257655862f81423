use Rattle.rt_sure.proofs.shortening.shortened.Goals as goal

pub returns-clause-unbounded : goal.returns-clause-unbounded
returns-clause-unbounded c = λ count. c.in_ok-add_shapes.ensures.unbounded count (c.in_ok-short.ensures.unbounded count)
