use Rattle.rt_outline.proofs.turning.reach_of.Goals as goal

pub returns-clause-own : goal.returns-clause-own
returns-clause-own c = record {
  low = λ w. (c.in_ok-low.ensures w).0;
  high = λ w. (c.in_ok-high.ensures w).0;
}

pub returns-clause-whole : goal.returns-clause-whole
returns-clause-whole c = record {
  low = λ w. (c.in_ok-low.ensures w).1;
  high = λ w. (c.in_ok-high.ensures w).1;
}
