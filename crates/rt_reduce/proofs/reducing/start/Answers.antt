use Rattle.std.proofs.Common.{subst}
use Rattle.rt_reduction.specs.Rounds.{Prepares}
use Rattle.rt_reduce.proofs.Keeping.{prepared_below, prepared_scheme, split_below, split_scheme}
use Rattle.rt_reduce.proofs.reducing.start.Goals as goal

pub returns-clause-start : goal.returns-clause-start
returns-clause-start c = record {
  ready = c.in_ok-ready.ready;
  is_ready = subst (Prepares c.in_ok-ready.ready) c.in_ok-tidied.ensures c.in_ok-ready.ensures;
  is_start = c.in_ok-start.ensures;
}

pub returns-clause-scheme : goal.returns-clause-scheme
returns-clause-scheme c =
    split_scheme c.in_ok-start.start c.in_ok-ready.ready c.in_ok-start.ensures
    (prepared_scheme c.args.lines c.in_ok-tidied.tidied c.in_ok-ready.ready c.in_ok-tidied.ensures c.in_ok-ready.ensures
    c.requires.scheme)

pub returns-clause-constants : goal.returns-clause-constants
returns-clause-constants c =
    split_below c.args.order.now.count c.in_ok-start.start c.in_ok-ready.ready c.in_ok-start.ensures
    (prepared_below c.args.order.now.count c.args.lines c.in_ok-tidied.tidied c.in_ok-ready.ready c.in_ok-tidied.ensures
    c.in_ok-ready.ensures c.requires.constants)
