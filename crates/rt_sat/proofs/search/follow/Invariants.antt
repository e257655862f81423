use Rattle.rt_sat.specs.Searches.{IsFollowed}
use Rattle.rt_sat.proofs.search.follow.Given as goal

abbrev pub invariant-loop-index : goal.invariant-loop-index
invariant-loop-index l = IsFollowed l.most l.edges l.index-items l.fn.found l.found l.fn.next.items l.next.items l.fn.state l.count l.index-index
