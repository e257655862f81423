use Rattle.rt_reduction.proofs.Renumbering.{numbered_reduced_lem}
use Rattle.rt_reduction.proofs.Reordering.{reordered_reduced_lem}
use Rattle.rt_reduction.proofs.laws.numbering.Goals as goal

pub returns-clause-numbered : goal.returns-clause-numbered
returns-clause-numbered c = numbered_reduced_lem

pub returns-clause-reordered : goal.returns-clause-reordered
returns-clause-reordered c = reordered_reduced_lem
