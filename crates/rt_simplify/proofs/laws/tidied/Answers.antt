use Rattle.rt_simplify.proofs.Staying.{tidied_twice_lem, round_tidied_lem}
use Rattle.rt_simplify.proofs.laws.tidied.Goals as goal

pub returns-clause-twice : goal.returns-clause-twice
returns-clause-twice c = tidied_twice_lem

pub returns-clause-round : goal.returns-clause-round
returns-clause-round c = round_tidied_lem
