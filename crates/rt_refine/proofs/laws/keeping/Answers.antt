use Rattle.rt_refine.proofs.OneCoarsest.{refined_sides_lem, refined_names_lem, refined_least_lem, refined_constants_lem}
use Rattle.rt_refine.proofs.laws.keeping.Goals as goal

pub returns-clause-sides : goal.returns-clause-sides
returns-clause-sides c = refined_sides_lem

pub returns-clause-names : goal.returns-clause-names
returns-clause-names c = refined_names_lem

pub returns-clause-least : goal.returns-clause-least
returns-clause-least c = refined_least_lem

pub returns-clause-constants : goal.returns-clause-constants
returns-clause-constants c = refined_constants_lem
