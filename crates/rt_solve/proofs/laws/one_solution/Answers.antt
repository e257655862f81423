use Rattle.rt_solve.proofs.Uniqueness.{one_solution_of}
use Rattle.rt_solve.proofs.laws.one_solution.Goals as goal

pub returns : goal.returns
returns c = one_solution_of c.one_list.ensures c.one_list-2.ensures c.one_choice.ensures
