use Rattle.rt_run.proofs.Single.{one_text_of}
use Rattle.rt_run.proofs.laws.one_text.Goals as goal

pub returns : goal.returns
returns c = one_text_of c.one_list.ensures c.one_list-2.ensures c.one_solution.ensures c.one_sketch.ensures c.one_header_of.ensures
