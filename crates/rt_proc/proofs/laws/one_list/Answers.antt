use Rattle.rt_proc.proofs.Uniqueness.{one_list_of}
use Rattle.rt_proc.proofs.laws.one_list.Goals as goal

pub returns : goal.returns
returns c = one_list_of c.one_form.ensures
