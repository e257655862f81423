use Rattle.rt_control.proofs.OneForm.{one_at}
use Rattle.rt_control.proofs.laws.one_form.Goals as goal

pub returns : goal.returns
returns c = one_at
