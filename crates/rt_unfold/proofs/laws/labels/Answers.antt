use Rattle.rt_unfold.proofs.Labels.{labels_law}
use Rattle.rt_unfold.proofs.laws.labels.Goals as goal

pub returns : goal.returns
returns c = labels_law
