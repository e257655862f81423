use Rattle.rt_sigs.proofs.Constants.{named_left, named_of}
use Rattle.rt_sigs.proofs.unknown.constant_name.Goals as goal

pub returns-in-Some : goal.returns-in-Some
returns-in-Some c = named_left _ _ _ _ c.split_before.ensures c.in-Some.ensures

pub returns : goal.returns
returns c = named_of _ _ _ _ c.split_before.ensures c.in_default.ensures c.after_front-2.ensures
