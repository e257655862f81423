use Rattle.rt_cdecl.proofs.Clear.{after_is}
use Rattle.rt_cdecl.proofs.parts.after_digits.Goals as goal

pub returns : goal.returns
returns c = λ digits rest are stops same. after_is digits rest _ _ _ are stops same c.split_digits.ensures
