use Rattle.rt_cdecl.proofs.ArgTexts.{after_place_is}
use Rattle.rt_cdecl.proofs.reading.after_place.Goals as goal

pub returns-in-len1-up : goal.returns-in-len1-up
returns-in-len1-up c = λ i rest few stops same. after_place_is i rest _ _ few stops same c.after_digits.ensures
