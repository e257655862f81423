use Rattle.rt_cdecl.proofs.KindSets.{line_less}
use Rattle.rt_cdecl.proofs.listed.comes_before.Goals as goal

pub returns : goal.returns
returns c = line_less _ _ _ _ _ _ c.is_lt.ensures c.cmp.ensures c.in_ok-before.ensures c.in_ok-after.ensures
