use Rattle.rt_cdecl.proofs.PartTexts.{tail_8, tail_16, tail_32, no_tail}
use Rattle.rt_cdecl.proofs.parts.scalar_parts.Goals as goal

pub returns-in-Some : goal.returns-in-Some
returns-in-Some c = λ name bits wide same. tail_8 _ _ _ _ c.in-Some.ensures wide same

pub returns-in-Some-before_back : goal.returns-in-Some-before_back
returns-in-Some-before_back c = λ name bits wide same. tail_16 _ _ _ _ c.in-Some-before_back.ensures wide same

pub returns-in-Some-before_back-2 : goal.returns-in-Some-before_back-2
returns-in-Some-before_back-2 c = λ name bits wide same. tail_32 _ _ _ _ c.in-Some-before_back-2.ensures wide same

pub returns : goal.returns
returns c =
    λ name bits wide same. no_tail _ _ _ c.in_default.ensures c.in_default-before_back.ensures c.in_default-before_back-2.ensures wide same
