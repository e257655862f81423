use Rattle.std.proofs.Common.{sym}
use Rattle.rt_cdecl.proofs.PartTexts.{scalar_cut, some_back, rest_of, named_is}
use Rattle.rt_cdecl.proofs.parts.take_scalar.Goals as goal

pub returns-in_default : goal.returns-in_default
returns-in_default c = λ name bits rest good same. absurd (some_back rest _ (scalar_cut name rest _ _ _ bits good same c.split_before.ensures).1 c.in_default.len_below)

pub returns-in_default-after_front : goal.returns-in_default-after_front
returns-in_default-after_front c =
    λ name bits rest good same. absurd (c.in_default-after_front.ensures _ (sym (scalar_cut name rest _ _ _ bits good same c.split_before.ensures).0))

pub returns-in-Ok : goal.returns-in-Ok
returns-in-Ok c =
    λ name bits rest good same. (
      c.in-Ok.ensures name bits good.1 (named_is name _ _ bits (scalar_cut name rest _ _ _ bits good same c.split_before.ensures).0 c.in-Some.ensures),
      rest_of 32 rest _ (scalar_cut name rest _ _ _ bits good same c.split_before.ensures).1,
    )

pub returns-in-Err : goal.returns-in-Err
returns-in-Err c =
    λ name bits rest good same. c.in-Err.ensures name bits good.1 (named_is name _ _ bits (scalar_cut name rest _ _ _ bits good same c.split_before.ensures).0 c.in-Some.ensures)
