use Rattle.rt_sigs.proofs.Constants.{unknown_if}
use Rattle.rt_sigs.proofs.unknown.is_unknown.Goals as goal

pub returns-in-Ok : goal.returns-in-Ok
returns-in-Ok c =
    unknown_if _ _ _ _ _ _ _ c.in_ok-push.ensures.ok c.new-one.ensures c.in-Some.ensures (c.is_name.ensures.0 c.if-not-is_name.false) c.in_default-find.ensures c.in-Ok.ensures
    c.is_constant_line.ensures
