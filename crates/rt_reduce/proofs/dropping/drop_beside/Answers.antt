use Rattle.std.proofs.Common.{List, sym, subst}
use Rattle.std.proofs.lemmas.Option.{IfSome_then}
use Rattle.rt_sure.specs.declared.fate.Fate.{Fate}
use Rattle.rt_reduce.specs.Inside.Deciding.{IsOwnGround}
use Rattle.rt_reduce.proofs.Grounded.{more_grounded}
use Rattle.rt_reduce.proofs.dropping.drop_beside.Goals as goal

pub drop_on-requires-clause-ground : goal.drop_on-requires-clause-ground
drop_on-requires-clause-ground c =
    let lines = c.args.lines.now in
    IfSome_then c.args.ground c.requires.ground (λ g own.
    subst (λ (fs : List Fate). IsOwnGround lines fs g.now) (sym c.deref.ensures.value)
    (more_grounded lines c.args.fates.now c.in_ok-now.now.items g.now c.in_ok-now.ensures.kept own))
