use Rattle.std.proofs.Common.{sym, subst}
use Rattle.rt_sat.specs.Hints.{IsFamily, IsToldFamily}
use Rattle.rt_sat.proofs.gathering.sweep_class.Goals.{then-prunes+in_ok-prune, else-prunes}
use Rattle.rt_sat.proofs.gathering.sweep_class.Goals as goal

pub sweep-requires-clause-family : goal.sweep-requires-clause-family
sweep-requires-clause-family c = (
  c.requires.family.0,
  elim c.if-prunes.branch [
    | then-prunes+in_ok-prune w ↦ subst (IsFamily c.requires.family.0) (sym w.family-is) (w.in_ok-prune.ensures.family c.requires.family.0 c.requires.family.1)
    | else-prunes w ↦ subst (IsFamily c.requires.family.0) (sym w.family-is) c.requires.family.1
  ],
)

pub returns-clause-family : goal.returns-clause-family
returns-clause-family c = λ n before. c.in_ok-shorter.ensures.family n (elim c.if-prunes.branch [
  | then-prunes+in_ok-prune w ↦ subst (IsFamily n) (sym w.family-is) (w.in_ok-prune.ensures.family n before)
  | else-prunes w ↦ subst (IsFamily n) (sym w.family-is) before
])

pub returns-clause-told : goal.returns-clause-told
returns-clause-told c = λ known flips lines before. c.in_ok-shorter.ensures.told known flips lines (elim c.if-prunes.branch [
  | then-prunes+in_ok-prune w ↦ subst (IsToldFamily known flips lines) (sym w.family-is) (w.in_ok-prune.ensures.told known flips lines before)
  | else-prunes w ↦ subst (IsToldFamily known flips lines) (sym w.family-is) before
])
