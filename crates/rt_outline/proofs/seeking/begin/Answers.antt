use Rattle.std.proofs.Common.{Contains, inl, inr, subst}
use Rattle.rt_base.proofs.Lists.{Contains-none}
use Rattle.rt_outline.proofs.seeking.begin.Goals as goal

pub returns : goal.returns
returns c = λ w k. (elim (c.in_ok-meet.ensures w k) [
  | inl d ↦ absurd (Contains-none w (subst (λ xs. Contains xs w) c.clear.ensures d))
  | inr e ↦ e
])
