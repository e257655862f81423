use Rattle.std.proofs.Common.{inl, inr}
use Rattle.rt_outline.proofs.seeking.follow.Goals as goal

pub returns-in_ok-meet-in-None : goal.returns-in_ok-meet-in-None
returns-in_ok-meet-in-None c = λ w k. (elim (c.in_ok-meet-in-None.ensures w k) [ inl d ↦ inl d | inr e ↦ inr (e, c.in-None.is) ])
