use Rattle.std.proofs.Common.{ℕ, List, sym, subst}
use Rattle.rt_outline.specs.Inside.Sweeps.{AreFollowed}
use Rattle.rt_outline.proofs.Pushing.{followed_none}
use Rattle.rt_outline.proofs.closing.close.Goals as goal

pub close_on-requires-clause-followed : goal.close_on-requires-clause-followed
close_on-requires-clause-followed c = subst (λ (xs : List (List ℕ)). AreFollowed xs c.args.frame.now.arcs.items) (sym c.new-reached.ensures.items) (followed_none c.args.frame.now.arcs.items)
