use Rattle.std.proofs.Common.{[], ◌<◌, ◌∙◌, append-nil, sym, subst}
use Rattle.rt_outline.proofs.Built.{has_hubs, made_before}
use Rattle.rt_outline.proofs.upper.with_hubs.Goals as goal

pub enter_hubs-requires-clause-below : goal.enter_hubs-requires-clause-below
enter_hubs-requires-clause-below c = λ n p l h m.
    made_before c.args.named.now c.in_ok-frame.frame.origins.items c.in_ok-frame.frame.origins.items []
    c.in_ok-frame.ensures.origins (sym (append-nil c.in_ok-frame.frame.origins.items)) n p l
    (subst (λ k. n < k) (c.requires.flips ∙ c.requires.classes) h) m

pub returns-clause-hubs : goal.returns-clause-hubs
returns-clause-hubs c =
    has_hubs c.args.named.now c.args.classes.now c.args.flips.now c.in_ok-frame.frame.origins.items c.enter_hubs.new.frame.origins.items
    c.in_ok-frame.frame.arcs.items c.enter_hubs.new.frame.arcs.items
    c.in_ok-frame.ensures.origins c.in_ok-frame.ensures.none
    c.in_ok-enter_hubs.ensures.more c.in_ok-enter_hubs.ensures.hubs
