use Rattle.std.proofs.Common.{◌≡◌, ◌∙◌, true, List, ap, get_or, ℕ}
use Rattle.rt_ways.proofs.frame.Frame.class_behind.Goals as goal

pub returns-then-can_exchange : goal.returns-then-can_exchange
returns-then-can_exchange c =
    let p = c.can_exchange.ensures.0 c.if-can_exchange.true in
    (p.0, p.1, c.entry.ensures ∙ ap (λ (xs : List ℕ). get_or xs c.args.parent 0) c.deref.ensures.value)

pub returns-else-can_exchange : goal.returns-else-can_exchange
returns-else-can_exchange c = λ p. (let t : c.can_exchange.result ≡ true = c.can_exchange.ensures.1 p in absurd (cc))
