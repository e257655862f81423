use Rattle.std.proofs.Common.{◌≡◌, true, sym}
use Rattle.rt_sketch.proofs.Denoting.{exchanged, kept}
use Rattle.rt_sketch.proofs.machine.Machine.behind.Goals as goal

pub state_for-requires : goal.state_for-requires
state_for-requires c = c.hub.ensures.sized

pub returns-in_ok-next : goal.returns-in_ok-next
returns-in_ok-next c = λ lines x is d e.
    let p = c.can_exchange.ensures.0 c.if-can_exchange.true in
    exchanged lines c.args.self.now is c.args.state.now x d c.args.label c.args.node e c.hub.result c.in_ok-next.next p.0 p.1 (sym c.hub.ensures.hub) c.in_ok-next.ensures

pub returns-in_ok-next-2 : goal.returns-in_ok-next-2
returns-in_ok-next-2 c = λ lines x is d e.
    kept lines c.args.self.now is c.args.state.now x d c.args.label c.args.node e c.in_ok-next-2.next
    (λ p. (let t : c.can_exchange.result ≡ true = c.can_exchange.ensures.1 p in absurd (cc))) c.in_ok-next-2.ensures.co c.in_ok-next-2.ensures.contra
