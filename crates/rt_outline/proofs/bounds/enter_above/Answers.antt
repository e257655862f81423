use Rattle.std.proofs.Common.{◌≡◌, true, sym, ◌∙◌}
use Rattle.rt_lines.specs.Orders.{IsAtOrBelow}
use Rattle.rt_outline.proofs.Bounded.{at_more, at_other}
use Rattle.rt_outline.proofs.bounds.enter_above.Goals as goal

pub returns-then-not-is_standing : goal.returns-then-not-is_standing
returns-then-not-is_standing c = λ before are. at_other (IsAtOrBelow c.args.order.now c.args.k) c.args.stands.now before c.args.bound c.args.numbers.now.items
    (λ f p. (let t : c.is_standing.result ≡ true = c.is_standing.ensures ∙ f in cc)) are

pub returns-in_ok-push : goal.returns-in_ok-push
returns-in_ok-push c = λ before are. at_more (IsAtOrBelow c.args.order.now c.args.k) c.args.stands.now before c.args.bound c.args.numbers.now.items
    c.push.new.self.items c.in_ok-push.ensures.items (sym c.is_standing.ensures ∙ c.if-not-is_standing.false) (c.le.ensures.0 c.if-le.true) are

pub returns-else-le : goal.returns-else-le
returns-else-le c = λ before are. at_other (IsAtOrBelow c.args.order.now c.args.k) c.args.stands.now before c.args.bound c.args.numbers.now.items
    (λ f p. (let t : c.le.result ≡ true = c.le.ensures.1 p in cc)) are
