use Rattle.std.proofs.Common.{◌≡◌, ◌<◌, ap, arith}
use Rattle.rt_lines.specs.Orders.{Below}
use Rattle.rt_lines.proofs.OrderCells.{IsOrder-written}
use Rattle.rt_lines.proofs.order.Order.add.Goals as goal

pub invariant_of-self : goal.invariant_of-self
invariant_of-self c =
    let counts : c.self.inside.count ≡ c.args.self.now.count = ap (λ (o : Below). o.count) c.self.view_is in
    let first : c.args.a < c.self.inside.count = omega (arith, c.requires.first) in
    let second : c.args.b < c.self.inside.count = omega (arith, c.requires.second) in
    IsOrder-written _ _ _ _ _ _ _ c.self.invariant first second c.deref_mut.ensures.value c.self.inside.cells.ok.0 c.put_below.auto.cells c.put_below.ensures
