use Rattle.std.proofs.Common.{◌≡◌, true, false, sym, subst, ◌∙◌}
use Rattle.rt_rules.specs.Rules.{Derivable}
use Rattle.rt_reduce.proofs.Opening.{apart}
use Rattle.rt_reduce.proofs.deciding.told_narrow.Goals as goal

pub returns-then-not-are_one : goal.returns-then-not-are_one
returns-then-not-are_one c =
    let order = c.args.order.now in
    let left = c.args.left.now in
    record {
      no = λ e d.
          apart order left c.in-Sub.x c.in-Sub.y
          (λ s. (let t : false ≡ true = sym c.if-not-are_one.true ∙ (c.are_one.ensures left order c.in_ok-shape.ensures).1 s in absurd (cc)))
          (subst (Derivable order left) c.in-Sub.is d);
      yes = λ e. absurd (cc);
    }
