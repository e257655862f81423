use Rattle.std.proofs.Common.{◌≡◌, ◌∙◌, true, List, ap, get_or, subst, ℕ, sym}
use Rattle.rt_shape.specs.Graphs.{IsReadWrite}
use Rattle.rt_ways.proofs.frame.Frame.can_exchange.Goals as goal

pub returns-then-is_pointer : goal.returns-then-is_pointer
returns-then-is_pointer c =
    let e : c.entry.result ≡ get_or c.args.self.now.nodes.items c.args.parent 0 = c.entry.ensures ∙ ap (λ (xs : List ℕ). get_or xs c.args.parent 0) c.deref.ensures.value in (
      λ t. (c.is_pointer.ensures.0 c.if-is_pointer.true, subst (IsReadWrite c.args.self.now.shape) e (c.is_rw.ensures.0 t)),
      λ p. c.is_rw.ensures.1 (subst (IsReadWrite c.args.self.now.shape) (sym e) p.1),
    )

pub returns-else-is_pointer : goal.returns-else-is_pointer
returns-else-is_pointer c = (λ t. absurd (cc), λ p. absurd (let t : c.is_pointer.result ≡ true = c.is_pointer.ensures.1 p.0 in cc))
