use Rattle.std.proofs.Common.{◌<◌, ◌++◌, ◌∷◌, [], sym, ap, subst, ◌∙◌, length, arith}
use Rattle.rt_outline.specs.Arcs.{HasArc}
use Rattle.rt_outline.specs.Frames.{IsFresh}
use Rattle.rt_outline.proofs.Framed.{arcs_wider, fresh_next, origins_next}
use Rattle.rt_outline.proofs.frame.Frame.of.Goals as goal

pub enter-requires-clause-fresh : goal.enter-requires-clause-fresh
enter-requires-clause-fresh c =
    let small : c.loop-number.number < length c.args.named.now = omega (arith, c.len-number-end.ensures.count) in
    subst (IsFresh c.loop-number.frame.origins.items) (sym c.origin-in-loop-number.ensures)
    (fresh_next c.args.named.now c.loop-number.number c.origin.result c.loop-number.frame.origins.items small c.requires c.origin.ensures.made c.loop-number.invariant.origins)

pub loop-number-preserved : goal.loop-number-preserved
loop-number-preserved c = record {
  frame = c.in_ok-enter.ensures.frame;
  origins = origins_next c.args.named.now c.loop-number.number c.origin.result c.loop-number.frame.origins.items c.enter.new.self.origins.items c.origin.ensures.made c.origin.ensures.below
      (c.in_ok-enter.ensures.origins ∙ ap (λ o. c.loop-number.frame.origins.items ++ o ∷ []) c.origin-in-loop-number.ensures) c.loop-number.invariant.origins;
  none = λ v w line h. c.loop-number.invariant.none v w line ((arcs_wider c.loop-number.frame.arcs.items v w line).0 (subst (λ xs. HasArc xs v w line) c.in_ok-enter.ensures.arcs h));
}
