use Rattle.std.proofs.Common.{◌≡◌, [], ◌∷◌, ◌++◌, ap, subst, ◌∙◌, arith}
use Rattle.rt_shape.specs.Inside.Joins.{AreAlone}
use Rattle.rt_shape.proofs.Begun.{AreAlone-push}
use Rattle.rt_shape.proofs.joining.alone.Goals as goal

pub loop-node-preserved : goal.loop-node-preserved
loop-node-preserved c =
    let own : c.push.new.self ≡ c.loop-node.node ∷ [] = c.in_ok-push.ensures.ok ∙ ap (λ xs. xs ++ c.loop-node.node ∷ []) c.new-own.ensures in
    rw c.in_ok-push-2.ensures.items (AreAlone-push c.loop-node.node c.loop-node.members.items c.push.new.self c.loop-node.invariant own)

pub returns : goal.returns
returns c = subst (λ n. AreAlone n c.loop-node.members.items) (omega arith) c.loop-node.invariant
