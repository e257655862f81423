use Rattle.std.proofs.Common.{sym, subst, ◌∙◌, arith}
use Rattle.rt_components.specs.Inside.Walks.{AreInClasses, AreNumbersOf}
use Rattle.rt_components.proofs.Numbering.{all_in, are_classes}
use Rattle.rt_components.proofs.walk.classes_of.Goals as goal

pub numbers-requires : goal.numbers-requires
numbers-requires c =
    let w = c.loop-node.walk in
    subst AreInClasses (sym c.deref.ensures.value) (all_in c.args.graph.now w c.loop-node.node c.loop-node.invariant.rest (omega arith) c.loop-node.invariant.seen)

pub returns-clause-classes : goal.returns-clause-classes
returns-clause-classes c =
    let w = c.loop-node.walk in
    are_classes c.args.graph.now w c.in_ok-numbers.field-0.items c.len.result c.loop-node.invariant.rest (all_in c.args.graph.now w c.loop-node.node c.loop-node.invariant.rest (omega arith) c.loop-node.invariant.seen)
    (subst (λ s. AreNumbersOf s c.in_ok-numbers.field-0.items) c.deref.ensures.value c.in_ok-numbers.ensures) (c.len.ensures ∙ w.heads.ok.0)
