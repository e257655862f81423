use Rattle.std.proofs.Common.{ℕ, ◌<◌, ◌++◌, ◌∷◌, [], List, length, ap, ◌∙◌, arith}
use Rattle.std.proofs.lemmas.List.{get_or_default}
use Rattle.rt_sat.proofs.Children.{children_none, children_whole, children_bare, children_more}
use Rattle.rt_sat.proofs.closing.children.Goals as goal

pub loop-number-init : goal.loop-number-init
loop-number-init c = children_none c.args.named.now c.in_ok-children.children.items (c.in_ok-children.ensures.length ∙ c.len.ensures.count) c.in_ok-children.ensures.none

pub loop-number-preserved : goal.loop-number-preserved
loop-number-preserved c =
    let inside : c.loop-number.number < length c.args.named.now = omega arith in
    let room : c.in-Longer.parent < length c.loop-number.children.items = omega (arith, c.loop-number.invariant.size, c.in-Longer.ensures.below) in
    children_more c.args.named.now c.requires c.loop-number.number c.in-Longer.parent _ c.loop-number.children.items c.push.new.self inside c.in-Longer.ensures.below c.in-Longer.ensures.made
    (c.in_ok-push.ensures.ok ∙ ap (λ (xs : List ℕ). xs ++ c.loop-number.number ∷ []) (c.index_mut.ensures.value ∙ get_or_default c.loop-number.children.items c.in-Longer.parent _ [] room)) c.loop-number.invariant

pub loop-number-preserved-in-Bare : goal.loop-number-preserved-in-Bare
loop-number-preserved-in-Bare c = children_bare c.args.named.now c.loop-number.number _ c.loop-number.children.items c.in-Bare.ensures.made c.loop-number.invariant

pub returns : goal.returns
returns c = children_whole c.args.named.now c.loop-number.number c.loop-number.children.items (omega arith) (omega arith) c.loop-number.invariant
