use Rattle.std.proofs.Common.{◌≡◌, ◌<◌, [], ◌∷◌, ◌++◌, length, slice_index, get_or, take, sym, ap, subst, ◌∙◌}
use Rattle.std.proofs.lemmas.List.{get_or_read, take_more}
use Rattle.rt_components.specs.Inside.Classes.{AddsOthers}
use Rattle.rt_components.proofs.Members.{adds_other, adds_same}
use Rattle.rt_components.proofs.classes.add_successors.Goals as goal
use Rattle.rt_components.proofs.classes.add_successors.Goals.{then-other-class+in_ok-push, else-other-class}

pub loop-node-preserved : goal.loop-node-preserved
loop-node-preserved c =
    let class = c.args.classes.now.class.items in
    let nodes = c.args.nodes.now in
    let i = c.loop-node.node-index in
    let b = get_or nodes i 0 in
    let more = take_more nodes i 0 c.loop-node-test.true in
    let within : b < length class = c.requires i 0 c.loop-node-test.true in
    let other : c.index-other.result.now ≡ slice_index class b = get_or_read class b c.index-other.result.now within c.index-other.ensures 0 in
    let old = c.args.successors.now in
    let was = c.loop-node.successors in
    let now = c.if-other-class.successors in
    elim c.if-other-class.branch [
      | then-other-class+in_ok-push w ↦
          let is : now ≡ was ++ slice_index class b ∷ [] = w.successors-is ∙ w.in_ok-push.ensures.ok ∙ ap (λ h. was ++ h ∷ []) other in
          subst (λ ns. AddsOthers class c.args.class ns old now) (sym more)
          (subst (AddsOthers class c.args.class (take i nodes ++ b ∷ []) old) (sym is) (adds_other class c.args.class (take i nodes) old was c.loop-node.invariant b (λ e. w.if-other-class.true (other ∙ e))))
      | else-other-class w ↦
          subst (λ ns. AddsOthers class c.args.class ns old now) (sym more)
          (subst (AddsOthers class c.args.class (take i nodes ++ b ∷ []) old) (sym w.successors-is) (adds_same class c.args.class (take i nodes) old was c.loop-node.invariant b (sym other ∙ w.if-other-class.false)))
    ]
