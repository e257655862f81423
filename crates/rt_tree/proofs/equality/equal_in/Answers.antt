use Rattle.rt_tree.proofs.Both.{same_if_alike}
use Rattle.rt_tree.proofs.equality.equal_in.Goals as goal

pub returns : goal.returns
returns c =
    let alike = same_if_alike c.args.a.now c.args.b.now c.size.ensures.tree c.size-2.ensures.tree in
    (λ yes. alike.0 (c.settle.ensures.0 yes), λ same. c.settle.ensures.1 (alike.1 same))
