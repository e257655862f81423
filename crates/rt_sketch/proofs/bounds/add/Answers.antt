use Rattle.std.proofs.Common.{ℕ, ◌++◌, ◌∷◌, [], List, ap, ◌∙◌}
use Rattle.std.proofs.lemmas.List.{get_or_default}
use Rattle.rt_ways.proofs.Entering.{arc_added}
use Rattle.rt_sketch.proofs.bounds.add.Goals as goal

pub returns : goal.returns
returns c =
    arc_added c.args.number c.args.bound c.args.rows.now.items c.push.new.self c.requires
    (c.in_ok-push.ensures.ok ∙ ap (λ (xs : List ℕ). xs ++ c.args.bound ∷ []) (c.index_mut.ensures.value ∙ get_or_default c.args.rows.now.items c.args.number _ [] c.requires))
