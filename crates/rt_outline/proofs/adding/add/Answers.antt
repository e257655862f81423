use Rattle.std.proofs.Common.{◌++◌, ◌∷◌, [], List, ap, ◌∙◌}
use Rattle.std.proofs.lemmas.List.{get_or_default}
use Rattle.rt_outline.specs.declared.arc.Arc.{Arc}
use Rattle.rt_outline.proofs.Entered.{arc_added}
use Rattle.rt_outline.proofs.adding.add.Goals as goal

pub returns : goal.returns
returns c =
    arc_added c.args.from c.args.arc c.args.arcs.now.items c.push.new.self c.requires
    (c.in_ok-push.ensures.ok ∙ ap (λ (xs : List Arc). xs ++ c.args.arc ∷ []) (c.index_mut.ensures.value ∙ get_or_default c.args.arcs.now.items c.args.from _ [] c.requires))
