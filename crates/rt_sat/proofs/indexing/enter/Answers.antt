use Rattle.std.proofs.Common.{ℕ, ◌++◌, ◌∷◌, [], List, ap, ◌∙◌}
use Rattle.std.proofs.lemmas.List.{get_or_default}
use Rattle.rt_sat.proofs.Indices.{entered}
use Rattle.rt_sat.proofs.indexing.enter.Goals as goal

pub returns : goal.returns
returns c = entered c.args.out.now.items c.widen.new.out.items c.args.key c.args.index c.push.new.self c.in_ok-widen.ensures.same c.in_ok-widen.ensures.room
    (c.in_ok-push.ensures.ok ∙ ap (λ (xs : List ℕ). xs ++ c.args.index ∷ []) (c.index_mut.ensures.value ∙ get_or_default c.widen.new.out.items c.args.key _ [] c.in_ok-widen.ensures.room))
