use Rattle.std.proofs.Common.{[], List, ℕ, sym, subst, ◌∙◌}
use Rattle.std.proofs.lemmas.List.{get_or_read}
use Rattle.rt_track.specs.declared.nodes.Input.{Input}
use Rattle.rt_track.specs.Changes.{IsAscending}
use Rattle.rt_track.proofs.graph.use_at.Goals as goal

pub change_at-requires : goal.change_at-requires
change_at-requires c =
    subst (λ (cs : List (ℕ × Input)). IsAscending cs) (sym (c.items.ensures ∙ get_or_read c.args.uses.now c.args.reg c.index-uses-reg.result c.requires.reg c.index-uses-reg.is [])) (c.requires.ascending c.args.reg c.requires.reg)
