use Rattle.std.proofs.Common.{[], ◌∷◌, ap, ◌∙◌, w64}
use Rattle.std.proofs.lemmas.Int.{to_z-of_z}
use Rattle.std.proofs.lemmas.List.{get_or_read}
use Rattle.rt_flow.specs.declared.def.Def.TheVariants.{Entry}
use Rattle.rt_flow.specs.Sources.{list_in, defs_in}
use Rattle.rt_flow.proofs.Sourcing.{lent, own_within}
use Rattle.rt_flow.proofs.reach.Reach.defs.Goals as goal

pub returns-in-Own-clause-reaching : goal.returns-in-Own-clause-reaching
returns-in-Own-clause-reaching c = λ body is.
    let less = own_within c.args.self.now c.in-Own.def c.in-Own.ensures.within in
    lent body c.args.self.now is c.args.site c.args.loc c.requires c.from_ref.result.now
    (c.from_ref.ensures.value
    ∙ ap (λ x. x ∷ []) (get_or_read c.args.self.now.own.items c.in-Own.def c.index.result.now less c.index.ensures Entry ∙ c.args.self.now.at_each c.in-Own.def less)
    ∙ ap (list_in c.args.self.now) c.in-Own.ensures.value
    ∙ ap (defs_in c.args.self.now c.args.site) (to_z-of_z w64 c.args.loc c.ranges.loc))

pub returns-in-Shared-clause-reaching : goal.returns-in-Shared-clause-reaching
returns-in-Shared-clause-reaching c = λ body is.
    lent body c.args.self.now is c.args.site c.args.loc c.requires c.shared.result.now
    (c.shared.ensures ∙ ap (list_in c.args.self.now) c.in-Shared.ensures.value ∙ ap (defs_in c.args.self.now c.args.site) (to_z-of_z w64 c.args.loc c.ranges.loc))
