use Rattle.std.proofs.Common.{◌≡◌, pos, rules, subst, sym, ◌∙◌}
use Rattle.std.specs.Prelude.{Contains}
use Rattle.rt_flow.specs.declared.def.Def.TheVariants.{At}
use Rattle.rt_flow.specs.Sources.{defs_in}
use Rattle.rt_body.specs.Told.{sites_in}
use Rattle.rt_body.proofs.Asked.{reaching_within_body}
use Rattle.rt_body.proofs.Within.{within_each}
use Rattle.rt_body.proofs.body.Body.reaching.Goals as goal

pub returns-clause-within : goal.returns-clause-within
returns-clause-within c =
    let body = c.args.self.now in
    let same : c.defs.result.now ≡ defs_in body.reach c.args.site (pos c.args.register) = search rules in
    within_each (sites_in body) c.defs.result.now (λ d in_list. body.within c.args.site c.args.register d c.requires.site (subst (λ defs. Contains defs (At d)) same in_list))

pub returns-clause-value : goal.returns-clause-value
returns-clause-value c =
    let body = c.args.self.now in
    let same : c.defs.result.now ≡ defs_in body.reach c.args.site (pos c.args.register) = search rules in
    same ∙ sym (reaching_within_body body c.args.site c.args.register c.requires.site)
