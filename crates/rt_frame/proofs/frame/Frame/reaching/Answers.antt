use Rattle.std.proofs.Common.{rules, ◌≡◌, subst, sym, ◌∙◌}
use Rattle.std.specs.Prelude.{Contains}
use Rattle.rt_flow.specs.declared.def.Def.TheVariants.{At}
use Rattle.rt_flow.specs.Sources.{defs_in}
use Rattle.rt_frame.specs.Told.{frame_sites}
use Rattle.rt_frame.proofs.Framed.{reaching_at}
use Rattle.rt_frame.proofs.frame.Frame.reaching.Goals as goal
use Rattle.rt_body.proofs.Within.{within_each}

pub returns-clause-within : goal.returns-clause-within
returns-clause-within c =
    let frame = c.args.self.now in
    let same : c.defs.result.now ≡ defs_in frame.reach c.args.site c.args.loc = search rules in
    within_each (frame_sites frame) c.defs.result.now (λ d in_list. frame.within c.args.site d c.args.loc c.requires (subst (λ defs. Contains defs (At d)) same in_list))

pub returns-clause-value : goal.returns-clause-value
returns-clause-value c =
    let frame = c.args.self.now in
    let same : c.defs.result.now ≡ defs_in frame.reach c.args.site c.args.loc = search rules in
    same ∙ sym (reaching_at frame.reach c.args.site c.args.loc c.requires)
