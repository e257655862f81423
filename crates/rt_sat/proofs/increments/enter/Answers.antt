use Rattle.std.proofs.Common.{ℕ, ◌∙◌}
use Rattle.std.proofs.lemmas.Result.{on_ok_weaker}
use Rattle.rt_sat.proofs.ToldPushes.{all_ready_same}
use Rattle.rt_sat.proofs.increments.enter.Goals as goal

pub due-requires : goal.due-requires
due-requires c = (c.requires.family.0, c.in_ok-enter_lines.ensures.family c.requires.family.0 c.requires.family.1)

pub spread_from-requires-clause-family : goal.spread_from-requires-clause-family
spread_from-requires-clause-family c = (c.requires.family.0, c.in_ok-enter_lines.ensures.family c.requires.family.0 c.requires.family.1)

pub spread_from-requires-clause-ready : goal.spread_from-requires-clause-ready
spread_from-requires-clause-ready c =
    let is = c.requires.ready in
    let count : ℕ = c.requires.family.0 in (
      is.0,
      is.1,
      all_ready_same is.0 is.1 count c.args.family.now c.enter_lines.new.family c.args.kin.now.links c.args.kin.now.ready.items c.in_ok-enter_lines.ensures.same c.requires.family.1 (c.in_ok-enter_lines.ensures.family count c.requires.family.1) is.2,
    )

pub returns-clause-same : goal.returns-clause-same
returns-clause-same c = on_ok_weaker c.spread_from.result (λ same. same ∙ c.in_ok-enter_lines.ensures.same) c.spread_from.ensures.same

pub returns-clause-family : goal.returns-clause-family
returns-clause-family c = on_ok_weaker c.spread_from.result (λ family count before. family count (c.in_ok-enter_lines.ensures.family count before)) c.spread_from.ensures.family

pub returns-clause-told : goal.returns-clause-told
returns-clause-told c =
    on_ok_weaker c.spread_from.result
    (λ told known flips lines within are linked before. told known flips lines
    (all_ready_same known flips c.requires.family.0 c.args.family.now c.enter_lines.new.family c.args.kin.now.links c.args.kin.now.ready.items c.in_ok-enter_lines.ensures.same c.requires.family.1
    (c.in_ok-enter_lines.ensures.family c.requires.family.0 c.requires.family.1) are)
    linked (c.in_ok-enter_lines.ensures.among known flips lines within before))
    c.spread_from.ensures.told
