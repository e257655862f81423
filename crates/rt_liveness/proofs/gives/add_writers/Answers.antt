use Rattle.std.proofs.lemmas.Option.{slice_get-get_or}
use Rattle.rt_liveness.specs.Inside.GivesRules.{IsWriterRule}
use Rattle.rt_liveness.proofs.Adding.{next_item, all_items}
use Rattle.rt_liveness.proofs.gives.add_writers.Goals as goal

pub loop-def-preserved : goal.loop-def-preserved
loop-def-preserved c =
    let defs = c.args.defs.now in
    let p = c.args.procedure.now in
    next_item defs (IsWriterRule c.args.named.now p.sites.now p.number c.args.r) c.args.rules.now c.loop-def.rules c.add_writer.new.rules c.loop-def.def-index _
    (slice_get-get_or defs c.loop-def.def-index _ c.loop-def-test.true) c.loop-def.invariant c.in_ok-add_writer.ensures

pub returns : goal.returns
returns c =
    let p = c.args.procedure.now in
    all_items c.args.defs.now (IsWriterRule c.args.named.now p.sites.now p.number c.args.r) c.args.rules.now c.loop-def.rules c.loop-def.def-index c.loop-def-test.false c.loop-def.invariant
