use Rattle.std.proofs.lemmas.Option.{slice_get-get_or}
use Rattle.rt_liveness.specs.Inside.Closures.{Says, IsSaid}
use Rattle.rt_liveness.proofs.Adding.{ForFirst, next_item, all_items, alike}
use Rattle.rt_liveness.proofs.Following.{said}
use Rattle.std.proofs.Common.{Contains}
use Rattle.rt_liveness.specs.declared.rule.Rule.{Rule}
use Rattle.rt_liveness.proofs.closure.note_all.Goals as goal

pub loop-rule-preserved : goal.loop-rule-preserved
loop-rule-preserved c =
    let rules = c.args.rules.now in
    next_item rules (Says c.args.when) c.args.found.now.keys c.loop-rule.found.keys c.note.new.found.keys c.loop-rule.rule-index _
    (slice_get-get_or rules c.loop-rule.rule-index _ c.loop-rule-test.true) c.loop-rule.invariant c.in_ok-note.ensures

pub returns : goal.returns
returns c =
    let rules = c.args.rules.now in
    let first = c.args.found.now.keys in
    let last = c.loop-rule.found.keys in
    alike first last (λ port. (rule : Rule) × Contains rules rule × Says c.args.when rule port) (IsSaid rules c.args.when) (said rules c.args.when)
    (all_items rules (Says c.args.when) first last c.loop-rule.rule-index c.loop-rule-test.false c.loop-rule.invariant)
