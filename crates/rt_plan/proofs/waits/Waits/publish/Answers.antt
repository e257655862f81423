use Rattle.std.proofs.Common.{◌<◌, length, get_or, sym, ap, subst, ◌∙◌}
use Rattle.std.proofs.lemmas.List.{get_or_default, length-set}
use Rattle.rt_plan.proofs.Waiting.{release_some, released_left, released_ready, waits_not_ready}
use Rattle.rt_plan.proofs.waits.Waits.publish.Goals as goal

pub release-requires-clause-waits : goal.release-requires-clause-waits
release-requires-clause-waits c =
    let xs = c.args.callers.now in
    let i = c.loop-caller.caller-index in
    let k = get_or xs i 0 in
    release_some c.args.self.now.left.items c.loop-caller.self.left.items xs i k c.loop-caller-test.true (get_or_default xs i 0 k c.loop-caller-test.true) (c.requires.enough k) (c.loop-caller.invariant.left k)

pub release-requires-clause-not_ready : goal.release-requires-clause-not_ready
release-requires-clause-not_ready c =
    let xs = c.args.callers.now in
    let i = c.loop-caller.caller-index in
    let k = get_or xs i 0 in
    let some = release_some c.args.self.now.left.items c.loop-caller.self.left.items xs i k c.loop-caller-test.true (get_or_default xs i 0 k c.loop-caller-test.true) (c.requires.enough k) (c.loop-caller.invariant.left k) in
    let within : k < length c.loop-caller.self.left.items = subst (λ n. k < n) (sym c.loop-caller.invariant.each) (c.requires.within i 0 c.loop-caller-test.true) in
    waits_not_ready c.args.states.now c.loop-caller.self.left.items c.loop-caller.self.ready k c.loop-caller.invariant.ready within some

pub loop-caller-preserved : goal.loop-caller-preserved
loop-caller-preserved c =
    let xs = c.args.callers.now in
    let i = c.loop-caller.caller-index in
    let k = get_or xs i 0 in
    let left = c.loop-caller.self.left.items in
    let less = c.loop-caller-test.true in
    let some = release_some c.args.self.now.left.items left xs i k less (get_or_default xs i 0 k less) (c.requires.enough k) (c.loop-caller.invariant.left k) in
    let within : k < length left = subst (λ n. k < n) (sym c.loop-caller.invariant.each) (c.requires.within i 0 less) in
    record {
      each = ap length c.release.ensures.left ∙ (length-set left k _ ∙ c.loop-caller.invariant.each);
      left = released_left c.args.self.now.left.items left c.release.new.self.left.items xs i k less (get_or_default xs i 0 k less) within some c.release.ensures.left c.loop-caller.invariant.left;
      ready = released_ready c.args.states.now left c.release.new.self.left.items c.loop-caller.self.ready c.release.new.self.ready k c.loop-caller.invariant.ready within c.release.ensures.left c.release.ensures.ready;
    }
