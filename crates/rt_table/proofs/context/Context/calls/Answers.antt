use Rattle.std.proofs.Common.{◌≡◌, ◌<◌, length, rules, arith}
use Rattle.rt_table.specs.Inside.Told.{context_of, linked_call}
use Rattle.rt_table.proofs.Rows.{call-step}
use Rattle.rt_table.proofs.context.Context.calls.Goals as goal

pub loop-index-preserved : goal.loop-index-preserved
loop-index-preserved c =
    let index = c.loop-index.index in
    let calls = c.calls_at-calls.result.now in
    let less : index < length calls = omega arith in
    let same : c.in-Ok.number ≡ index = search rules in
    call-step (context_of c.args.self.now) c.args.site (linked_call c.args.self.now.outside) calls index c.in-Ok.number _ c.args.items.now.items
    c.loop-index.items.items c.call_items.new.items.items less same c.loop-index.invariant c.in_ok-call_items.ensures
