use Rattle.rt_emit.specs.Inside.Queues.{IsPopped}
use Rattle.rt_emit.proofs.Turning.{IsWritingOf, turned, popped_has, all_written, writing_begun}
use Rattle.rt_emit.proofs.writing.write_queued.Goals as goal

pub loop-x-init : goal.loop-x-init
loop-x-init c = λ lines order is_shape first.
    writing_begun order lines c.args.shape.now is_shape c.args.letters.now c.new-words.result c.args.queue.now c.new-written.result.items
    c.new-words.ensures.empty
    c.new-written.ensures.items c.requires first

pub loop-x-preserved : goal.loop-x-preserved
loop-x-preserved c = λ lines order is_shape first.
    let is : IsWritingOf order lines c.args.shape.now is_shape c.loop-x.letters c.loop-x.words c.loop-x.queue c.loop-x.written.items =
    c.loop-x.invariant lines order is_shape first in
    let popped : IsPopped c.loop-x.queue c.pop.new.self c.in-Some.x = c.in-Some.ensures in
    turned order lines c.args.shape.now is_shape c.in-Some.x c.loop-x.letters c.turn.new.letters c.loop-x.words c.turn.new.words
    c.loop-x.queue
    c.pop.new.self c.turn.new.queue c.loop-x.written.items c.turn.new.written.items is popped
    (c.in_ok-turn.ensures.turn (popped_has order lines c.args.shape.now is_shape c.in-Some.x c.loop-x.letters c.loop-x.words
    c.loop-x.queue c.pop.new.self
    c.loop-x.written.items is popped))

pub returns : goal.returns
returns c = λ lines order is_shape first.
    all_written order lines c.args.shape.now is_shape c.loop-x.letters c.loop-x.words c.loop-x.queue c.loop-x.written.items
    (c.loop-x.invariant lines order is_shape first) c.in_default.ensures
