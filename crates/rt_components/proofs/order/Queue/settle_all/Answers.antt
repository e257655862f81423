use Rattle.std.proofs.Common.{◌+◌, get_or, drop, subst, ◌∙◌}
use Rattle.std.proofs.lemmas.List.{drop_more}
use Rattle.rt_components.specs.Inside.Orders.{IsQueue}
use Rattle.rt_components.proofs.Numbers.{cons_here}
use Rattle.rt_components.proofs.order.Queue.settle_all.Goals as goal

pub settle-requires : goal.settle-requires
settle-requires c =
    let classes = c.args.classes.now in
    let i = c.loop-class.class-index in
    let k = get_or classes i 0 in
    let rest = drop (i + 1) classes in
    let queue = subst (IsQueue c.args.successors.now c.args.members.now c.loop-class.self) (drop_more classes i 0 c.loop-class-test.true) c.loop-class.invariant.queue in
    let within = (queue.todo_only k (cons_here k rest)).0 in
    record {
      rest = rest;
      queue = queue;
      within = within;
      each = c.requires.linked.1.each;
      full = c.requires.linked.1.full k within;
      down = c.requires.linked.1.down k;
    }

pub loop-class-preserved : goal.loop-class-preserved
loop-class-preserved c =
    let classes = c.args.classes.now in
    let i = c.loop-class.class-index in
    let queue = subst (IsQueue c.args.successors.now c.args.members.now c.loop-class.self) (drop_more classes i 0 c.loop-class-test.true) c.loop-class.invariant.queue in
    record { queue = c.in_ok-settle.ensures.queue (drop (i + 1) classes) queue; come = c.in_ok-settle.ensures.come ∙ c.loop-class.invariant.come }
