use Rattle.std.proofs.Common.{◌≡◌, ◌<◌, Contains, sym, subst}
use Rattle.rt_components.specs.Groups.{group_at}
use Rattle.rt_outline.proofs.Joining.{group_read, groups_next}
use Rattle.rt_outline.proofs.grouping.numbers_of.Goals as goal

pub fill-requires : goal.fill-requires
fill-requires c = λ a m.
    let e : c.items-in-loop-k.result.now ≡ group_at c.args.groups.now c.loop-k.k =
    group_read c.args.groups.now c.items.result.now c.loop-k.k c.index-items-k.result c.items-in-loop-k.result.now c.items.ensures (subst
    (λ n. c.loop-k.k < n) c.len-k-end.ensures c.loop-k-test.true) c.index-items-k.is c.items-in-loop-k.ensures in
    subst (λ n. a < n) (sym c.loop-k.invariant.each) (c.requires c.loop-k.k a (subst (λ xs. Contains xs a) e m))

pub loop-k-preserved : goal.loop-k-preserved
loop-k-preserved c =
    groups_next c.args.count c.args.groups.now c.loop-k.k c.items-in-loop-k.result.now c.loop-k.numbers.items c.fill.new.numbers.items
    (group_read c.args.groups.now c.items.result.now c.loop-k.k c.index-items-k.result c.items-in-loop-k.result.now c.items.ensures
    (subst (λ n. c.loop-k.k < n) c.len-k-end.ensures c.loop-k-test.true)
    c.index-items-k.is c.items-in-loop-k.ensures) c.fill.ensures c.loop-k.invariant
