use Rattle.std.proofs.Common.{◌≡◌, ℕ, length, rules}
use Rattle.std.proofs.lemmas.List.{nil_from_length}
use Rattle.rt_table.proofs.Writing.{put-end, put-step}
use Rattle.rt_table.proofs.merges.put_items.Goals as goal

pub loop-item-preserved : goal.loop-item-preserved
loop-item-preserved c =
    put-step c.loop-item.pending.items c.push.new.self.items c.loop-item.items.items c.pop.new.self.items _ c.in-Some.item c.in_ok-push.ensures.items
    c.in-Some.ensures.items c.loop-item.invariant

pub returns : goal.returns
returns c =
    let none : length c.loop-item.items.items ≡ 0 = search rules in
    put-end c.loop-item.pending.items c.loop-item.items.items _ (nil_from_length c.loop-item.items.items none) c.loop-item.invariant
