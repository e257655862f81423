use Rattle.std.proofs.Common.{◌≡◌, ℕ, length, rules}
use Rattle.std.proofs.lemmas.List.{nil_from_length}
use Rattle.rt_table.proofs.Writing.{told-end, told-step}
use Rattle.rt_table.proofs.merges.put_rows.Goals as goal

pub loop-row-preserved : goal.loop-row-preserved
loop-row-preserved c =
    told-step c.loop-row.pending.items c.push.new.self.items c.loop-row.rows.items c.pop.new.self.items _ c.in-Some.row c.in_ok-push.ensures.items
    c.in-Some.ensures.items c.loop-row.invariant

pub returns : goal.returns
returns c =
    let none : length c.loop-row.rows.items ≡ 0 = search rules in
    told-end c.loop-row.pending.items c.loop-row.rows.items _ (nil_from_length c.loop-row.rows.items none) c.loop-row.invariant
