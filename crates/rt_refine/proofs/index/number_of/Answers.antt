use Rattle.std.proofs.Common.{sym}
use Rattle.rt_refine.specs.Ranks.{rank_cmp}
use Rattle.rt_refine.proofs.Keys.{numbered_before, numbered_now}
use Rattle.rt_refine.proofs.Ranking.{rank_total, rank_equal}
use Rattle.rt_refine.proofs.index.number_of.Goals as goal

pub returns-in-Some : goal.returns-in-Some
returns-in-Some c =
    numbered_before rank_cmp rank_total rank_equal c.args.numbers.now c.args.ranks c.args.fresh c.in-Some.number.now
    (sym c.in-Some.ensures.value)

pub returns : goal.returns
returns c =
    numbered_now rank_cmp rank_total rank_equal c.args.numbers.now c.insert.new.self c.args.ranks c.args.fresh
    (sym c.in_default.ensures.value) c.in_ok-insert.ensures.updates.0
