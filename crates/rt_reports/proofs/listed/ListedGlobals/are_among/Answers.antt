use Rattle.rt_reports.proofs.Listings.{among_not, among_all, among_more}
use Rattle.rt_reports.proofs.listed.ListedGlobals.are_among.Goals as goal

pub returns-then-not-has : goal.returns-then-not-has
returns-then-not-has c =
    among_not _ _ _ _ _ c.items-number-items.ensures c.loop-number-test.true c.loop-number-item.is c.if-not-has.ensures

pub returns : goal.returns
returns c = among_all _ _ _ _ c.items-number-items.ensures c.loop-number-test.false c.loop-number.invariant

pub loop-number-preserved : goal.loop-number-preserved
loop-number-preserved c =
    among_more _ _ _ _ _ c.items-number-items.ensures c.loop-number-test.true c.loop-number-item.is c.if-not-has.ensures c.loop-number.invariant
