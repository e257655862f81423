use Rattle.rt_sat.proofs.Pushed.{both_signs}
use Rattle.rt_sat.proofs.checking.is_number_covered.Goals as goal

pub returns-then-is_parent_covered : goal.returns-then-is_parent_covered
returns-then-is_parent_covered c = λ e edges more complete walked.
    both_signs c.args.frame.now.named c.args.frame.now.flips.items c.args.frame.now.matters.items edges more c.args.number
    (c.is_parent_covered.ensures c.if-is_parent_covered.true edges more complete walked)
    (c.is_parent_covered-then-is_parent_covered.ensures e edges more complete walked)
