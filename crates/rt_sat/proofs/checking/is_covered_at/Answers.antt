use Rattle.std.proofs.Common.{sym, ◌∙◌}
use Rattle.rt_sat.specs.Inside.Flags.{IsCovered}
use Rattle.rt_sat.specs.Pushes.{asked_of}
use Rattle.rt_sat.proofs.Flagging.{child_only}
use Rattle.rt_sat.proofs.checking.is_covered_at.Goals as goal

pub returns : goal.returns
returns c = λ e more walked end m same child.
    let target = c.args.target.now in
    child_only c.args.frame.now.named c.requires.distinct c.in-Some.end c.args.other c.in-Some.letter
    (λ end m. IsCovered target.flip (asked_of target.matters) more target.child target.letter end m c.args.count)
    c.in-Some.ensures.child (c.is_covered.ensures e more walked) end m (same ∙ sym c.in-Some.ensures.number) child
