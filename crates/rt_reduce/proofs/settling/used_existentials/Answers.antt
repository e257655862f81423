use Rattle.std.proofs.Common.{List, subst}
use Rattle.std.specs.BTreeSet.{contains}
use Rattle.std.specs.Ordering.{nat_cmp}
use Rattle.std.proofs.lemmas.List.{take_all}
use Rattle.rt_lines.specs.declared.line.Line.{Line}
use Rattle.rt_twins.specs.Inside.Leading.{AreOfLines}
use Rattle.rt_twins.proofs.Gathering.{of_lines_more}
use Rattle.rt_reduce.specs.Inside.Settling.{IsUsedBy}
use Rattle.rt_reduce.proofs.settling.used_existentials.Goals as goal

pub loop-line-preserved : goal.loop-line-preserved
loop-line-preserved c =
    of_lines_more IsUsedBy c.args.lines.now c.loop-line.line-index c.line-item.result (contains nat_cmp c.loop-line.found)
    (contains nat_cmp c.note_uses.new.found) c.loop-line-test.true c.line-item.is c.loop-line.invariant c.in_ok-note_uses.ensures

pub returns : goal.returns
returns c =
    subst (λ (ls : List Line). AreOfLines IsUsedBy ls (contains nat_cmp c.loop-line.found))
    (take_all c.loop-line.line-index c.args.lines.now c.loop-line-test.false) c.loop-line.invariant
