use Rattle.std.proofs.Common.{List, subst}
use Rattle.std.specs.BTreeSet.{contains}
use Rattle.std.specs.Ordering.{nat_cmp}
use Rattle.std.proofs.lemmas.List.{take_all}
use Rattle.rt_lines.specs.declared.line.Line.{Line}
use Rattle.rt_twins.specs.Inside.Leading.{AreOfLines, IsBareBut}
use Rattle.rt_twins.proofs.Gathering.{of_lines_more}
use Rattle.rt_twins.proofs.arrows.beside_others.Goals as goal

pub loop-line-preserved : goal.loop-line-preserved
loop-line-preserved c =
    of_lines_more (IsBareBut c.args.sign (contains nat_cmp c.args.known.now)) c.args.lines.now c.loop-line.line-index c.line-item.result
    (contains nat_cmp c.loop-line.found) (contains nat_cmp c.note_other.new.found) c.loop-line-test.true c.line-item.is
    c.loop-line.invariant c.in_ok-note_other.ensures

pub returns : goal.returns
returns c =
    subst (λ (ls : List Line). AreOfLines (IsBareBut c.args.sign (contains nat_cmp c.args.known.now)) ls (contains nat_cmp c.loop-line.found))
    (take_all c.loop-line.line-index c.args.lines.now c.loop-line-test.false) c.loop-line.invariant
