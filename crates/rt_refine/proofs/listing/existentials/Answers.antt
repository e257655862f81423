use Rattle.std.proofs.Common.{subst, List}
use Rattle.std.specs.BTreeSet.{contains}
use Rattle.std.specs.Ordering.{nat_cmp}
use Rattle.rt_lines.specs.declared.line.Line.{Line}
use Rattle.rt_refine.specs.Groups.{AreNamed}
use Rattle.rt_refine.proofs.Noting.{named_more}
use Rattle.std.proofs.lemmas.List.{take_all}
use Rattle.rt_refine.proofs.listing.existentials.Goals as goal

pub loop-line-preserved : goal.loop-line-preserved
loop-line-preserved c =
    named_more c.args.lines.now c.loop-line.line-index c.line-item.result
    (contains nat_cmp c.loop-line.found) (contains nat_cmp c.note_line.new.found) c.loop-line-test.true c.line-item.is
    c.loop-line.invariant c.in_ok-note_line.ensures

pub returns : goal.returns
returns c =
    subst (λ (ls : List Line). AreNamed ls (contains nat_cmp c.loop-line.found))
    (take_all c.loop-line.line-index c.args.lines.now c.loop-line-test.false) c.loop-line.invariant
