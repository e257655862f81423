use Rattle.std.proofs.Common.{List, ap, subst}
use Rattle.std.specs.BTreeMap.{is_at}
use Rattle.std.specs.List.{list_any}
use Rattle.std.specs.BTreeSet.{contains}
use Rattle.std.specs.Ordering.{nat_cmp}
use Rattle.std.proofs.lemmas.List.{take_all}
use Rattle.rt_lines.specs.declared.line.Line.{Line}
use Rattle.rt_record.proofs.Sparing.{AreSpared, spared_none, spared_more, are_records}
use Rattle.rt_record.proofs.records.spoiled.Goals as goal

pub loop-line-init : goal.loop-line-init
loop-line-init c = spared_none (contains nat_cmp c.new-found.result) (λ n. ap (λ ks. list_any (is_at (nat_cmp n)) ks) c.new-found.ensures.empty)

pub loop-line-preserved : goal.loop-line-preserved
loop-line-preserved c =
    spared_more c.args.lines.now c.loop-line.line-index c.line-item.result (contains nat_cmp c.loop-line.found) (contains nat_cmp c.spoil.new.found)
    c.loop-line-test.true c.line-item.is c.loop-line.invariant c.in_ok-spoil.ensures

pub returns : goal.returns
returns c =
    are_records c.args.lines.now (contains nat_cmp c.loop-line.found)
    (subst (λ (ls : List Line). AreSpared ls (contains nat_cmp c.loop-line.found)) (take_all c.loop-line.line-index c.args.lines.now c.loop-line-test.false)
    c.loop-line.invariant)
