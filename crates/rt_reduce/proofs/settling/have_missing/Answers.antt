use Rattle.std.proofs.Common.{List, sym, subst}
use Rattle.std.specs.BTreeSet.{contains}
use Rattle.std.specs.Ordering.{nat_cmp}
use Rattle.std.proofs.lemmas.List.{take_all}
use Rattle.rt_base.proofs.Lists.{Contains-none}
use Rattle.rt_lines.specs.declared.line.Line.{Line}
use Rattle.rt_reduce.specs.Inside.Settling.{HaveMissing}
use Rattle.rt_reduce.proofs.Leftover.{none_more}
use Rattle.rt_reduce.proofs.settling.have_missing.Goals as goal

pub loop-line-init : goal.loop-line-init
loop-line-init c = λ (l, d, m). Contains-none l d

pub loop-line-preserved : goal.loop-line-preserved
loop-line-preserved c =
    none_more (contains nat_cmp c.args.found.now) c.args.lines.now c.loop-line.line-index c.line-item.result c.loop-line-test.true
    c.line-item.is c.loop-line.invariant (λ h. (let f = c.has_missing.ensures.1 h in absurd (cc)))

pub returns-then-has_missing : goal.returns-then-has_missing
returns-then-has_missing c =
    (c.line-item.result, (c.loop-line.line-index, c.loop-line-test.true, sym c.line-item.is), c.has_missing.ensures.0 c.if-has_missing.true)

pub returns : goal.returns
returns c =
    subst (λ (ls : List Line). HaveMissing (contains nat_cmp c.args.found.now) ls → ⊥)
    (take_all c.loop-line.line-index c.args.lines.now c.loop-line-test.false) c.loop-line.invariant
