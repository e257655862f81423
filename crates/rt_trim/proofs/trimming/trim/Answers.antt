use Rattle.std.proofs.Common.{not}
use Rattle.std.specs.BTreeSet.{contains}
use Rattle.std.specs.Ordering.{nat_cmp}
use Rattle.rt_trim.proofs.Leaving.{smaller_left}
use Rattle.rt_trim.proofs.trimming.trim.Goals as goal

pub returns-clause-smaller : goal.returns-clause-smaller
returns-clause-smaller c =
    smaller_left (λ n. not (contains nat_cmp c.in_ok-spoiled.spoiled n)) c.have_idle.result c.args.lines.now c.in_ok-left.left
    c.if-not-have_idle.false c.have_idle.ensures c.in_ok-left.ensures
