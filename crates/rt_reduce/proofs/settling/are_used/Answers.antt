use Rattle.std.specs.BTreeSet.{contains}
use Rattle.std.specs.Ordering.{nat_cmp}
use Rattle.rt_reduce.proofs.Leftover.{used_or}
use Rattle.rt_reduce.proofs.settling.are_used.Goals as goal

pub returns : goal.returns
returns c =
    used_or c.have_missing.result c.args.lines.now (contains nat_cmp c.in_ok-used.used) c.in_ok-used.ensures c.have_missing.ensures
