use Rattle.std.specs.BTreeSet.{contains}
use Rattle.std.specs.Ordering.{nat_cmp}
use Rattle.rt_trim.proofs.Spoiling.{are_idle}
use Rattle.rt_trim.proofs.idle.spoiled.Goals as goal

pub returns : goal.returns
returns c =
    are_idle c.args.lines.now c.in_ok-users.users.entries (contains nat_cmp c.in_ok-found.found) c.in_ok-users.ensures c.in_ok-found.ensures
