use Rattle.std.specs.BTreeSet.{contains}
use Rattle.std.specs.Ordering.{nat_cmp}
use Rattle.rt_record.proofs.Sparing.{held_stays}
use Rattle.rt_record.proofs.records.spoil_side.Goals as goal

pub returns-else-not-is_held : goal.returns-else-not-is_held
returns-else-not-is_held c =
    held_stays c.args.sign c.args.x.now (contains nat_cmp c.args.found.now) c.is_held.result c.if-not-is_held.false c.is_held.ensures
