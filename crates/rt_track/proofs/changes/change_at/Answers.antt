use Rattle.std.proofs.Common.{rules}
use Rattle.std.specs.Prelude.{nat_le}
use Rattle.std.proofs.lemmas.List.Sorted.{IsPartitionPoint-from_clause, IsPartitionedBy-leb}
use Rattle.rt_track.proofs.Changing.{before_all, last_change}
use Rattle.rt_track.proofs.changes.change_at.Goals as goal

pub returns-then-count-eq0 : goal.returns-then-count-eq0
returns-then-count-eq0 g c =
    let changes = c.args.changes.now in
    let point = IsPartitionPoint-from_clause (λ y. nat_le y.0 c.args.site) changes c.partition_point-count.result c.partition_point-count.ensures.partitioned (IsPartitionedBy-leb (λ y. y.0) changes c.args.site c.requires) (λ a r q k. search rules) in
    before_all changes c.args.site c.args.before c.partition_point-count.result c.partition_point-count.ensures.bound point c.if-count-eq0.true

pub returns : goal.returns
returns g c =
    let changes = c.args.changes.now in
    let point = IsPartitionPoint-from_clause (λ y. nat_le y.0 c.args.site) changes c.partition_point-count.result c.partition_point-count.ensures.partitioned (IsPartitionedBy-leb (λ y. y.0) changes c.args.site c.requires) (λ a r q k. search rules) in
    last_change changes c.args.site c.args.before c.partition_point-count.result c.partition_point-count.ensures.bound point c.if-count-eq0.false c.index-changes-count.result
