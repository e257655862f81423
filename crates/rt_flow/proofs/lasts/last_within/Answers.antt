use Rattle.std.proofs.Common.{rules, ℕ}
use Rattle.std.specs.Prelude.{nat_lt}
use Rattle.std.proofs.lemmas.List.Sorted.{IsPartitionPoint-from_clause, IsPartitionedBy-ltb}
use Rattle.rt_flow.proofs.Ranges.{non_decreasing, none_before, none_behind, found}
use Rattle.rt_flow.proofs.lasts.last_within.Goals as goal

pub returns-then-before-eq0 : goal.returns-then-before-eq0
returns-then-before-eq0 c =
    let sites = c.args.sites.now in
    let point = IsPartitionPoint-from_clause (λ (y : ℕ). nat_lt y c.args.end) sites c.partition_point-before.result c.partition_point-before.ensures.partitioned (IsPartitionedBy-ltb (λ y. y) sites c.args.end (non_decreasing sites c.requires)) (λ a r q k. search rules) in
    none_before sites c.requires c.args.end c.partition_point-before.result c.partition_point-before.ensures.bound point c.if-before-eq0.true c.args.from

pub returns-then-last-from : goal.returns-then-last-from
returns-then-last-from c =
    let sites = c.args.sites.now in
    let point = IsPartitionPoint-from_clause (λ (y : ℕ). nat_lt y c.args.end) sites c.partition_point-before.result c.partition_point-before.ensures.partitioned (IsPartitionedBy-ltb (λ y. y) sites c.args.end (non_decreasing sites c.requires)) (λ a r q k. search rules) in
    none_behind sites c.requires c.args.end c.partition_point-before.result c.partition_point-before.ensures.bound point c.if-before-eq0.false c.args.from c.if-last-from.true

pub returns-else-last-from : goal.returns-else-last-from
returns-else-last-from c =
    let sites = c.args.sites.now in
    let point = IsPartitionPoint-from_clause (λ (y : ℕ). nat_lt y c.args.end) sites c.partition_point-before.result c.partition_point-before.ensures.partitioned (IsPartitionedBy-ltb (λ y. y) sites c.args.end (non_decreasing sites c.requires)) (λ a r q k. search rules) in
    found sites c.requires c.args.end c.partition_point-before.result c.partition_point-before.ensures.bound point c.if-before-eq0.false c.args.from c.if-last-from.false
