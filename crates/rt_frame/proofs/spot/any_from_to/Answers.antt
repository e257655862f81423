use Rattle.std.proofs.Common.{ℤ, pos, rules, sym, w32}
use Rattle.std.specs.Prelude.{int_lt, slice_index_or, FitsSigned}
use Rattle.std.proofs.lemmas.Int.{to_z-of_z}
use Rattle.std.proofs.lemmas.List.Sorted.{IsPartitionPoint-from_clause}
use Rattle.rt_frame.proofs.Spots.{parted_from, none_between, first_between}
use Rattle.rt_frame.proofs.spot.any_from_to.Goals as goal

pub returns-then-below-offsets : goal.returns-then-below-offsets
returns-then-below-offsets c =
    let offsets = c.args.offsets.now in
    let below = c.partition_point-below.result in
    let point = IsPartitionPoint-from_clause (λ (y : ℤ). int_lt y c.args.from) offsets below c.partition_point-below.ensures.partitioned (parted_from c.args.from offsets c.requires) (λ a r q k. search rules) in
    sym (none_between c.args.from c.args.to offsets c.requires below point c.if-below-offsets.true)

pub returns : goal.returns
returns c =
    let offsets = c.args.offsets.now in
    let below = c.partition_point-below.result in
    let point = IsPartitionPoint-from_clause (λ (y : ℤ). int_lt y c.args.from) offsets below c.partition_point-below.ensures.partitioned (parted_from c.args.from offsets c.requires) (λ a r q k. search rules) in
    let first = slice_index_or offsets below (pos 0) in
    let fits : FitsSigned w32 (slice_index_or offsets below (pos 0)) = search rules in
    let same = to_z-of_z w32 first fits in
    let end = to_z-of_z w32 c.args.to c.ranges.to in
    rw same (rw end (sym (first_between c.args.from c.args.to offsets c.requires below point c.if-below-offsets.false c.partition_point-below.ensures.bound)))
