use Rattle.std.proofs.Common.{◌-◌, ℤ, pos, rules, ap, sym, ◌∙◌, Some, w32}
use Rattle.std.specs.Prelude.{int_le, slice_index_or, FitsSigned}
use Rattle.std.proofs.lemmas.Int.{to_z-of_z}
use Rattle.std.proofs.lemmas.List.Sorted.{IsPartitionPoint-from_clause}
use Rattle.rt_frame.proofs.Spots.{parted_upto, greatest_none, greatest_some}
use Rattle.rt_frame.proofs.spot.greatest_upto.Goals as goal

pub returns-then-upto-eq0 : goal.returns-then-upto-eq0
returns-then-upto-eq0 c =
    let offsets = c.args.offsets.now in
    let point = IsPartitionPoint-from_clause (λ (y : ℤ). int_le y c.args.k) offsets c.partition_point-upto.result c.partition_point-upto.ensures.partitioned (parted_upto c.args.k offsets c.requires) (λ a r q k. search rules) in
    sym (greatest_none c.args.k offsets c.partition_point-upto.result point c.if-upto-eq0.true)

pub returns : goal.returns
returns c =
    let offsets = c.args.offsets.now in
    let upto = c.partition_point-upto.result in
    let point = IsPartitionPoint-from_clause (λ (y : ℤ). int_le y c.args.k) offsets upto c.partition_point-upto.ensures.partitioned (parted_upto c.args.k offsets c.requires) (λ a r q k. search rules) in
    let fits : FitsSigned w32 (slice_index_or offsets (upto - 1) (pos 0)) = search rules in
    ap Some (to_z-of_z w32 (slice_index_or offsets (upto - 1) (pos 0)) fits) ∙ sym (greatest_some c.args.k offsets upto point c.if-upto-eq0.false c.partition_point-upto.ensures.bound)
