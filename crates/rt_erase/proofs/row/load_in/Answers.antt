use Rattle.std.proofs.Common.{ℕ, sym, ◌∙◌, arith, rules}
use Rattle.std.proofs.lemmas.List.Sorted.{IsPartitionPoint-from_clause}
use Rattle.rt_lines.specs.declared.label.Label.{Label}
use Rattle.rt_erase.specs.Inside.Places.{is_argument}
use Rattle.rt_erase.proofs.Placed.{arguments_first, load_at}
use Rattle.rt_erase.proofs.row.load_in.Goals as goal

pub returns : goal.returns
returns c =
    let edges = c.args.edges.now in
    let place = c.partition_point-place.result in
    let point = IsPartitionPoint-from_clause (λ (edge : Label × ℕ). is_argument edge.0) edges place c.partition_point-place.ensures.partitioned (arguments_first edges c.requires) (λ a r q k. search rules) in
    c.end_at.ensures ∙ sym (load_at edges place c.requires (λ i d less. point.0 i d (omega arith) less) (λ i d upto less. point.1 i d upto less))
