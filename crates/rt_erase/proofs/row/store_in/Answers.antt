use Rattle.std.proofs.Common.{◌≡◌, ◌-◌, length, sym, ap, ◌∙◌, rules}
use Rattle.std.specs.List.{slice_get}
use Rattle.rt_lines.specs.declared.label.Label.TheVariants.{Store}
use Rattle.rt_erase.specs.Inside.Places.{end_of}
use Rattle.rt_erase.proofs.Placed.{store_last}
use Rattle.rt_erase.proofs.row.store_in.Goals as goal

pub returns : goal.returns
returns c =
    let edges = c.args.edges.now in
    let place : c.saturating_sub.result ≡ length edges - 1 = search rules in
    c.end_at.ensures ∙ (ap (λ k. end_of Store (slice_get edges k)) place ∙ sym (store_last edges c.requires.ordered c.requires.labels))
