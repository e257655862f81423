use Rattle.std.proofs.Common.{◌≡◌, unwrap_or, ◌∙◌}
use Rattle.std.specs.List.{position_or_len}
use Rattle.rt_base.proofs.Lists.{place-or-length}
use Rattle.rt_rows.specs.Terms.{name_eq}
use Rattle.rt_rows.proofs.numbering.base_of.Goals as goal

pub returns-in-Ok : goal.returns-in-Ok
returns-in-Ok c =
    let names = c.args.names.now.keys in
    let place : c.in-Ok.place ≡ position_or_len (name_eq c.in-Named.name) names =
    c.in-Ok.ensures.1 ∙ c.unwrap_or-place.ensures ∙ (λ i. unwrap_or (c.get_index_of.ensures.index i) (c.len.ensures.len i)) ∙ place-or-length (name_eq c.in-Named.name) names
    in
    rw (c.in-Named.is, place)
