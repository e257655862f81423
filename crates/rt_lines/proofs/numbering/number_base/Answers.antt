use Rattle.std.proofs.Common.{◌≡◌, nat_eq, unwrap_or, ◌∙◌}
use Rattle.std.specs.List.{position_or_len}
use Rattle.rt_base.proofs.Lists.{place-or-length}
use Rattle.rt_lines.proofs.numbering.number_base.Goals as goal

pub returns-in-Ok : goal.returns-in-Ok
returns-in-Ok c =
    let found = c.args.found.now.keys in
    let place : c.in-Ok.place ≡ position_or_len (nat_eq c.in-Exist.n) found =
    c.in-Ok.ensures.1 ∙ c.unwrap_or-place.ensures ∙ (λ i. unwrap_or (c.get_index_of.ensures.index i) (c.len.ensures.len i)) ∙ place-or-length (nat_eq c.in-Exist.n) found
    in
    rw (c.in-Exist.is, place)
