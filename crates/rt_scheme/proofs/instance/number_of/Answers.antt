use Rattle.std.proofs.Common.{◌≡◌, ◌+◌, unwrap_or, ap, ◌∙◌}
use Rattle.std.specs.List.{position_or_len}
use Rattle.rt_base.proofs.Lists.{place-or-length}
use Rattle.rt_scheme.specs.Instances.{origin_eq}
use Rattle.rt_scheme.proofs.instance.number_of.Goals as goal

pub returns : goal.returns
returns c =
    let found = c.args.found.now.keys in
    let place : c.unwrap_or-place.result ≡ position_or_len (origin_eq c.args.origin) found =
    c.unwrap_or-place.ensures ∙ (λ i. unwrap_or (c.get_index_of.ensures.index i) (c.len.ensures.len i)) ∙ place-or-length (origin_eq c.args.origin) found
    in
    ap (λ n. c.args.first_free + n) place
