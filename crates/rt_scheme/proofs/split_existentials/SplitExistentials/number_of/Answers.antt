use Rattle.std.proofs.Common.{◌≡◌, ◌+◌, unwrap_or, ap, ◌∙◌}
use Rattle.std.specs.List.{position_or_len}
use Rattle.rt_base.proofs.Lists.{place-or-length}
use Rattle.rt_scheme.specs.SplitExistentials.{interface_eq}
use Rattle.rt_scheme.proofs.split_existentials.SplitExistentials.number_of.Goals as goal

pub returns-in-Ok : goal.returns-in-Ok
returns-in-Ok c =
    let found = c.args.self.now.found.keys in
    let place : c.unwrap_or-index.result ≡ position_or_len (interface_eq c.args.interface) found =
    c.unwrap_or-index.ensures ∙ (λ i. unwrap_or (c.get_index_of.ensures.index i) (c.len.ensures.len i)) ∙ place-or-length (interface_eq c.args.interface) found
    in
    c.in-Ok.ensures.1 ∙ (c.in-Some.ensures.1 ∙ ap (λ n. c.args.self.now.first + n) place)
