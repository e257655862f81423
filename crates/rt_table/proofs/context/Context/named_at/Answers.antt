use Rattle.std.proofs.Common.{◌≡◌, ◌<◌, ◌≤◌, ◌∙◌, Bool, List, ap, get_or, length, subst}
use Rattle.rt_table.specs.Inside.Told.{context_of}
use Rattle.rt_table.proofs.Tracing.{named-found, named-missing}
use Rattle.rt_table.proofs.context.Context.named_at.Goals as goal

pub returns-in-Some : goal.returns-in-Some
returns-in-Some c =
    let given = c.args.self.now in
    let site = c.args.site in
    let named = c.in-Some.named.now in
    named-found (context_of given).linked site named (subst (λ (all : List (List Bool)). site < length all) given.results c.in-Some.ensures.lookup.3.0)
    (c.in-Some.ensures.lookup.1 ∙ ap (λ (all : List (List Bool)). get_or all site named) given.results)

pub returns-in-None : goal.returns-in-None
returns-in-None c =
    let given = c.args.self.now in
    named-missing (context_of given).linked c.args.site (subst (λ (all : List (List Bool)). length all ≤ c.args.site) given.results c.in-None.ensures.lookup.3)
