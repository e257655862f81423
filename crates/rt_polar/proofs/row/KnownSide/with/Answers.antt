use Rattle.std.proofs.Common.{sym, ap, ◌∙◌}
use Rattle.rt_polar.specs.Inside.Digests.{followed, summary}
use Rattle.rt_polar.proofs.Summaries.{summary-followed}
use Rattle.rt_polar.proofs.row.KnownSide.with.Goals as goal

pub invariant_of-result : goal.invariant_of-result
invariant_of-result c =
    let z = c.other.inside.variable in
    let w = c.self.inside.variable.word in
    c.followed_by.ensures ∙ ap (λ k. followed k w) c.other.invariant ∙ summary-followed z w ∙ ap (λ u. summary (record { base = z.base; word = u })) (sym c.in_ok-append.ensures.ok)
