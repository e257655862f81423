use Rattle.std.proofs.Common.{ap, ◌∙◌}
use Rattle.std.specs.Ordering.{is_lt, nat_cmp}
use Rattle.std.specs.Cmp.Lexicographic.{slice_cmp}
use Rattle.rt_reduce.proofs.Keys.{slice_cmp-map}
use Rattle.rt_reduce.proofs.before.comes_before.Goals as goal

pub returns : goal.returns
returns c =
    c.is_lt.ensures
    ∙ ap is_lt (c.cmp.ensures ∙ slice_cmp-map (slice_cmp nat_cmp) (λ part. part.items) c.in_ok-first.first.items c.in_ok-second.second.items
    ∙ (λ i. slice_cmp (slice_cmp nat_cmp) (c.in_ok-first.ensures i) (c.in_ok-second.ensures i)))
