use Rattle.std.proofs.Common.{◌∙◌, ℕ, ◌<◌, List, ap, length, subst, sym}
use Rattle.rt_ways.specs.Inside.Frames.{AreBehind}
use Rattle.rt_ways.proofs.Noding.{steps_by}
use Rattle.rt_ways.proofs.nodes.steps_of.Goals as goal

pub behind_of-requires-clause-each : goal.behind_of-requires-clause-each
behind_of-requires-clause-each c = ap (λ (xs : List ℕ). length xs) c.deref.ensures.value ∙ (c.in_ok-own.ensures.each ∙ c.len.ensures.count)

pub returns-clause-steps : goal.returns-clause-steps
returns-clause-steps c =
    steps_by c.args.named.now c.in_ok-own.own.items c.in_ok-steps.steps.entries c.requires (λ i h. c.in_ok-own.ensures.is i (subst (λ n. i < n) (sym c.len.ensures.count) h))
    (subst (λ (xs : List ℕ). AreBehind c.args.named.now xs (length c.args.named.now) c.in_ok-steps.steps.entries) c.deref.ensures.value c.in_ok-steps.ensures)

pub returns-clause-few : goal.returns-clause-few
returns-clause-few c = subst (λ n. n < 4294967296) c.len.ensures.count c.len.ensures.few
