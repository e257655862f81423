use Rattle.std.proofs.Common.{◌≡◌, ℕ, Some, sym, ◌∙◌}
use Rattle.rt_ways.specs.Pushes.{IsPair, step_of}
use Rattle.rt_ways.proofs.Pushing.{grown_one}
use Rattle.rt_ways.proofs.closing.note.Goals as goal

pub returns-in_ok-push-in-Some-clause-grown : goal.returns-in_ok-push-in-Some-clause-grown
returns-in_ok-push-in-Some-clause-grown c =
    grown_one (λ v w. (x : ℕ) × (step_of c.args.steps.now.entries c.args.other c.args.label ≡ Some x) × IsPair c.args.label c.args.number x v w)
    c.args.fresh.now.items c.push.new.self.items c.pair-pair.result c.in_ok-push-in-Some.ensures.items
    (c.in-Some.target, sym c.step.ensures ∙ c.in-Some.is, c.pair-pair.ensures)
