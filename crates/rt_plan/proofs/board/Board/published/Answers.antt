use Rattle.std.proofs.Common.{◌∙◌, sym, ap}
use Rattle.rt_plan.specs.Plans.{published_by}
use Rattle.rt_plan.proofs.Ending.{published_if}
use Rattle.rt_plan.proofs.board.Board.published.Goals as goal

pub returns-in-Publish-clause-published : goal.returns-in-Publish-clause-published
returns-in-Publish-clause-published c =
    c.held.ensures.held ∙ published_if c.args.self.now c.in-Publish.worker ∙ ap (published_by c.args.self.now) (sym c.in-Publish.is)
