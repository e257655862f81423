use Rattle.std.proofs.Common.{◌≡◌, ◌↔◌, List, IsTrue, subst}
use Rattle.rt_lines.specs.declared.line.Line.{Line}
use Rattle.rt_twins.proofs.Comparing.{changed_or}
use Rattle.rt_twins.proofs.twins.twin.Goals as goal

pub returns-clause-changed : goal.returns-clause-changed
returns-clause-changed c =
    changed_or c.are_same-same.result c.in_ok-after.after c.args.lines.now
    (subst (λ (ls : List Line). IsTrue c.are_same-same.result ↔ (ls ≡ c.args.lines.now)) c.items.ensures c.are_same-same.ensures)
