use Rattle.std.proofs.Common.{sym, ◌∙◌}
use Rattle.rt_liveness.specs.Inside.Closures.{port_eq}
use Rattle.rt_liveness.proofs.Adding.{inserted}
use Rattle.rt_liveness.proofs.Following.{noted, one_port, one_when}
use Rattle.rt_liveness.proofs.closure.note.Goals as goal

pub returns-in_ok-insert : goal.returns-in_ok-insert
returns-in_ok-insert c =
    let old = c.args.found.now.keys in
    let new = c.insert.new.self.keys in
    noted c.args.rule c.args.when old new (one_when c.args.rule.when c.args.when (sym c.eq.ensures ∙ c.if-eq.true))
    (inserted port_eq one_port old new c.args.rule.port c.in_ok-insert.ensures.keys)
