use Rattle.std.proofs.Common.{Contains, ◌↔◌, IsTrue, subst}
use Rattle.rt_reports.proofs.Sets.{has_number}
use Rattle.rt_reports.proofs.numbers.Numbers.has.Goals as goal

pub returns : goal.returns
returns c = subst (λ keys. IsTrue c.contains.result ↔ Contains keys c.args.number) c.self.view_is (has_number c.self.inside.set.keys c.args.number c.contains.result c.contains.ensures)
