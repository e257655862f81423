use Rattle.std.proofs.Common.{subst, Contains}
use Rattle.rt_named.specs.Numbers.{IsLeft}
use Rattle.rt_ways.proofs.spreading.leave.Goals as goal

pub returns : goal.returns
returns c = subst (λ row. IsLeft (Contains row) c.args.found.now c.note_all.new.self) c.row.ensures c.in_ok-note_all.ensures
