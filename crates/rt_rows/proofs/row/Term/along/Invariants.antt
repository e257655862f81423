use Rattle.std.proofs.Common.{◌≡◌, take}
use Rattle.rt_rows.specs.Terms.{along}
use Rattle.rt_rows.proofs.row.Term.along.Given as goal

abbrev pub invariant-loop-label : goal.invariant-loop-label
invariant-loop-label l = l.self ≡ along l.fn.self (take l.label-index l.labels)
