use Rattle.std.proofs.Common.{◌≡◌, List, Contains, Some, subst}
use Rattle.std.specs.Prelude.{MatchOption, slice_get}
use Rattle.rt_lines.specs.declared.variable.Dtv.{Dtv}
use Rattle.rt_sketch.proofs.Numbered.{number_sized}
use Rattle.rt_sketch.proofs.machine.Machine.number.Goals as goal

pub returns-clause-number : goal.returns-clause-number
returns-clause-number c = subst (λ (xs : List Dtv). MatchOption c.index.result (Contains xs c.args.x.now → ⊥) (λ n. slice_get xs n ≡ Some c.args.x.now)) c.named.ensures.named c.index.ensures

pub returns-clause-sized : goal.returns-clause-sized
returns-clause-sized c =
    number_sized c.args.self.now.ways c.args.x.now c.index.result c.named.ensures.sized
    (subst (λ (xs : List Dtv). MatchOption c.index.result (Contains xs c.args.x.now → ⊥) (λ n. slice_get xs n ≡ Some c.args.x.now)) c.named.ensures.named c.index.ensures)
