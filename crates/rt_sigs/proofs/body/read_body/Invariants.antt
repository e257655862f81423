use Rattle.std.proofs.Common.{◌≡◌, length}
use Rattle.rt_sigs.specs.Inside.Readings.{IsReadTo}
use Rattle.rt_sigs.proofs.body.read_body.Given as goal

abbrev pub invariant-loop-line : goal.invariant-loop-line
invariant-loop-line l =
    record { own : l.scheme.base ≡ 0; read : IsReadTo l.names l.args l.text l.first l.scheme.lines l.rest l.number }

abbrev pub decreases-loop-line : goal.decreases-loop-line
decreases-loop-line l = length l.rest
