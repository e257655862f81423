use Rattle.std.proofs.Common.{◌≡◌, List}
use Rattle.rt_lines.specs.declared.line.Line.{Line as Given}
use Rattle.rt_lines.specs.Orders.{Below}
use Rattle.rt_named.proofs.Prefixes.{prefix_of}
use Rattle.rt_earlier.specs.Inside.Earlier.{IsSound, Reaches}
use Rattle.rt_earlier.proofs.earlier.Earlier.walk.Given as goal

abbrev pub invariant-loop-label : goal.invariant-loop-label
invariant-loop-label l = record {
  items : l.label-items ≡ l.x.word;
  reaches : (order : Below) (lines : List Given) → IsSound order lines l.self → Reaches order lines l.self.named (prefix_of l.x l.label-index) l.number;
}
