use Rattle.std.proofs.Common.{◌≡◌, ℕ, true, false, Some, List, Contains, length, take, slice_index_or}
use Rattle.std.specs.Prelude.{slice_get}
use Rattle.rt_lines.specs.declared.line.Line.{Line as Given}
use Rattle.rt_lines.specs.Orders.{Below}
use Rattle.rt_rules.specs.Rules.{Derivable}
use Rattle.rt_earlier.specs.Inside.Earlier.{IsSound}
use Rattle.rt_earlier.proofs.telling.told.Given as goal

abbrev pub invariant-loop-line : goal.invariant-loop-line
invariant-loop-line l = record {
  each : length l.told.items ≡ l.line-index;
  sound : (order : Below) (others : List Given) → ((k : Given) → Contains (take l.line-index l.lines) k → Derivable order others k) → IsSound order others l.earlier;
  derived : (order : Below) (i : ℕ) (k : Given) → slice_get l.lines i ≡ Some k → slice_index_or l.told.items i false ≡ true → Derivable order (take i l.lines) k;
}
