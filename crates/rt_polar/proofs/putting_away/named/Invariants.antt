use Rattle.std.proofs.Common.{◌≡◌, ℕ, ◌<◌, true}
use Rattle.std.specs.BTreeSet.{contains}
use Rattle.std.specs.Ordering.{nat_cmp}
use Rattle.rt_lines.specs.declared.line.Line.{Line}
use Rattle.rt_polar.specs.Index.{Names}
use Rattle.rt_polar.specs.Inside.Places.{Holds}
use Rattle.rt_polar.proofs.putting_away.named.Given as goal

abbrev pub invariant-loop-slot : goal.invariant-loop-slot
invariant-loop-slot l = (i n : ℕ) (line : Line) → i < l.slot-index → Holds l.slots i line → Names n line → contains nat_cmp l.pending n ≡ true
