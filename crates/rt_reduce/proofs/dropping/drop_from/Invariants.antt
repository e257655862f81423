use Rattle.std.proofs.Common.{◌≡◌, ◌≤◌, All, Contains, length}
use Rattle.std.specs.List.{remove_range}
use Rattle.std.specs.Option.{IfSome}
use Rattle.rt_lines.specs.declared.line.Line.{Line}
use Rattle.rt_lines.specs.Lines.{HasConstantsBelow}
use Rattle.rt_reduce.specs.Inside.Deciding.{AreStanding, AreWitnessed, IsInnerFor, IsWaysFor}
use Rattle.rt_reduce.specs.Inside.Dropping.{AreFated, AreLeft}
use Rattle.rt_reduce.proofs.Fated.{named_lines}
use Rattle.rt_reduce.proofs.dropping.drop_from.Given as goal

abbrev pub invariant-loop-place : goal.invariant-loop-place
invariant-loop-place l = record {
  first : l.first ≤ l.place;
  from : l.place ≤ l.next;
  to : l.next ≤ length l.left.items;
  within : l.place ≤ length (remove_range l.left.items l.place l.next);
  inside : l.place ≤ length l.lines;
  constants : All (HasConstantsBelow l.order.count) (remove_range l.left.items l.place l.next);
  stood : (m : Line) → Contains (remove_range l.left.items l.place l.next) m → Contains l.lines m;
  are_left : AreLeft l.order l.lines l.place (remove_range l.left.items l.place l.next);
  flags : l.place ≤ length l.stands.items;
  each : length l.stands.items ≡ length l.lines;
  fated : AreFated l.order l.lines l.stands.items l.fates;
  standing : IfSome l.outer (λ t. AreStanding (remove_range l.left.items l.place l.next) l.stands.items l.place t.now);
  witnessed : AreWitnessed l.lines (remove_range l.left.items l.place l.next) l.stands.items l.place;
  made : IsInnerFor l.order (remove_range l.left.items l.place l.next) (named_lines l.lines);
  inner : IfSome l.inner (λ t. IsInnerFor l.order (remove_range l.left.items l.place l.next) t.now);
  ways : IfSome l.ways (λ t. IsWaysFor l.order (remove_range l.left.items l.place l.next) t.now);
}

abbrev pub decreases-loop-place : goal.decreases-loop-place
decreases-loop-place l = l.place
