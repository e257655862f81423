use Rattle.std.proofs.Common.{◌≡◌, ℕ, ◌<◌, true, length}
use Rattle.rt_sat.specs.Pushes.{is_done, pushed_of, AreDone, AreGrown, IsStill}
use Rattle.rt_sat.proofs.closing.pass.Given as goal

abbrev pub invariant-loop-number : goal.invariant-loop-number
invariant-loop-number l = record {
  grown : AreGrown l.frame.named l.frame.flips.items l.fn.layers l.layers;
  long : length l.next.items ≡ l.number;
  still : IsStill l.fn.layers l.layers → (i : ℕ) → i < l.number → is_done l.next.items i ≡ true;
  done : AreDone l.frame.named l.frame.flips.items l.frame.matters.items l.fn.layers.edges.items (pushed_of l.layers) l.next.items;
}
