use Rattle.std.proofs.Common.{◌≡◌, ℕ, ◌+◌, ◌<◌, None, length, slice_index, slice_index_or}
use Rattle.rt_flow.specs.Blocks.{IsLastOf}
use Rattle.rt_flow.proofs.lasts.lasts.Given as goal

abbrev pub invariant-loop-block : goal.invariant-loop-block
invariant-loop-block l = record {
  each : length l.lasts.items ≡ l.block;
  last : (b : ℕ) → b < l.block → IsLastOf l.sites (slice_index l.blocks.firsts.items b) (slice_index l.blocks.firsts.items (b + 1)) (slice_index_or l.lasts.items b None);
}
