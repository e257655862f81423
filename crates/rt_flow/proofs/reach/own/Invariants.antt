use Rattle.std.proofs.Common.{◌≡◌, ℕ, ◌<◌, length, slice_index_or}
use Rattle.rt_flow.specs.declared.def.Def.TheVariants.{Entry, At}
use Rattle.rt_flow.proofs.reach.own.Given as goal

abbrev pub invariant-loop-site : goal.invariant-loop-site
invariant-loop-site l = record {
  each : length l.own.items ≡ l.site;
  own : (s : ℕ) → s < l.site → slice_index_or l.own.items s Entry ≡ At s;
}
