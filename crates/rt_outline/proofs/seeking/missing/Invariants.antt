use Rattle.std.proofs.Common.{◌≡◌, ◌<◌, ℕ, true, [], Contains, get_or}
use Rattle.rt_components.specs.Groups.{Reaches}
use Rattle.rt_outline.specs.Arcs.{Leads}
use Rattle.rt_outline.proofs.seeking.missing.Given as goal

abbrev pub invariant-loop-end : goal.invariant-loop-end
invariant-loop-end l = record {
  only : (w : ℕ) → Contains l.fresh.items w → Contains l.ends w;
  reached : l.fresh.items ≡ [] → (w : ℕ) → Contains l.known.numbers w → Reaches (Leads l.arcs [] true) l.node w;
  asked : l.fresh.items ≡ [] → (j : ℕ) → j < l.end-index → Contains l.known.numbers (get_or l.end-items j 0);
}
