use Rattle.std.proofs.Common.{◌≡◌, ◌<◌, ◌≤◌, ℕ, length}
use Rattle.std.specs.Prelude.{Contains}
use Rattle.rt_track.specs.declared.op.Op.TheVariants.{Own}
use Rattle.rt_track.specs.Operations.{op_in, ops_sites}
use Rattle.rt_body.specs.Actions.{defined_by}
use Rattle.rt_body.specs.Readings.{action_at, op_at}
use Rattle.rt_body.proofs.operations.operations.Given as goal

abbrev pub invariant-loop-site : goal.invariant-loop-site
invariant-loop-site l = record {
  sites : ops_sites l.ops ≡ length l.actions;
  done : (s r : ℕ) → s < l.site → Contains (defined_by (action_at l.actions s)) r → op_in l.ops s r ≡ op_at l.actions s r;
  own : (s r : ℕ) → (s < l.site → Contains (defined_by (action_at l.actions s)) r → ⊥) → op_in l.ops s r ≡ Own;
}
