use Rattle.std.proofs.Common.{◌≡◌, ℕ, Some, length}
use Rattle.std.specs.Prelude.{slice_get}
use Rattle.rt_track.specs.declared.op.Op.{Op}
use Rattle.rt_track.specs.declared.nodes.Node.TheVariants.{Join}
use Rattle.rt_track.specs.Inside.Inputs.{node_of, use_in}
use Rattle.rt_track.specs.Operations.{entries_of}
use Rattle.rt_track.proofs.Graphing.{IsMade}
use Rattle.rt_track.proofs.graph.nodes.Given as goal

abbrev pub invariant-loop-number : goal.invariant-loop-number
invariant-loop-number l = IsMade 0 (λ e. node_of (use_in l.uses e.0.0) e.0.0 e.0.1 e.1) (entries_of l.ops) l.number l.nodes.items

abbrev pub invariant-loop-left : goal.invariant-loop-left
invariant-loop-left l = record {
  of_ops : (n : ℕ) (e : (ℕ × ℕ) × Op) → slice_get (entries_of l.ops) n ≡ Some e → slice_get l.nodes.items n ≡ Some (node_of (use_in l.uses e.0.0) e.0.0 e.0.1 e.1);
  of_joins : IsMade (length (entries_of l.ops)) (λ p. Join p.0 p.1) l.joins l.left-index l.nodes.items;
}
