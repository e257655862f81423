-- Groups over another relation that holds of the same nodes.
use Rattle.std.proofs.Common.{ℕ, List, length, subst}
use Rattle.rt_components.specs.Groups.{Reaches, AreTogether, AreGroups}
use Rattle.rt_components.specs.Groups.Reaches.{there, onward}
use Rattle.rt_components.specs.Graphs.{HasEdge}
use Rattle.rt_proc.specs.declared.proc.Proc as procedure
use Rattle.rt_calls.specs.Calls.{Calls, AreGroupsOf, IsCallGraph}

module _ (Edge Other : ℕ → ℕ → Type 0) (on : (a b : ℕ) → Edge a b → Other a b) where
  reaches : {a b : ℕ} → Reaches Edge a b → Reaches Other a b
  reaches there = there
  reaches (onward e r) = onward (on _ _ e) (reaches r)

  are_together : (a b : ℕ) → AreTogether Edge a b → AreTogether Other a b
  are_together a b (r, s) = (reaches r, reaches s)

same_groups : (count : ℕ) (Edge Other : ℕ → ℕ → Type 0) (groups : List (List ℕ)) → ((a b : ℕ) → Edge a b → Other a b) → ((a b : ℕ) → Other a b → Edge a b) → AreGroups count Edge groups → AreGroups count Other groups
same_groups count Edge Other groups on back are = record {
  nodes = are.nodes;
  full = are.full;
  ascending = are.ascending;
  together = λ j k a b c d. let one = are.together j k a b c d in (λ e. are_together Edge Other on a b (one.0 e), λ t. one.1 (are_together Other Edge back a b t));
  may = λ k less a b c e. are.may k less a b c (back a b e);
  least = λ k j le less may. are.least k j le less (λ a b c e. may a b c (on a b e));
}

pub groups_of_graph : (procs : List procedure.Proc) (graph groups : List (List ℕ)) → IsCallGraph procs graph → AreGroups (length graph) (HasEdge graph) groups → AreGroupsOf procs groups
groups_of_graph procs graph groups is are = subst (λ n. AreGroups n (Calls procs) groups) is.each (same_groups (length graph) (HasEdge graph) (Calls procs) groups is.only is.found are)
