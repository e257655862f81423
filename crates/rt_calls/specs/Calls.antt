-- Which procedure calls which, and the groups of those that call each other.
use Rattle.std.specs.Prelude.{◌≡◌, ◌≢◌, ℕ, ◌<◌, ◌⊎◌, List, length, Contains, Some, slice_get}
use Rattle.rt_components.specs.Graphs.{successors, HasEdge}
use Rattle.rt_components.specs.Groups.{AreGroups}
use Rattle.rt_proc.specs.declared.proc.Proc as procedure
use Rattle.rt_proc.specs.declared.site.Callee.TheVariants.{Proc}
use Rattle.rt_proc.specs.declared.site.Kind.TheVariants.{Call}
use Rattle.rt_proc.specs.declared.site.Site.{Site}

-- the site calls the procedure of a number
abbrev pub CallsAt : Site → ℕ → Type 0
CallsAt site q = (link : ℕ) × (site.kind ≡ Call (Proc q) link)

-- the site goes on in it for good
abbrev pub TailCallsAt : Site → ℕ → Type 0
TailCallsAt site q = Contains site.tails (Proc q)

-- a site of the list does the one or the other
abbrev pub LeadTo : List Site → ℕ → Type 0
LeadTo sites q = (site : Site) × Contains sites site × (CallsAt site q ⊎ TailCallsAt site q)

-- one procedure calls another, or goes on in it for good
abbrev pub Calls : List procedure.Proc → ℕ → ℕ → Type 0
Calls procs p q = (q < length procs) × ((proc : procedure.Proc) × (slice_get procs p ≡ Some proc) × LeadTo proc.sites q)

-- The groups of procedures: two are in one exactly if they are equal or each reaches the other by calls and tail calls,
-- callees come first, and among those that may come next, the group with the least member comes first.
abbrev pub AreGroupsOf : List procedure.Proc → List (List ℕ) → Type 0
AreGroupsOf procs groups = AreGroups (length procs) (Calls procs) groups

-- the edges from one node were added to those numbers below the count of nodes of which a fact holds
pub record AddsEdges (old new : List (List ℕ)) (p : ℕ) (Leads : ℕ → Type 0) : Type 0 where
  pub each : length new ≡ length old
  pub others : (a : ℕ) → a ≢ p → successors new a ≡ successors old a
  pub kept : (q : ℕ) → HasEdge old p q → HasEdge new p q
  pub found : (q : ℕ) → q < length old → Leads q → HasEdge new p q
  pub only : (q : ℕ) → HasEdge new p q → HasEdge old p q ⊎ ((q < length old) × Leads q)

-- the graph has an edge exactly where one procedure calls another
pub record IsCallGraph (procs : List procedure.Proc) (graph : List (List ℕ)) : Type 0 where
  pub each : length graph ≡ length procs
  pub found : (p q : ℕ) → Calls procs p q → HasEdge graph p q
  pub only : (p q : ℕ) → HasEdge graph p q → Calls procs p q
