-- Ways along edges between places of classes, as tables change.
use Rattle.std.proofs.Common.{◌≡◌, ℕ, ◌*◌, ◌<◌, List, Contains, length, get_or, set, sym, subst, ◌∙◌, arith}
use Rattle.std.proofs.lemmas.List.{get_or_default}
use Rattle.rt_grid.specs.Tables.{Table, Holds, IsChain, Made, Says, SaysWith}
use Rattle.rt_grid.proofs.Holding.{close_holds, add_holds, prune_holds, holds_by}
use Rattle.rt_sat.specs.declared.family.Family.{Family}
use Rattle.rt_sat.specs.declared.state.Edge.{Edge}
use Rattle.rt_sat.specs.declared.state.State.{State}
use Rattle.rt_sat.specs.Inside.Checks.{AreWalked, IsWalked}
use Rattle.rt_sat.specs.Hints.{grid_of, members_of, no_table, state_at, IsTurning, Turns}
use Rattle.rt_sat.specs.Hints.Turns.{stays, turns, behind}
use Rattle.rt_sat.specs.Searches.{Walk}
use Rattle.rt_sat.specs.Searches.Walk.{stays as walk_stays, turns as walk_turns, steps}
use Rattle.rt_sat.proofs.Searching.{on}
use Rattle.rt_sat.proofs.Telling.{turned_at}
use Rattle.rt_sat.proofs.Families.{ways_changed}

module _ (edges : List Edge) where
  -- an edge is a way
  pub walked_edge : (e : Edge) → Contains edges e → Walk edges e.from e.to e.count
  walked_edge e h = subst (λ n. Walk edges e.from e.to n) (omega arith) (steps e h walk_stays)

  module _ (members : List ℕ) where
    -- one way behind another
    pub walked_chain : IsChain (IsWalked edges members)
    walked_chain i j k m n v w = on v w

    -- ways that need no edge are ways along edges
    pub turns_walked : {size i j k : ℕ} → Turns size i j k → IsWalked edges members i j k
    turns_walked (stays {i} h) = walk_stays
    turns_walked (turns {i} {j} h t) =
        let here : State = state_at members i in
        subst (λ s. Walk edges here s 1) (sym (turned_at members i j t)) (walk_turns {x = here} walk_stays)
    turns_walked (behind {i} {j} {k} {m} {n} v w) = walked_chain i j k m n (turns_walked v) (turns_walked w)

  -- grids in which only ways are known that need no edge
  pub turning_walked : (family : Family) →
      ((class : ℕ) → class < length family.members.items → IsTurning (length (members_of family class)) (grid_of family class)) →
      AreWalked family edges
  turning_walked family turning class h =
      let members : List ℕ = members_of family class in
      let Way = IsWalked edges members in
      holds_by (Turns (2 * length members)) Way (λ i j n w. turns_walked members w) (grid_of family class) (turning class h).holds

  module _ (old new : Family) (class : ℕ) (was table : Table) (less : class < length old.members.items)
      (each : length old.grids.items ≡ length old.members.items) (read : was ≡ get_or old.grids.items class was)
      (same : new.members.items ≡ old.members.items) (changed : new.grids.items ≡ set old.grids.items class table) where
    abbrev Way : ℕ → ℕ → ℕ → Type 0
    Way = IsWalked edges (members_of old class)

    known : AreWalked old edges → Holds Way was
    known before =
        let room : class < length old.grids.items = subst (λ n. class < n) (sym each) less in
        subst (Holds Way) (sym (read ∙ get_or_default old.grids.items class was no_table room)) (before class less)

    others : AreWalked old edges → Holds Way table → AreWalked new edges
    others before holds = ways_changed old new class table less same changed (IsWalked edges) each holds before

    -- what holds of a family when one of its grids is closed
    pub walked_closed : Holds (Made (Says was)) table → AreWalked old edges → AreWalked new edges
    walked_closed made before =
        others before (close_holds Way was table (walked_chain (members_of old class)) (known before) made)

    -- when a step is added to one
    pub walked_added : (from to count : ℕ) (s t : State) → state_at (members_of old class) from ≡ s →
        state_at (members_of old class) to ≡ t → Walk edges s t count →
        Holds (Made (SaysWith was from to count)) table → AreWalked old edges → AreWalked new edges
    walked_added from to count s t e f walk made before =
        let members : List ℕ = members_of old class in
        let step : Way from to count =
        subst (λ u. Walk edges u (state_at members to) count) (sym e) (subst (λ u. Walk edges s u count) (sym f) walk) in
        others before (add_holds Way was table from to count (walked_chain members) step (known before) made)

    -- and when steps of one are forgotten
    pub walked_pruned : Holds (Says was) table → AreWalked old edges → AreWalked new edges
    walked_pruned says before = others before (prune_holds Way was table (known before) says)
