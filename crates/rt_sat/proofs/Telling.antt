-- What is told of states, and of the places of classes.
use Rattle.std.proofs.Common.{◌≡◌, ℕ, ◌+◌, ◌*◌, ◌/◌, ◌%◌, ◌<◌, zero, suc, Bool, not, true, false, List, Contains, length, get_or, refl, sym, subst, arith}
use Rattle.std.specs.Prelude.{nat_eq}
use Rattle.rt_base.proofs.Lists.{Contains-at}
use Rattle.rt_lines.specs.declared.variable.Dtv.{Dtv}
use Rattle.rt_bridge.specs.Counted.Bridge.{here, turn, join}
use Rattle.rt_grid.specs.Tables.{Table, Holds, IsChain, Made, Says, SaysWith}
use Rattle.rt_grid.proofs.Holding.{close_holds, add_holds, prune_holds}
use Rattle.rt_sat.specs.declared.state.State.{State}
use Rattle.rt_sat.specs.declared.state.Edge.{Edge}
use Rattle.rt_sat.specs.Hints.{state_at, AreTurned, IsTold, IsToldAt, Turns}
use Rattle.rt_sat.specs.Hints.Turns.{stays, turns, behind}
use Rattle.rt_sat.proofs.Closed.{name_at}

-- the state with the order turned round
abbrev pub turned : State → State
turned s = record { variable = s.variable; contra = not s.contra }

digits_differ : (a b : ℕ) → a < 2 → b < 2 → (a ≡ b → ⊥) → nat_eq b 1 ≡ not (nat_eq a 1)
digits_differ zero zero h k n = absurd (n refl)
digits_differ zero (suc zero) h k n = refl
digits_differ zero (suc (suc b)) h k n = absurd (omega (arith, k))
digits_differ (suc zero) zero h k n = refl
digits_differ (suc zero) (suc zero) h k n = absurd (n refl)
digits_differ (suc zero) (suc (suc b)) h k n = absurd (omega (arith, k))
digits_differ (suc (suc a)) b h k n = absurd (omega (arith, h))

other_digit : (i j : ℕ) → AreTurned i j → nat_eq (j % 2) 1 ≡ not (nat_eq (i % 2) 1)
other_digit i j h = digits_differ (i % 2) (j % 2) (omega arith) (omega arith) (λ e. h.1 (omega (arith, e, h.0)))

-- the state at the other place of a member
pub turned_at : (members : List ℕ) (i j : ℕ) → AreTurned i j → state_at members j ≡ turned (state_at members i)
turned_at members i j h = λ k. record { variable = get_or members (sym h.0 k) 0; contra = other_digit i j h k }

-- the variable at a place
pub inside_at : (count : ℕ) (members : List ℕ) → ((v : ℕ) → Contains members v → v < count) → (i : ℕ) → i < 2 * length members → (state_at members i).variable < count
inside_at count members inside i h = let less : i / 2 < length members = omega arith in inside (get_or members (i / 2) 0) (Contains-at members (i / 2) less)

module _ (known : List Dtv) (flips : List Bool) (lines : List Edge) where
  pub told_here : (s : State) → s.variable < length known → IsTold known flips lines s s 0
  told_here s h L frame sides sound = here _ (name_at known s.variable h) (frame.there s.variable h)

  pub told_turn : (s : State) → s.variable < length known → IsTold known flips lines s (turned s) 1
  told_turn s h = by s.contra
    where
      by : (b : Bool) → IsTold known flips lines (record { variable = s.variable; contra = b }) (turned (record { variable = s.variable; contra = b })) 1
      by true L frame sides sound = turn _ (name_at known s.variable h) (frame.there s.variable h)
      by false L frame sides sound = turn _ (name_at known s.variable h) (frame.there s.variable h)

  pub told_join : (s t u : State) (j k : ℕ) → IsTold known flips lines s t j → IsTold known flips lines t u k → IsTold known flips lines s u (j + k)
  told_join s t u j k p q L frame sides sound = join (p L frame sides sound) (q L frame sides sound)

  -- an edge of lines
  pub told_edge : (e : Edge) → Contains lines e → IsTold known flips lines e.from e.to e.count
  told_edge e h L frame sides sound = sound e h

  module _ (members : List ℕ) where
    pub told_chain : IsChain (IsToldAt known flips lines members)
    told_chain i j k m n p q = told_join (state_at members i) (state_at members j) (state_at members k) m n p q

    -- what holds of a table after `Grid::close`
    pub told_closed : (old new : Table) → Holds (IsToldAt known flips lines members) old → Holds (Made (Says old)) new → Holds (IsToldAt known flips lines members) new
    told_closed old new = close_holds (IsToldAt known flips lines members) old new told_chain

    -- after `Grid::add`
    pub told_added : (old new : Table) (from to count : ℕ) → IsTold known flips lines (state_at members from) (state_at members to) count → Holds (IsToldAt known flips lines members) old → Holds (Made (SaysWith old from to count)) new → Holds (IsToldAt known flips lines members) new
    told_added old new from to count = add_holds (IsToldAt known flips lines members) old new from to count told_chain

    -- and after `Grid::prune`
    pub told_pruned : (old new : Table) → Holds (IsToldAt known flips lines members) old → Holds (Says old) new → Holds (IsToldAt known flips lines members) new
    told_pruned old new = prune_holds (IsToldAt known flips lines members) old new

    module _ (inside : (v : ℕ) → Contains members v → v < length known) where
      -- ways that need no edge are told
      pub turns_told : {i j k : ℕ} → Turns (2 * length members) i j k → IsToldAt known flips lines members i j k
      turns_told (stays {i} h) = told_here (state_at members i) (inside_at (length known) members inside i h)
      turns_told (turns {i} {j} h t) =
          let here : State = state_at members i in
          let told : IsTold known flips lines here (turned here) 1 = told_turn here (inside_at (length known) members inside i h) in
          subst (λ s. IsTold known flips lines here s 1) (sym (turned_at members i j t)) told
      turns_told (behind {i} {j} {k} {m} {n} p q) = told_chain i j k m n (turns_told p) (turns_told q)
