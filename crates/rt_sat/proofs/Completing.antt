-- Rows that have their turns, and the ways from the ends of edges, have all ways along these.
use Rattle.std.proofs.Common.{◌≡◌, ℕ, ◌+◌, ◌<◌, ◌≤◌, ◌⊎◌, inl, inr, Bool, cond, true, refl, sym, ap, subst, ◌∙◌, arith}
use Rattle.std.proofs.Common.{List, [], Contains, Option, Some, None, slice_get, length, get_or}
use Rattle.std.specs.Prelude.{not}
use Rattle.std.proofs.lemmas.Bool.{cases_lt}
use Rattle.std.proofs.lemmas.List.{get_or_past}
use Rattle.std.proofs.lemmas.Option.{cond_some, slice_get_within}
use Rattle.rt_grid.specs.Tables.{count_at, row_of}
use Rattle.rt_sat.specs.declared.state.State.{State}
use Rattle.rt_sat.specs.declared.state.Edge.{Edge}
use Rattle.rt_sat.specs.declared.family.Family.{Family}
use Rattle.rt_sat.specs.declared.family.Home.{Home}
use Rattle.rt_sat.specs.Inside.Checks.{home_at, home_of, is_number, place_of, row_at, AreComplete, AreTurning, HasEdge}
use Rattle.rt_sat.specs.Inside.Checks.{HasStep, HasTurn, IsNear, TakesIn}
use Rattle.rt_sat.specs.Hints.{grid_of, members_of}
use Rattle.rt_sat.specs.Searches.{turned, Walk, stays, turns, steps}

-- a place in a list that has something there
inside_list : (lists : List (List ℕ)) (i j n : ℕ) → slice_get (get_or lists i []) j ≡ Some n →
    (i < length lists) × (j < length (get_or lists i []))
inside_list lists i j n e = (by (cases_lt i (length lists)), less)
  where
    less : j < length (get_or lists i [])
    less = slice_get_within (get_or lists i []) j n e

    by : (i < length lists) ⊎ (length lists ≤ i) → i < length lists
    by (inl h) = h
    by (inr past) = absurd (omega (arith, less, ap length (get_or_past lists i [] past)))

-- a place where a number is
number_at : (v : ℕ) (o : Option ℕ) → is_number v o ≡ true → (n : ℕ) × (o ≡ Some n)
number_at v (Some n) e = (n, refl)
number_at v None e = absurd (cc)

-- the member that a state is of, and where the state stands that is turned round
record Stands (family : Family) (s : State) (home : Home) : Type 0 where
  member : ℕ
  class : home.class < length family.members.items
  less : member < length (members_of family home.class)
  place : home.index ≡ place_of member s.contra
  turned : home_of family (turned s) ≡ Some (record { class = home.class; index = place_of member (not s.contra) })

module _ (family : Family) where
  stands : (s : State) (home : Home) → home_of family s ≡ Some home → Stands family s home
  stands s home e = at (get_or family.homes.items s.variable None) refl e
    where
      at : (noted : Option Home) → get_or family.homes.items s.variable None ≡ noted → home_at family s noted ≡ Some home →
          Stands family s home
      at None is e = absurd (cc)
      at (Some h) is e =
          let here : Home = record { class = h.class; index = place_of h.index s.contra } in
          let there : Home = record { class = h.class; index = place_of h.index (not s.contra) } in
          let test : Bool = is_number s.variable (slice_get (members_of family h.class) h.index) in
          let r : (test ≡ true) × (here ≡ home) = cond_some test here home e in
          let n : (n : ℕ) × (slice_get (members_of family h.class) h.index ≡ Some n) =
          number_at s.variable (slice_get (members_of family h.class) h.index) r.0 in
          let inside : (h.class < length family.members.items) × (h.index < length (members_of family h.class)) =
          inside_list family.members.items h.class h.index n.0 n.1 in
          subst (Stands family s) r.1 (record {
            member = h.index;
            class = inside.0;
            less = inside.1;
            place = refl;
            turned = ap (home_at family (turned s)) is ∙ ap (λ b. cond b (Some there) None) r.0;
          })

  -- what is near one place is so from another one, a step before it
  further : (home other : Home) (t : State) (j k : ℕ) → other.class ≡ home.class →
      TakesIn (row_at family home) (row_at family other) j → IsNear family other t k → IsNear family home t (j + k)
  further home other t j k same takes near =
      let row : List ℕ = row_at family home in
      let index : ℕ = near.to.index in
      let r : (count_at row index < 255) × (count_at row index ≤ j + count_at (row_at family other) index) = takes index near.known in
      record { to = near.to; stands = near.stands; class = near.class ∙ same; known = r.0; within = omega (arith, r.1, near.within) }

  module _ (edges : List Edge) (turning : AreTurning family) (along : (e : Edge) → Contains edges e → HasEdge family e) where
    turn_at : (s : State) (home : Home) (at : Stands family s home) → HasTurn (grid_of family home.class).rows at.member s.contra
    turn_at s home at = turning home.class at.class at.member at.less s.contra

    near : {s t : State} {k : ℕ} → Walk edges s t k → (home : Home) → home_of family s ≡ Some home → IsNear family home t k
    near (stays {x = s}) home e =
        let at : Stands family s home = stands s home e in
        let rows : List (List ℕ) = (grid_of family home.class).rows in
        let nought : count_at (row_at family home) home.index ≡ 0 =
        subst (λ i. count_at (row_of rows i) i ≡ 0) (sym at.place) (turn_at s home at).stays in
        record { to = home; stands = e; class = refl; known = omega (arith, nought); within = omega (arith, nought) }
    near (turns {x = s} {y = t} {k = k} w) home e =
        let at : Stands family s home = stands s home e in
        let other : Home = record { class = home.class; index = place_of at.member (not s.contra) } in
        let rows : List (List ℕ) = (grid_of family home.class).rows in
        let takes : TakesIn (row_at family home) (row_at family other) 1 =
        subst (λ i. TakesIn (row_of rows i) (row_at family other) 1) (sym at.place) (turn_at s home at).turns in
        further home other t 1 k refl takes (near w other at.turned)
    near (steps {y = t} {k = k} edge c w) home e =
        let step : HasStep family home edge = along edge c home e in
        further home step.to t edge.count k step.class step.takes (near w step.to step.stands)

    -- no way leaves its class, or is shorter than what is known
    pub complete : AreComplete family edges
    complete s t k home e w = near w home e
