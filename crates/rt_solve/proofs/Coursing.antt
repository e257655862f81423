-- What a run holds after each of its steps.
use Rattle.std.proofs.Common.{◌≡◌, ℕ, zero, suc, ◌<◌, refl, Option, Some, None, List, All, length, replicate, sym, ap, subst, ◌∙◌, arith}
use Rattle.std.specs.Prelude.{fold, slice_index_or}
use Rattle.std.proofs.lemmas.List.{length-map}
use Rattle.rt_lattice.specs.Lattices.{NamedOrder, size_of}
use Rattle.rt_components.specs.Groups.{group_at}
use Rattle.rt_scheme.specs.declared.scheme.Scheme.{Scheme}
use Rattle.rt_sigs.specs.Signatures.{AreSignatures, Signature}
use Rattle.rt_table.specs.declared.facts.Facts.{Facts}
use Rattle.rt_table.specs.Lists.{AreGiven}
use Rattle.rt_table.specs.Facts.{IsFactsOf}
use Rattle.rt_plan.specs.declared.event.State.TheVariants.{Open}
use Rattle.rt_plan.specs.Plans.{Board, start}
use Rattle.rt_plan.specs.Laws.{IsOfPlan}
use Rattle.rt_calls.specs.Calls.{AreGroupsOf}
use Rattle.rt_calls.specs.Callees.{AreCalleesOf}
use Rattle.rt_solve.specs.Solved.{with_scheme}
use Rattle.rt_solve.specs.Inside.Courses.{AreFoundFor, IsCourse, course_of}
use Rattle.rt_solve.proofs.Setting.{length-with}
use Rattle.rt_solve.proofs.Solving.{given_more, members_within}

none_some : (scheme : Scheme) → None ≡ Some scheme → ⊥
none_some scheme e = cc

none_at : (n q : ℕ) → slice_index_or {A = Option Scheme} (replicate n None) q None ≡ None
none_at zero q = refl
none_at (suc n) zero = refl
none_at (suc n) (suc q) = none_at n q

module _ (facts : Facts) (groups : List (List ℕ)) (signatures : List Signature) (lattice : NamedOrder) where
  -- the members of a group are procedures that have places for schemes
  pub within_schemes : (board : Board) (schemes : List (Option Scheme)) → IsCourse facts groups signatures lattice board schemes → (g : ℕ)
      → g < length groups → All (λ number. number < length schemes) (group_at groups g)
  within_schemes board schemes is g lt =
      subst (λ n. All (λ number. number < n) (group_at groups g)) (sym is.one_each)
      (members_within facts.object.now lattice.roles lattice.order facts.procs.now signatures groups is.are_groups g lt)

  -- with the schemes of a group's members
  pub course_more : (board : Board) (schemes new : List (Option Scheme)) (found : List Scheme)
      → IsCourse facts groups signatures lattice board schemes → (g : ℕ) → g < length groups
      → AreFoundFor (course_of facts groups signatures lattice board schemes) (group_at groups g) found → new ≡ fold with_scheme schemes found
      → IsCourse facts groups signatures lattice board new
  course_more board schemes new found is g lt are e = record {
    facts_are = is.facts_are;
    signatures_are = is.signatures_are;
    are_signatures = is.are_signatures;
    are_groups = is.are_groups;
    are_callees = is.are_callees;
    states = is.states;
    one_each = ap length e ∙ length-with schemes found ∙ is.one_each;
    given = subst (AreGiven facts.object.now (size_of lattice)) (sym e)
        (given_more facts.object.now lattice.order (size_of lattice) (group_at groups g) are.bodies schemes found are.are_schemes
        (within_schemes board schemes is g lt) are.constants are.globals is.given);
  }

  -- after an event of the plan
  pub course_after : (old new : Board) (schemes : List (Option Scheme)) → IsCourse facts groups signatures lattice old schemes
      → IsOfPlan old new → IsCourse facts groups signatures lattice new schemes
  course_after old new schemes is kept = record {
    facts_are = is.facts_are;
    signatures_are = is.signatures_are;
    are_signatures = is.are_signatures;
    are_groups = is.are_groups;
    are_callees = subst (AreCalleesOf facts.procs.now groups) (sym kept.callees) is.are_callees;
    states = kept.groups ∙ is.states;
    one_each = is.one_each;
    given = is.given;
  }

  -- before the first event
  pub course_new : (board : Board) (schemes : List (Option Scheme)) (callees : List (List ℕ)) (workers count : ℕ)
      → IsFactsOf facts.object.now facts.procs.now facts.sigs.now facts → signatures ≡ facts.sigs.now
      → AreSignatures (size_of lattice) signatures → AreGroupsOf facts.procs.now groups → AreCalleesOf facts.procs.now groups callees
      → board ≡ start workers callees → schemes ≡ replicate count None → length schemes ≡ length facts.procs.now
      → IsCourse facts groups signatures lattice board schemes
  course_new board schemes callees workers count facts_are same are are_groups are_callees board_is schemes_are one_each = record {
    facts_are = facts_are;
    signatures_are = same;
    are_signatures = are;
    are_groups = are_groups;
    are_callees = subst (AreCalleesOf facts.procs.now groups) (sym (ap (λ (b : Board). b.callees) board_is)) are_callees;
    states = ap (λ (b : Board). length b.states) board_is ∙ length-map callees (λ group. Open) ∙ are_callees.one_each;
    one_each = one_each;
    given = λ q scheme e. absurd (no_scheme q scheme e);
  }
    where
      no_scheme : (q : ℕ) (scheme : Scheme) → slice_index_or schemes q None ≡ Some scheme → ⊥
      no_scheme q scheme e =
          let none : slice_index_or schemes q None ≡ None = ap (λ s. slice_index_or s q None) schemes_are ∙ none_at count q in
          none_some scheme (sym none ∙ e)
