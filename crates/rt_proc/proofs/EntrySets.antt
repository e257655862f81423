-- Entries as the least set that is closed under calls.
use Rattle.std.proofs.Common.{◌≡◌, inl, inr, ℕ, Bool, true, false, IsTrue, List, refl, sym, subst, ◌∙◌}
use Rattle.std.proofs.lemmas.List.Elements.{Contains-append_left, Contains-append_right, Contains-append_cases}
use Rattle.rt_elf.specs.Parts.{Parts as Object}
use Rattle.rt_link.specs.declared.place.Place.{Place}
use Rattle.rt_proc.specs.declared.proc.Proc.{Proc}
use Rattle.rt_proc.specs.Bodies.{IsInBody}
use Rattle.rt_proc.specs.Entries.{LeadsTo, IsReached, IsEntry}
use Rattle.rt_proc.specs.Laws.{IsInBodyOf, IsCallClosed, IsLawOfLeast, IsLawOfClosed, IsLawOfBodies}
use Rattle.rt_proc.specs.Procs.{entries_of, AreProcs}
use Rattle.rt_proc.specs.Sites.{is_entry}
use Rattle.rt_proc.specs.Steps.{steps, callees}
use Rattle.rt_proc.specs.Walks.{Walk}
use Rattle.rt_proc.proofs.Staying.{is_entry-has, is_entry-source}
use Rattle.std.proofs.lemmas.Bool.{cases_Bool}

module _ (object : Object) (ends : List ℕ) where
  -- an entry is reached, and so is what its body has
  pub reached-entry : (p : Place) → IsEntry object ends p → IsReached object ends p
  reached-entry p (IsEntry.of_function f) = Walk.start f
  reached-entry p (IsEntry.of_call from reaches calls) =
      Walk.step reaches (record { form = calls.form; is_at = calls.is_at; leads = Contains-append_right (steps calls.form) (callees calls.form) p calls.calls })

  pub reached-body : (own p : Place) → IsEntry object ends own → IsInBody object ends own p → IsReached object ends p
  reached-body own p entry (Walk.start e) = subst (IsReached object ends) (sym e) (reached-entry own entry)
  reached-body own p entry (Walk.step {x} w s) =
      Walk.step (reached-body own x entry w) (record { form = s.form; is_at = s.is_at; leads = Contains-append_left (steps s.form) (callees s.form) p s.steps })

  -- each place that is reached is in the body of a place of the set
  module _ (set : Place → Bool) (closed : IsCallClosed object ends set) where
    abbrev IsCovered : Place → Type 0
    IsCovered p = (own : Place) × IsTrue (set own) × IsInBodyOf object ends set own p

    own-body : (p : Place) → IsTrue (set p) → IsCovered p
    own-body p is = (p, is, Walk.start refl)

    next-covered : (own from to : Place) → IsTrue (set own) → IsInBodyOf object ends set own from → LeadsTo object ends from to → IsCovered to
    next-covered own from to is walk leads = elim (Contains-append_cases (steps leads.form) (callees leads.form) to leads.leads) [
      | inl steps ↦ elim (cases_Bool (set to)) [
        | inl within ↦ own-body to within
        | inr out ↦ (
          own,
          is,
          Walk.step walk (record { form = leads.form; is_at = leads.is_at; steps = steps; stays = λ within. let f : true ≡ false = sym within ∙ out in cc }),
        )
      ]
      | inr calls ↦ own-body to (closed.calls own from to is walk (record { form = leads.form; is_at = leads.is_at; calls = calls }))
    ]

    pub covered : (p : Place) → IsReached object ends p → IsCovered p
    covered p (Walk.start f) = own-body p (closed.functions p f)
    covered p (Walk.step {x} w leads) = let before = covered x w in next-covered before.0 x p before.1 before.2 leads

    pub least : (p : Place) → IsEntry object ends p → IsTrue (set p)
    least p (IsEntry.of_function f) = closed.functions p f
    least p (IsEntry.of_call from reaches calls) = let before = covered from reaches in closed.calls before.0 from p before.1 before.2 calls

  -- the entries of the procedures
  module _ (procs : List Proc) (are : AreProcs object ends procs) where
    abbrev set : Place → Bool
    set = is_entry (entries_of procs)

    in-set : (p : Place) → IsEntry object ends p → IsTrue (set p)
    in-set p entry = is_entry-has (entries_of procs) p ((are.entries p).1 entry)

    of-set : (p : Place) → IsTrue (set p) → IsEntry object ends p
    of-set p is = (are.entries p).0 (is_entry-source (entries_of procs) p is)

    in-body : (own p : Place) → IsInBodyOf object ends set own p → IsInBody object ends own p
    in-body own p (Walk.start e) = Walk.start e
    in-body own p (Walk.step {x} w s) = Walk.step (in-body own x w) (record { form = s.form; is_at = s.is_at; steps = s.steps; stays = λ entry. s.stays (in-set p entry) })

    pub is_closed : IsCallClosed object ends set
    is_closed = record {
      functions = λ p f. in-set p (IsEntry.of_function f);
      calls = λ own from to is walk calls. in-set to (IsEntry.of_call from (reached-body own from (of-set own is) (in-body own from walk)) calls);
    }

    pub in-bodies : (p : Place) → IsReached object ends p → (own : Place) × IsEntry object ends own × IsInBody object ends own p
    in-bodies p reaches = let body = covered set is_closed p reaches in (body.0, of-set body.0 body.1, in-body body.0 p body.2)

pub least_lem : IsLawOfLeast
least_lem object ends set closed p entry = least object ends set closed p entry

pub closed_lem : IsLawOfClosed
closed_lem object ends procs are = is_closed object ends procs are

pub bodies_lem : IsLawOfBodies
bodies_lem object ends procs are p = (in-bodies object ends procs are p, λ b. reached-body object ends b.0 p b.1 b.2)
