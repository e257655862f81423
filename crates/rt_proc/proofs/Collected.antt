-- The procedures of the first entries.
use Rattle.std.proofs.Common.{◌≡◌, ℕ, ◌+◌, ◌<◌, ◌≤◌, inl, inr, None, List, [], ◌∷◌, ◌++◌, All, Contains, length, get_or, take, refl, sym, ap, subst, ◌∙◌}
use Rattle.std.proofs.lemmas.List.{take_more, take_all, map-append}
use Rattle.std.proofs.lemmas.List.Elements.{All-nil, All-push, Contains-get_or, Contains-push_cases}
use Rattle.rt_elf.specs.Parts.{Parts as Object}
use Rattle.rt_link.specs.declared.place.Place.{Place}
use Rattle.rt_proc.specs.declared.fault.CodeFault.{CodeFault}
use Rattle.rt_proc.specs.declared.fault.CodeFault.TheVariants.{Bad, Memory}
use Rattle.rt_proc.specs.declared.proc.Proc.{Proc}
use Rattle.rt_proc.specs.Bodies.{AreEntries}
use Rattle.rt_proc.specs.Faults.{symbols_fault, IsSound, IsFirstFault, IsBodyFault, IsFaultOf, HasNoFault}
use Rattle.rt_proc.specs.Procs.{entries_of, IsProc, AreProcs}
use Rattle.rt_proc.proofs.Faulty.{earlier}
use Rattle.rt_base.proofs.Lists.{Contains-none}

-- no body that is entered at one of some places has a fault
abbrev pub AreSound : Object → List ℕ → List Place → Type 0
AreSound object ends places = (own : Place) → Contains places own → IsSound object ends own

-- the procedures of the first i entries, which have no fault
pub record AreFirst (object : Object) (ends : List ℕ) (entries : List Place) (i : ℕ) (procs : List Proc) : Type 0 where
  pub places : entries_of procs ≡ take i entries
  pub each : All (IsProc object ends entries) procs
  pub sound : AreSound object ends (take i entries)

module _ (object : Object) (ends : List ℕ) (entries : List Place) (are : AreEntries object ends entries) where
  pub first-none : AreFirst object ends entries 0 []
  first-none = record {
    places = refl;
    each = All-nil (IsProc object ends entries);
    sound = λ own h. absurd (Contains-none own h);
  }

  pub first-more : (i : ℕ) (d : Place) (procs new : List Proc) (proc : Proc) → i < length entries → new ≡ procs ++ proc ∷ [] → proc.entry ≡ get_or entries i d
      → IsProc object ends entries proc → IsSound object ends (get_or entries i d) → AreFirst object ends entries i procs → AreFirst object ends entries (i + 1) new
  first-more i d procs new proc within push enters is sound old = record {
    places =
        ap entries_of push ∙ map-append (λ (p : Proc). p.entry) procs (proc ∷ [])
        ∙ (λ j. old.places j ++ enters j ∷ []) ∙ sym (take_more entries i d within);
    each = subst (All (IsProc object ends entries)) (sym push) (All-push (IsProc object ends entries) procs proc old.each is);
    sound = λ own h. elim (Contains-push_cases (take i entries) (get_or entries i d) own (subst (λ (ps : List Place). Contains ps own) (take_more entries i d within) h)) [
      | inl before ↦ old.sound own before
      | inr e ↦ subst (IsSound object ends) e sound
    ];
  }

  -- the fault of the next body is the first one
  pub first-body : (i : ℕ) (d : Place) (fault : CodeFault) → symbols_fault object ≡ None → i < length entries → AreSound object ends (take i entries) → IsBodyFault object ends (get_or entries i d) fault → IsFaultOf object ends fault
  first-body i d (Bad number place) none within sound first =
      IsFirstFault.of_site (get_or entries i d) none ((are.same (get_or entries i d)).0 (Contains-get_or entries i d within)) first
      (λ other entry below. sound other (earlier entries i d other are.ascending within ((are.same other).1 entry) below))
  first-body i d Memory none within sound first = tt

  module _ (i : ℕ) (procs : List Proc) (whole : length entries ≤ i) (first : AreFirst object ends entries i procs) where
    all : take i entries ≡ entries
    all = take_all i entries whole

    pub are_procs : AreProcs object ends procs
    are_procs =
        let same : entries_of procs ≡ entries = first.places ∙ all in
        record {
          ascending = rw same are.ascending;
          entries = λ p. rw same (are.same p);
          each = rw same first.each;
        }

    pub no-faults : symbols_fault object ≡ None → HasNoFault object ends
    no-faults none = record {
      symbols = none;
      sites = λ own entry. first.sound own (subst (λ (ps : List Place). Contains ps own) (sym all) ((are.same own).1 entry));
    }
