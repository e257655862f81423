-- What the first of some sites call.
use Rattle.std.proofs.Common.{◌≡◌, ℕ, ◌+◌, ◌<◌, ◌≤◌, ◌⊎◌, ◌↔◌, inl, inr, Result, Ok, Err, IfOk, List, [], ◌∷◌, ◌++◌, Contains, length, get_or, take, sym, subst}
use Rattle.std.proofs.lemmas.List.{take_more, take_all}
use Rattle.std.proofs.lemmas.List.Elements.{All-contains, Contains-get_or, Contains-append_left, Contains-append_right, Contains-append_cases, Contains-push, Contains-push_cases}
use Rattle.rt_elf.specs.Parts.{Parts as Object}
use Rattle.rt_link.specs.declared.place.Place.{Place}
use Rattle.rt_control.specs.Laws.{IsGood, IsLawOfPlaces}
use Rattle.rt_proc.specs.Bodies.{AreEntries}
use Rattle.rt_proc.specs.Entries.{IsFunction, IsReached, Calls, IsCalledFrom, IsEntry}
use Rattle.rt_proc.specs.Order.{AreAscending}
use Rattle.rt_proc.specs.Steps.{callees}
use Rattle.rt_proc.proofs.Ended.{good-look}
use Rattle.rt_proc.proofs.Forms.{good-callees}
use Rattle.rt_base.proofs.Lists.{Contains-none}

module _ (object : Object) (ends : List ℕ) where
  pub calls_of-none : (to : Place) → Contains [] to ↔ IsCalledFrom object ends [] to
  calls_of-none to = ((λ h. absurd (Contains-none to h)), λ h. absurd (Contains-none h.from h.is_among))

  pub calls_of-more : (places called more all : List Place) (i : ℕ) (d : Place) → i < length places → all ≡ called ++ more
      → ((to : Place) → Contains called to ↔ IsCalledFrom object ends (take i places) to) → ((to : Place) → Contains more to ↔ Calls object ends (get_or places i d) to)
      → (to : Place) → Contains all to ↔ IsCalledFrom object ends (take (i + 1) places) to
  calls_of-more places called more all i d within is old new to =
      let place : Place = get_or places i d in
      let first : take (i + 1) places ≡ take i places ++ place ∷ [] = take_more places i d within in
      let grown : (from : Place) → Contains (take i places ++ place ∷ []) from → Contains (take (i + 1) places) from = λ from h. subst (λ (ps : List Place). Contains ps from) (sym first) h in (
        (λ h. elim (Contains-append_cases called more to (subst (λ (ps : List Place). Contains ps to) is h)) [
          | inl before ↦
              let c = (old to).0 before in
              record { from = c.from; is_among = grown c.from (Contains-append_left (take i places) (place ∷ []) c.from c.is_among); calls = c.calls }
          | inr now ↦ record { from = place; is_among = grown place (Contains-push (take i places) place); calls = (new to).0 now }
        ]),
        λ h. subst (λ (ps : List Place). Contains ps to) (sym is) (elim (Contains-push_cases (take i places) place h.from (subst (λ (ps : List Place). Contains ps h.from) first h.is_among)) [
          | inl before ↦ Contains-append_left called more to ((old to).1 (record { from = h.from; is_among = before; calls = h.calls }))
          | inr e ↦ Contains-append_right called more to ((new to).1 (subst (λ (from : Place). Calls object ends from to) (sym e) h.calls))
        ]),
      )

  pub calls_of-all : (places called : List Place) (i : ℕ) → length places ≤ i → ((to : Place) → Contains called to ↔ IsCalledFrom object ends (take i places) to)
      → (to : Place) → Contains called to ↔ IsCalledFrom object ends places to
  calls_of-all places called i whole h to = subst (λ (ps : List Place). Contains called to ↔ IsCalledFrom object ends ps to) (take_all i places whole) (h to)

  -- functions, and what is called
  pub either : (entries functions called sorted : List Place) (P : Place → Type 0) → entries ≡ functions ++ called → ((to : Place) → Contains called to ↔ P to)
      → ((p : Place) → Contains sorted p ↔ Contains entries p) → (p : Place) → Contains sorted p ↔ (Contains functions p ⊎ P p)
  either entries functions called sorted P is calls same p = (
    (λ h. elim (Contains-append_cases functions called p (subst (λ (ps : List Place). Contains ps p) is ((same p).0 h))) [
      | inl f ↦ inl f
      | inr c ↦ inr ((calls p).0 c)
    ]),
    λ h. (same p).1 (subst (λ (ps : List Place). Contains ps p) (sym is) (elim h [
      | inl f ↦ Contains-append_left functions called p f
      | inr c ↦ Contains-append_right functions called p ((calls p).1 c)
    ])),
  )

-- an entry is at a good place
pub good_entry : (object : Object) (ends : List ℕ) → IsLawOfPlaces → (p : Place) → IsEntry object ends p → IsGood object p
good_entry object ends law p (IsEntry.of_function f) = f.is_good
good_entry object ends law p (IsEntry.of_call from reaches calls) = All-contains (IsGood object) (callees calls.form) p (good-callees object calls.form (good-look law object ends from calls.form calls.is_at)) calls.calls

-- functions and what reached sites call are the entries
module _ (object : Object) (ends : List ℕ) (functions reached entries : List Place) (ascending : AreAscending entries) (are_functions : (p : Place) → Contains functions p ↔ IsFunction object p)
    (are_reached : (p : Place) → Contains reached p ↔ IsReached object ends p) (same : (p : Place) → Contains entries p ↔ (Contains functions p ⊎ IsCalledFrom object ends reached p)) where
  is_entry : (p : Place) → Contains functions p ⊎ IsCalledFrom object ends reached p → IsEntry object ends p
  is_entry p (inl f) = IsEntry.of_function ((are_functions p).0 f)
  is_entry p (inr c) = IsEntry.of_call c.from ((are_reached c.from).0 c.is_among) c.calls

  entry_is : (p : Place) → IsEntry object ends p → Contains functions p ⊎ IsCalledFrom object ends reached p
  entry_is p (IsEntry.of_function f) = inl ((are_functions p).1 f)
  entry_is p (IsEntry.of_call from reaches calls) = inr (record { from = from; is_among = (are_reached from).1 reaches; calls = calls })

  pub are_entries : IsLawOfPlaces → AreEntries object ends entries
  are_entries law = record {
    ascending = ascending;
    same = λ p. ((λ h. is_entry p ((same p).0 h)), λ e. (same p).1 (entry_is p e));
    good = λ k d within. let p = get_or entries k d in good_entry object ends law p (is_entry p ((same p).0 (Contains-get_or entries k d within)));
  }

-- two facts of one answer
pub IfOk-both : {T E : Type 0} (result : Result T E) (P Q R : T → Type 0) → ((x : T) → P x → Q x → R x) → IfOk result P → IfOk result Q → IfOk result R
IfOk-both (Ok x) P Q R both h k = both x h k
IfOk-both (Err e) P Q R both h k = tt
