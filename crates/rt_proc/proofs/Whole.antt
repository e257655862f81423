-- What holds of each site of the procedures of an object.
use Rattle.std.proofs.Common.{◌≡◌, ℕ, zero, suc, ◌<◌, inl, inr, true, not, Ok, List, [], ◌∷◌, map, filter, All, Contains, length, get_or, refl, sym, ap, subst, arith}
use Rattle.std.proofs.lemmas.List.{length-map}
use Rattle.std.proofs.lemmas.List.Elements.{All-nil, All-cons, All-map, Contains-get_or}
use Rattle.rt_elf.specs.Parts.{Parts as Object}
use Rattle.rt_link.specs.Effects.{is_place}
use Rattle.rt_link.specs.declared.place.Place.{Place}
use Rattle.rt_control.specs.declared.form.Called.{Called}
use Rattle.rt_control.specs.declared.form.Called.TheVariants as called
use Rattle.rt_control.specs.declared.form.Form.{Form}
use Rattle.rt_control.specs.declared.form.Form.TheVariants as form
use Rattle.rt_control.specs.declared.form.Target.{Target}
use Rattle.rt_control.specs.declared.form.Target.TheVariants as target
use Rattle.rt_control.specs.declared.form.Way.{Way}
use Rattle.rt_control.specs.declared.form.Way.TheVariants.{On, Jump, Branch, Leave, Table}
use Rattle.rt_control.specs.Laws.{IsKnownForm, IsKnownCalled, IsKnownTarget, IsKnownWay, IsLawOfNames, IsLawOfPlaces as IsLawOfFormPlaces}
use Rattle.rt_proc.specs.Ends.{IsLookAt}
use Rattle.rt_proc.specs.declared.proc.Proc.{Proc}
use Rattle.rt_proc.specs.declared.site.Callee.TheVariants as callee
use Rattle.rt_proc.specs.declared.site.Site.{Site}
use Rattle.rt_proc.specs.Bodies.{IsInBody}
use Rattle.rt_proc.specs.Entries.{IsEntry}
use Rattle.rt_proc.specs.Laws.{IsCallee, IsKind, HasCallees, IsLawOfSteps, IsLawOfCallees, IsLawOfPlaces}
use Rattle.rt_proc.specs.Procs.{places_of, entries_of, IsSite, IsProc, AreProcs}
use Rattle.rt_proc.specs.Sites.{is_entry, number_of, is_other, callee_of, target_of, kind_of, next_of, step_tails, way_tails, tails_of, site_of}
use Rattle.rt_proc.specs.Steps.{way_steps, steps, called_code, target_code, callees}
use Rattle.rt_proc.specs.Walks.{Walk}
use Rattle.rt_proc.proofs.Ended.{known-look}
use Rattle.rt_proc.proofs.EntrySets.{reached-body}
use Rattle.rt_proc.proofs.OneFault.{good-body}
use Rattle.rt_proc.proofs.Staying.{is_entry-has, stays}
use Rattle.rt_base.proofs.Lists.{filter-source, Contains-here, Contains-there}
use Rattle.std.proofs.lemmas.Bool.{cases_Bool, and_parts}

-- the image of an element stands in the mapped list
Contains-mapped : {X Y : Type 0} (f : X → Y) (xs : List X) (k : ℕ) (d : X) → k < length xs → Contains (map f xs) (f (get_or xs k d))
Contains-mapped f [] k d h = absurd (omega arith)
Contains-mapped f (x ∷ xs) zero d h = Contains-here (f x) (map f xs)
Contains-mapped f (x ∷ xs) (suc k) d h = Contains-there (f x) (map f xs) (f (get_or xs k d)) (Contains-mapped f xs k d (omega arith))

entry-of : (object : Object) (ends : List ℕ) (procs : List Proc) (are : AreProcs object ends procs) (k : ℕ) (d : Proc) → k < length procs → IsEntry object ends (get_or procs k d).entry
entry-of object ends procs are k d within = (are.entries (get_or procs k d).entry).0 (Contains-mapped (λ (p : Proc). p.entry) procs k d within)

place-of : (sites : List Site) (k : ℕ) (d : Site) → k < length sites → Contains (places_of sites) (get_or sites k d).place
place-of sites k d within = Contains-mapped (λ (s : Site). s.place) sites k d within

-- each place of a body is good
pub places_lem : IsLawOfFormPlaces → IsLawOfPlaces
places_lem law object ends procs are k d within j e there =
    let proc = get_or procs k d in
    let is : IsProc object ends (entries_of procs) proc = are.each k d within in
    let place = get_or (places_of proc.sites) j e in
    good-body object ends proc.entry place law (entry-of object ends procs are k d within) ((is.body place).0 (Contains-get_or (places_of proc.sites) j e there))

-- each step of a site leads to one of its body
pub steps_lem : IsLawOfSteps
steps_lem object ends procs are k d within =
    let proc = get_or procs k d in
    let entries = entries_of procs in
    let is : IsProc object ends entries proc = are.each k d within in
    record {
      entry = (is.body proc.entry).1 (Walk.start refl);
      next = λ j e there.
          let site = get_or proc.sites j e in
          let one : IsSite object ends entries proc.entry site = is.sites j e there in
          let next : site.next ≡ next_of entries proc.entry one.form = ap (λ (s : Site). s.next) one.is_site in
          λ i f inside.
          let to = get_or site.next i f in
          let kept = filter-source (λ (p : Place). not (is_other entries proc.entry p)) (steps one.form) to (subst (λ (ps : List Place). Contains ps to) next (Contains-get_or site.next i f inside)) in
          let walk : IsInBody object ends proc.entry site.place = (is.body site.place).0 (place-of proc.sites j e there) in
          (is.body to).1 (Walk.step walk (record { form = one.form; is_at = one.is_at; steps = kept.0; stays = stays object ends entries proc.entry are.entries to kept.1 }));
    }

-- the number of an entry is that of a procedure
number-below : (entries : List Place) (p : Place) → is_entry entries p ≡ true → number_of entries p < length entries
number-below [] p e = cc
number-below (q ∷ qs) p e = elim (cases_Bool (is_place q p)) [
  | inl same ↦ rw same (omega arith)
  | inr apart ↦ let rest : number_of qs p < length qs = number-below qs p (rw apart at e) in rw apart (omega arith)
]

-- whom a site calls, where the code that it calls is that of entries
module _ (object : Object) (entries : List Place) (count : ℕ) (counted : length entries ≡ count) where
  proc-below : (p : Place) → is_entry entries p ≡ true → IsCallee object count (callee.Proc (number_of entries p))
  proc-below p e = let below = number-below entries p e in omega arith

  callee-is : (c : Called) → All (λ p. is_entry entries p ≡ true) (called_code c) → IsKnownCalled object c → IsCallee object count (callee_of entries c)
  callee-is (called.Code p) among known = proc-below p (among 0 p (omega arith))
  callee-is (called.Outside symbol) among known = known
  callee-is (called.Register register) among known = known

  target-is : (t : Target) → All (λ p. is_entry entries p ≡ true) (target_code t) → IsKnownTarget object t → IsCallee object count (target_of entries t)
  target-is (target.Code p) among known = proc-below p (among 0 p (omega arith))
  target-is (target.Outside symbol) among known = known

  kind-is : (f : Form) → All (λ p. is_entry entries p ≡ true) (callees f) → IsKnownForm object f → IsKind object count (kind_of entries f)
  kind-is (form.Plain insn way) among known = known.0
  kind-is (form.Call c link after) among known = (callee-is c among known.0, known.1)
  kind-is (form.Tail leads) among known = tt
  kind-is form.Return among known = tt
  kind-is form.Stop among known = tt

  step_tails-are : (own : Place) (places : List Place) → All (IsCallee object count) (step_tails entries own places)
  step_tails-are own places = All-map (IsCallee object count) (λ p. callee.Proc (number_of entries p)) (filter (is_other entries own) places)
      (λ k d within.
      let p = get_or (filter (is_other entries own) places) k d in
      let kept = filter-source (is_other entries own) places p (Contains-get_or (filter (is_other entries own) places) k d within) in
      proc-below p (and_parts (is_entry entries p) (not (is_place p own)) kept.1).0
      )

  way_tails-are : (own : Place) (way : Way) → IsKnownWay object way → All (IsCallee object count) (way_tails entries own way)
  way_tails-are own (On after) known = step_tails-are own (way_steps (On after))
  way_tails-are own (Jump place) known = step_tails-are own (way_steps (Jump place))
  way_tails-are own (Branch place after) known = step_tails-are own (way_steps (Branch place after))
  way_tails-are own (Table places) known = step_tails-are own places
  way_tails-are own (Leave symbol) known = All-cons (IsCallee object count) (callee.Extern symbol) [] known (All-nil (IsCallee object count))

  tails-are : (own : Place) (f : Form) → All (λ p. is_entry entries p ≡ true) (callees f) → IsKnownForm object f → All (IsCallee object count) (tails_of entries own f)
  tails-are own (form.Plain insn way) among known = way_tails-are own way known.1
  tails-are own (form.Call c link after) among known = All-nil (IsCallee object count)
  tails-are own (form.Tail leads) among known = All-cons (IsCallee object count) (target_of entries leads) [] (target-is leads among known) (All-nil (IsCallee object count))
  tails-are own form.Return among known = All-nil (IsCallee object count)
  tails-are own form.Stop among known = All-nil (IsCallee object count)

  pub site-is : (own : Place) (site : Site) (place : Place) (f : Form) → site ≡ site_of entries own place f → All (λ p. is_entry entries p ≡ true) (callees f) → IsKnownForm object f → HasCallees object count site
  site-is own site place f is among known = subst (HasCallees object count) (sym is) (kind-is f among known, tails-are own f among known)

-- what a site of a procedure calls are entries
called-entries : (object : Object) (ends : List ℕ) (procs : List Proc) (are : AreProcs object ends procs) (own place : Place) (f : Form) → IsEntry object ends own → IsInBody object ends own place → IsLookAt object ends place (Ok f)
    → All (λ p. is_entry (entries_of procs) p ≡ true) (callees f)
called-entries object ends procs are own place f entry walk is_at = λ k d within.
    let p = get_or (callees f) k d in
    is_entry-has (entries_of procs) p ((are.entries p).1 (IsEntry.of_call place (reached-body object ends own place entry walk) (record { form = f; is_at = is_at; calls = Contains-get_or (callees f) k d within })))

pub callees_lem : IsLawOfNames → IsLawOfCallees
callees_lem law object ends procs linkable are k d within j e there =
    let proc = get_or procs k d in
    let entries = entries_of procs in
    let is : IsProc object ends entries proc = are.each k d within in
    let site = get_or proc.sites j e in
    let one : IsSite object ends entries proc.entry site = is.sites j e there in
    let walk : IsInBody object ends proc.entry site.place = (is.body site.place).0 (place-of proc.sites j e there) in
    site-is object entries (length procs) (length-map procs (λ (p : Proc). p.entry)) proc.entry site site.place one.form one.is_site
    (called-entries object ends procs are proc.entry site.place one.form (entry-of object ends procs are k d within) walk one.is_at)
    (known-look law object ends site.place one.form linkable one.is_at)
