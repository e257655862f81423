-- First faults: where they stand, and that there is one at most.
use Rattle.std.proofs.Common.{◌≡◌, ℕ, zero, suc, ◌+◌, ◌⊎◌, inl, inr, Bool, true, false, Option, Some, None, Result, Err, List, length, get_or, sym, ap, subst, ◌∙◌, arith}
use Rattle.std.proofs.lemmas.Bool.{cases_lt, cases_eq}
use Rattle.std.proofs.lemmas.List.Elements.{All-contains}
use Rattle.rt_base.specs.First.{fault_if, then_of, first_each}
use Rattle.rt_elf.specs.Parts.{Parts as Object}
use Rattle.rt_elf.specs.Symbols.{zero_symbol}
use Rattle.rt_link.specs.declared.place.Place.{Place}
use Rattle.rt_control.specs.declared.fault.SiteFault.{SiteFault}
use Rattle.rt_control.specs.declared.form.Form.{Form}
use Rattle.rt_control.specs.Control.{number_of}
use Rattle.rt_control.specs.Laws.{IsGood, IsLawOfOneForm, IsLawOfPlaces}
use Rattle.rt_proc.specs.declared.fault.CodeFault.{CodeFault}
use Rattle.rt_proc.specs.declared.fault.CodeFault.TheVariants.{Bad}
use Rattle.rt_proc.specs.Bodies.{IsInBody}
use Rattle.rt_proc.specs.Entries.{IsEntry}
use Rattle.rt_proc.specs.Faults.{symbol_fault, HasFault, IsFirstIn, IsFirstFault}
use Rattle.rt_proc.specs.Laws.{IsLawOfFaultPlaces, IsLawOfOneFault}
use Rattle.rt_proc.specs.Order.{IsBelow}
use Rattle.rt_proc.specs.Steps.{steps}
use Rattle.rt_proc.specs.Walks.{Walk}
use Rattle.rt_proc.proofs.Called.{good_entry}
use Rattle.rt_proc.proofs.Ended.{good-look, one_look}
use Rattle.rt_proc.proofs.Forms.{good-steps}
use Rattle.rt_link.proofs.Held.{place-same}

-- two places are one, or one of them comes first
order : (p q : Place) → IsBelow p q ⊎ ((p ≡ q) ⊎ IsBelow q p)
order p q = elim (cases_lt p.section q.section) [
  | inl less ↦ inl (inl less)
  | inr more ↦ elim (cases_eq p.section q.section) [
    | inr other ↦ inr (inr (inl (omega arith)))
    | inl one ↦ elim (cases_lt p.offset q.offset) [
      | inl less ↦ inl (inr (one, less))
      | inr more' ↦ elim (cases_eq p.offset q.offset) [
        | inr other ↦ inr (inr (inr (sym one, omega arith)))
        | inl same ↦ inr (inl (place-same p.section q.section p.offset q.offset one same))
      ]
    ]
  ]
]

-- the first fault is that of one of the entries
then_of-some : {F : Type 0} (a b : Option F) (f : F) → then_of a b ≡ Some f → (a ≡ Some f) ⊎ (b ≡ Some f)
then_of-some None b f e = inr e
then_of-some (Some g) b f e = inl e

first_each-some : {F : Type 0} (part : ℕ → Option F) (i n : ℕ) (f : F) → first_each part i n ≡ Some f → (k : ℕ) × (part k ≡ Some f)
first_each-some part i zero f e = cc
first_each-some part i (suc n) f e = elim (then_of-some (part i) (first_each part (i + 1) n) f e) [
  | inl here ↦ (i, here)
  | inr later ↦ first_each-some part (i + 1) n f later
]

number-31 : (fails : Bool) (at place : Place) (number : ℕ) → fault_if fails (Bad 31 at) ≡ Some (Bad number place) → number ≡ 31
number-31 true at place number e = cc
number-31 false at place number e = cc

-- a body's places are good
pub good-body : (object : Object) (ends : List ℕ) (own p : Place) → IsLawOfPlaces → IsEntry object ends own → IsInBody object ends own p → IsGood object p
good-body object ends own p law entry (Walk.start e) = subst (IsGood object) (sym e) (good_entry object ends law own entry)
good-body object ends own p law entry (Walk.step {x} w s) = All-contains (IsGood object) (steps s.form) p (good-steps object s.form (good-look law object ends x s.form s.is_at)) s.steps

pub fault_places : IsLawOfPlaces → IsLawOfFaultPlaces
fault_places law object ends number place (IsFirstFault.of_symbol e) ne =
    let found = first_each-some (λ (i : ℕ). symbol_fault object (get_or object.symbols i zero_symbol)) 0 (length object.symbols) (Bad number place) e in
    absurd (ne (number-31 _ _ place number found.1))
fault_places law object ends number place (IsFirstFault.of_site own none entry first before) ne = good-body object ends own place law entry first.has_fault.in_body

module _ (law : IsLawOfOneForm) (object : Object) (ends : List ℕ) where
  -- in one body
  same-number : (n m : ℕ) (own p : Place) → HasFault object ends own n p → HasFault object ends own m p → n ≡ m
  same-number n m own p a b =
      let e : ◌≡◌ {A = Result Form SiteFault} (Err a.fault) (Err b.fault) = one_look law object ends p (Err a.fault) (Err b.fault) a.is_at b.is_at in
      let f : a.fault ≡ b.fault = cc in
      a.is_number ∙ ap number_of f ∙ sym b.is_number

  one-body : (own : Place) (n m : ℕ) (p q : Place) → IsFirstIn object ends own n p → IsFirstIn object ends own m q → (n ≡ m) × (p ≡ q)
  one-body own n m p q a b = elim (order p q) [
    | inl below ↦ absurd (b.is_first p n below a.has_fault)
    | inr (inr above) ↦ absurd (a.is_first q m above b.has_fault)
    | inr (inl same) ↦ (same-number n m own p a.has_fault (subst (HasFault object ends own m) (sym same) b.has_fault), same)
  ]

  one : (n m : ℕ) (p q : Place) → IsFirstFault object ends n p → IsFirstFault object ends m q → (n ≡ m) × (p ≡ q)
  one n m p q (IsFirstFault.of_symbol e) (IsFirstFault.of_symbol f) =
      let same : ◌≡◌ {A = CodeFault} (Bad n p) (Bad m q) = cc in
      (cc, cc)
  one n m p q (IsFirstFault.of_symbol e) (IsFirstFault.of_site own none entry first before) = let f : Some (Bad n p) ≡ None = sym e ∙ none in cc
  one n m p q (IsFirstFault.of_site own none entry first before) (IsFirstFault.of_symbol e) = let f : Some (Bad m q) ≡ None = sym e ∙ none in cc
  one n m p q (IsFirstFault.of_site own none entry first before) (IsFirstFault.of_site other none' entry' first' before') = elim (order own other) [
    | inl below ↦ absurd (before' own entry below n p first.has_fault)
    | inr (inr above) ↦ absurd (before other entry' above m q first'.has_fault)
    | inr (inl same) ↦ one-body own n m p q first (subst (λ (o : Place). IsFirstIn object ends o m q) (sym same) first')
  ]

pub one_fault : IsLawOfOneForm → IsLawOfOneFault
one_fault law object ends number other_number place other a b = one law object ends number other_number place other a b
