-- The places of forms are good.
use Rattle.std.proofs.Common.{ℕ, ℤ, pos, ◌==◌, ◌&&◌, ◌||◌, inl, inr, Option, Some, None, List, [], ◌∷◌, All, Result, IfSome, IfOk, get_or, sym, subst}
use Rattle.std.specs.Option.{option_map, option_and_then}
use Rattle.std.proofs.lemmas.List.Elements.{All-nil, All-cons}
use Rattle.std.specs.Ordering.{int_eq}
use Rattle.rt_elf.specs.Parts.{Parts as Object}
use Rattle.rt_elf.specs.Symbols.{zero_symbol}
use Rattle.rt_insn.specs.declared.insn.Insn.{Insn}
use Rattle.rt_insn.specs.declared.insn.Insn.TheVariants.{Jal, Jalr, Ebreak}
use Rattle.rt_link.specs.declared.link.Link.{Link}
use Rattle.rt_link.specs.declared.link.Link.TheVariants as link
use Rattle.rt_link.specs.declared.place.Place.{Place}
use Rattle.rt_link.specs.declared.pointers.Pointer.{Pointer}
use Rattle.rt_link.specs.Effects.{link_at, moved}
use Rattle.rt_control.specs.declared.fault.SiteFault.{SiteFault}
use Rattle.rt_control.specs.declared.form.Form.{Form}
use Rattle.rt_control.specs.declared.form.Target.{Target}
use Rattle.rt_control.specs.declared.form.Target.TheVariants as target
use Rattle.rt_control.specs.declared.outcome.Outcome.{Outcome}
use Rattle.rt_control.specs.declared.outcome.Outcome.TheVariants.{NoTable, BadTarget, Targets}
use Rattle.rt_control.specs.Control.{pair_form, jal_form, table_form, jalr_form, step_form, branch_form, branch_distance, going_form, insn_form}
use Rattle.rt_control.specs.Laws.{IsGood, IsGoodTarget, IsGoodAfter, IsGoodForm}
use Rattle.rt_control.specs.Places.{is_good, good_place, after, code_target, symbol_target, jump_target, word_of}
use Rattle.rt_control.specs.Sites.{form_of, register_of, IsAt}
use Rattle.rt_control.specs.Tables.{code_of, entry_target, entry_targets, outcome_to, outcome_of}
use Rattle.rt_control.proofs.Once.{with_places-all}
use Rattle.std.proofs.lemmas.Bool.{cases_Bool}

-- What leads to places.

good_place-good : (object : Object) (place : Place) → IsGoodAfter object (good_place object place)
good_place-good object place = elim (cases_Bool (is_good object place)) [ inl e ↦ rw e e | inr e ↦ rw e tt ]

code_target-good : (object : Object) (place : Place) → IfSome (code_target object place) (IsGoodTarget object)
code_target-good object place = elim (cases_Bool (is_good object place)) [ inl e ↦ rw e e | inr e ↦ rw e tt ]

-- the target of a symbol that is defined in a section
symbol_target-good : (object : Object) (index : ℕ) (addend : ℤ) → IfSome (symbol_target object index addend) (IsGoodTarget object)
unfolding symbol_target
symbol_target-good object index addend = let symbol = get_or object.symbols index zero_symbol in
    elim (cases_Bool (symbol.section == 0)) [
      | inl e ↦ rw e tt
      | inr e ↦ elim (cases_Bool (symbol.section == 0xFFF1 || symbol.section == 0xFFF2)) [
        | inl f ↦ rw (e, f) tt
        | inr f ↦ rw (e, f) (code_target-good object (moved symbol.section symbol.value addend))
      ]
    ]

jump_target-good : (object : Object) (place : Place) (link : Option Link) (distance : ℤ) → IfSome (jump_target object place link distance) (IsGoodTarget object)
jump_target-good object place (Some (link.Target symbol addend)) distance = symbol_target-good object symbol addend
jump_target-good object place other distance = code_target-good object (moved place.section place.offset distance)

-- What tables come to.

code_of-good : (object : Object) (leads : Option Target) → IfSome leads (IsGoodTarget object) → IfSome (code_of leads) (IsGood object)
code_of-good object None h = tt
code_of-good object (Some (target.Code place)) h = h
code_of-good object (Some (target.Outside symbol)) h = tt

both-good : (object : Object) (first : Option Place) (others : Option (List Place)) → IfSome first (IsGood object) → IfSome others (All (IsGood object))
    → IfSome (option_and_then (λ (place : Place). option_map (λ (places : List Place). place ∷ places) others) first) (All (IsGood object))
both-good object None others h k = tt
both-good object (Some place) None h k = tt
both-good object (Some place) (Some places) h k = All-cons (IsGood object) place places h k

entries-good : (object : Object) (entries : List Pointer) → IfSome (entry_targets object entries) (All (IsGood object))
entries-good object [] = All-nil (IsGood object)
entries-good object (entry ∷ entries) =
    both-good object (entry_target object entry) (entry_targets object entries)
    (code_of-good object (symbol_target object entry.symbol entry.addend) (symbol_target-good object entry.symbol entry.addend)) (entries-good object entries)

-- the places that a jump comes to are good
abbrev pub IsGoodOutcome : Object → Outcome → Type 0
IsGoodOutcome object NoTable = Unit {0}
IsGoodOutcome object BadTarget = Unit {0}
IsGoodOutcome object (Targets places) = All (IsGood object) places

outcome_to-good : (object : Object) (places : Option (List Place)) → IfSome places (All (IsGood object)) → IsGoodOutcome object (outcome_to places)
outcome_to-good object None h = tt
outcome_to-good object (Some places) h = with_places-all (IsGood object) [] places (All-nil (IsGood object)) h

pub outcome-good : (object : Object) (entries : List Pointer) → IsGoodOutcome object (outcome_of object entries)
outcome-good object [] = tt
outcome-good object (entry ∷ entries) = outcome_to-good object (entry_targets object (entry ∷ entries)) (entries-good object (entry ∷ entries))

-- Forms.

pair-good : (object : Object) (place : Place) (link : ℕ) (leads : Option Target) → IfSome leads (IsGoodTarget object) → IfOk (pair_form object place link leads) (IsGoodForm object)
pair-good object place link None h = tt
pair-good object place link (Some (target.Code p)) h = elim (cases_Bool (link == 0)) [ inl e ↦ rw e h | inr e ↦ rw e (h, good_place-good object (after place 8)) ]
pair-good object place link (Some (target.Outside s)) h = elim (cases_Bool (link == 0)) [ inl e ↦ rw e h | inr e ↦ rw e (h, good_place-good object (after place 8)) ]

jal-good : (object : Object) (place : Place) (insn : Insn) (link : ℕ) (leads : Option Target) → IfSome leads (IsGoodTarget object)
    → IfOk (jal_form object place insn link leads) (IsGoodForm object)
jal-good object place insn link None h = tt
jal-good object place insn link (Some (target.Code p)) h = elim (cases_Bool (link == 0)) [ inl e ↦ rw e h | inr e ↦ rw e (h, good_place-good object (after place 4)) ]
jal-good object place insn link (Some (target.Outside s)) h = elim (cases_Bool (link == 0)) [ inl e ↦ rw e h | inr e ↦ rw e (h, good_place-good object (after place 4)) ]

table-good : (object : Object) (insn : Insn) (outcome : Outcome) → IsGoodOutcome object outcome → IfOk (table_form insn outcome) (IsGoodForm object)
table-good object insn NoTable h = tt
table-good object insn BadTarget h = tt
table-good object insn (Targets places) h = h

jalr-good : (object : Object) (place : Place) (insn : Insn) (link base : ℕ) (distance : ℤ) (outcome : Outcome) → IsGoodOutcome object outcome
    → IfOk (jalr_form object place insn link base distance outcome) (IsGoodForm object)
jalr-good object place insn link base distance outcome h = elim (cases_Bool (link == 0)) [
  | inr e ↦ rw e (tt, good_place-good object (after place 4))
  | inl e ↦ elim (cases_Bool (base == 1 && int_eq distance (pos 0))) [ inl f ↦ rw (e, f) tt | inr f ↦ rw (e, f) (table-good object insn outcome h) ]
]

step-good : (object : Object) (insn : Insn) (continuation : Option Place) → IsGoodAfter object continuation → IfOk (step_form insn continuation) (IsGoodForm object)
step-good object insn None h = tt
step-good object insn (Some place) h = h

branch-good : (object : Object) (insn : Insn) (leads : Option Target) (continuation : Option Place) → IfSome leads (IsGoodTarget object) → IsGoodAfter object continuation
    → IfOk (branch_form insn leads continuation) (IsGoodForm object)
branch-good object insn None None h k = tt
branch-good object insn None (Some after) h k = tt
branch-good object insn (Some (target.Outside s)) None h k = tt
branch-good object insn (Some (target.Outside s)) (Some after) h k = tt
branch-good object insn (Some (target.Code p)) None h k = tt
branch-good object insn (Some (target.Code p)) (Some after) h k = (h, k)

going-good : (object : Object) (place : Place) (link : Option Link) (insn : Insn) (distance : Option ℤ) → IfOk (going_form object place link insn distance) (IsGoodForm object)
going-good object place link insn None = step-good object insn (good_place object (after place 4)) (good_place-good object (after place 4))
going-good object place link insn (Some distance) =
    branch-good object insn (jump_target object place link distance) (good_place object (after place 4)) (jump_target-good object place link distance) (good_place-good object (after place 4))

insn-good : (object : Object) (place : Place) (link : Option Link) (insn : Insn) (outcome : Outcome) → IsGoodOutcome object outcome
    → IfOk (insn_form object place link insn outcome) (IsGoodForm object)
unfolding insn_form
insn-good object place link (Jal rd distance) outcome h = jal-good object place (Jal rd distance) rd (jump_target object place link distance) (jump_target-good object place link distance)
insn-good object place link (Jalr rd base distance) outcome h = jalr-good object place (Jalr rd base distance) rd base distance outcome h
insn-good object place link Ebreak outcome h = tt
insn-good object place link insn outcome h = going-good object place link insn (branch_distance insn)

pub form-good : (object : Object) (place : Place) (link : Option Link) (insn : Option Insn) (outcome : Outcome) → IsGoodOutcome object outcome
    → IfOk (form_of object place link insn outcome) (IsGoodForm object)
form-good object place (Some (link.Pair symbol addend)) insn outcome h =
    pair-good object place (register_of (word_of object (after place 4))) (symbol_target object symbol addend) (symbol_target-good object symbol addend)
form-good object place link None outcome h = tt
form-good object place link (Some insn) outcome h = insn-good object place link insn outcome h

-- each place of what stands at a place is good
pub at-good : (object : Object) (place : Place) (result : Result Form SiteFault) → IsAt object place result → IfOk result (IsGoodForm object)
at-good object place result at =
    subst (λ (r : Result Form SiteFault). IfOk r (IsGoodForm object)) (sym at.does)
    (form-good object place (link_at object place) at.insn (outcome_of object at.entries) (outcome-good object at.entries))
