-- What forms name is the object's.
use Rattle.std.proofs.Common.{ℕ, ℤ, pos, ◌<◌, ◌==◌, ◌&&◌, ◌||◌, inl, inr, Option, Some, None, Result, IfSome, IfOk, get_or, length, sym, subst, arith}
use Rattle.std.specs.Ordering.{int_eq}
use Rattle.rt_elf.specs.Parts.{Parts as Object}
use Rattle.rt_elf.specs.Object.{IsLinkable}
use Rattle.rt_elf.specs.Symbols.{zero_symbol}
use Rattle.rt_elf.proofs.Booleans.{eqb-is}
use Rattle.rt_insn.specs.declared.insn.Insn.{Insn}
use Rattle.rt_insn.specs.declared.insn.Insn.TheVariants.{Jal, Jalr, Ebreak}
use Rattle.rt_insn.specs.Range.{HasRange}
use Rattle.rt_insn.proofs.Ranges.{code-range}
use Rattle.rt_link.specs.declared.link.Link.{Link}
use Rattle.rt_link.specs.declared.link.Link.TheVariants as link
use Rattle.rt_link.specs.declared.place.Place.{Place}
use Rattle.rt_link.specs.Effects.{link_at, moved}
use Rattle.rt_link.specs.Laws.{IsAboutSymbol}
use Rattle.rt_link.proofs.Linked.{link_about}
use Rattle.rt_control.specs.declared.fault.SiteFault.{SiteFault}
use Rattle.rt_control.specs.declared.form.Form.{Form}
use Rattle.rt_control.specs.declared.form.Target.{Target}
use Rattle.rt_control.specs.declared.form.Target.TheVariants as target
use Rattle.rt_control.specs.declared.outcome.Outcome.{Outcome}
use Rattle.rt_control.specs.declared.outcome.Outcome.TheVariants.{NoTable, BadTarget, Targets}
use Rattle.rt_control.specs.Control.{pair_form, jal_form, table_form, jalr_form, step_form, branch_form, branch_distance, going_form, insn_form}
use Rattle.rt_control.specs.Laws.{IsKnownTarget, IsKnownForm}
use Rattle.rt_control.specs.Places.{is_good, good_place, after, code_target, symbol_target, jump_target, word_of}
use Rattle.rt_control.specs.Sites.{form_of, register_of, IsInsnOf, IsAt}
use Rattle.rt_control.specs.Tables.{outcome_of}
use Rattle.std.proofs.lemmas.Bool.{cases_Bool}

-- What targets name.

code_target-known : (object : Object) (place : Place) → IfSome (code_target object place) (IsKnownTarget object)
code_target-known object place = elim (cases_Bool (is_good object place)) [ inl e ↦ rw e tt | inr e ↦ rw e tt ]

symbol_target-known : (object : Object) (index : ℕ) (addend : ℤ) → index < length object.symbols → IfSome (symbol_target object index addend) (IsKnownTarget object)
unfolding symbol_target
symbol_target-known object index addend h = let symbol = get_or object.symbols index zero_symbol in
    elim (cases_Bool (symbol.section == 0)) [
      | inl e ↦ rw e (record { is_symbol = h; is_undefined = eqb-is _ _ e })
      | inr e ↦ elim (cases_Bool (symbol.section == 0xFFF1 || symbol.section == 0xFFF2)) [
        | inl f ↦ rw (e, f) tt
        | inr f ↦ rw (e, f) (code_target-known object (moved symbol.section symbol.value addend))
      ]
    ]

jump_target-known : (object : Object) (place : Place) (link : Option Link) (distance : ℤ) → IsAboutSymbol object link → IfSome (jump_target object place link distance) (IsKnownTarget object)
jump_target-known object place (Some (link.Target symbol addend)) distance h = symbol_target-known object symbol addend h
jump_target-known object place other distance h = code_target-known object (moved place.section place.offset distance)

-- Forms.

pair-known : (object : Object) (place : Place) (link : ℕ) (leads : Option Target) → link < 32 → IfSome leads (IsKnownTarget object) → IfOk (pair_form object place link leads) (IsKnownForm object)
pair-known object place link None r h = tt
pair-known object place link (Some (target.Code p)) r h = elim (cases_Bool (link == 0)) [ inl e ↦ rw e tt | inr e ↦ rw e (tt, r) ]
pair-known object place link (Some (target.Outside s)) r h = elim (cases_Bool (link == 0)) [ inl e ↦ rw e h | inr e ↦ rw e (h, r) ]

jal-known : (object : Object) (place : Place) (insn : Insn) (link : ℕ) (leads : Option Target) → HasRange insn → link < 32 → IfSome leads (IsKnownTarget object)
    → IfOk (jal_form object place insn link leads) (IsKnownForm object)
jal-known object place insn link None range r h = tt
jal-known object place insn link (Some (target.Code p)) range r h = elim (cases_Bool (link == 0)) [ inl e ↦ rw e (range, tt) | inr e ↦ rw e (tt, r) ]
jal-known object place insn link (Some (target.Outside s)) range r h = elim (cases_Bool (link == 0)) [ inl e ↦ rw e (range, h) | inr e ↦ rw e (h, r) ]

table-known : (object : Object) (insn : Insn) (outcome : Outcome) → HasRange insn → IfOk (table_form insn outcome) (IsKnownForm object)
table-known object insn NoTable range = tt
table-known object insn BadTarget range = tt
table-known object insn (Targets places) range = (range, tt)

jalr-known : (object : Object) (place : Place) (insn : Insn) (link base : ℕ) (distance : ℤ) (outcome : Outcome) → HasRange insn → link < 32 → base < 32
    → IfOk (jalr_form object place insn link base distance outcome) (IsKnownForm object)
jalr-known object place insn link base distance outcome range r b = elim (cases_Bool (link == 0)) [
  | inr e ↦ rw e (b, r)
  | inl e ↦ elim (cases_Bool (base == 1 && int_eq distance (pos 0))) [ inl f ↦ rw (e, f) tt | inr f ↦ rw (e, f) (table-known object insn outcome range) ]
]

step-known : (object : Object) (insn : Insn) (continuation : Option Place) → HasRange insn → IfOk (step_form insn continuation) (IsKnownForm object)
step-known object insn None range = tt
step-known object insn (Some place) range = (range, tt)

branch-known : (object : Object) (insn : Insn) (leads : Option Target) (continuation : Option Place) → HasRange insn → IfOk (branch_form insn leads continuation) (IsKnownForm object)
branch-known object insn None None range = tt
branch-known object insn None (Some after) range = tt
branch-known object insn (Some (target.Outside s)) None range = tt
branch-known object insn (Some (target.Outside s)) (Some after) range = tt
branch-known object insn (Some (target.Code p)) None range = tt
branch-known object insn (Some (target.Code p)) (Some after) range = (range, tt)

going-known : (object : Object) (place : Place) (link : Option Link) (insn : Insn) (distance : Option ℤ) → HasRange insn → IfOk (going_form object place link insn distance) (IsKnownForm object)
going-known object place link insn None range = step-known object insn (good_place object (after place 4)) range
going-known object place link insn (Some distance) range = branch-known object insn (jump_target object place link distance) (good_place object (after place 4)) range

insn-known : (object : Object) (place : Place) (link : Option Link) (insn : Insn) (outcome : Outcome) → IsAboutSymbol object link → HasRange insn
    → IfOk (insn_form object place link insn outcome) (IsKnownForm object)
unfolding insn_form
insn-known object place link (Jal rd distance) outcome about range = jal-known object place (Jal rd distance) rd (jump_target object place link distance) range range.0 (jump_target-known object place link distance about)
insn-known object place link (Jalr rd base distance) outcome about range = jalr-known object place (Jalr rd base distance) rd base distance outcome range range.0 range.1
insn-known object place link Ebreak outcome about range = tt
insn-known object place link insn outcome about range = going-known object place link insn (branch_distance insn) range

register-bound : (word : ℕ) → register_of word < 32
register-bound word = omega arith

pub form-known : (object : Object) (place : Place) (link : Option Link) (insn : Option Insn) (outcome : Outcome) → IsAboutSymbol object link → IsInsnOf (word_of object place) insn
    → IfOk (form_of object place link insn outcome) (IsKnownForm object)
form-known object place (Some (link.Pair symbol addend)) insn outcome about is = let word = word_of object (after place 4) in
    pair-known object place (register_of word) (symbol_target object symbol addend) (register-bound word) (symbol_target-known object symbol addend about)
form-known object place link None outcome about is = tt
form-known object place link (Some insn) outcome about is = insn-known object place link insn outcome about (code-range (word_of object place) insn is)

-- what stands at a place names what is the object's
pub at-known : (object : Object) (place : Place) (result : Result Form SiteFault) → IsLinkable object → IsAt object place result → IfOk result (IsKnownForm object)
at-known object place result linkable at =
    subst (λ (r : Result Form SiteFault). IfOk r (IsKnownForm object)) (sym at.does)
    (form-known object place (link_at object place) at.insn (outcome_of object at.entries) (link_about object place linkable) at.stands)
