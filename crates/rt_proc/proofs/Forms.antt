-- What the form of a site says of its steps and calls.
use Rattle.std.proofs.Common.{◌≡◌, ◌↔◌, ℕ, List, inl, inr, Some, None, Ok, Err, [], ◌∷◌, ◌++◌, All, Contains, subst}
use Rattle.std.proofs.lemmas.List.Elements.{All-nil, All-cons, All-append}
use Rattle.rt_elf.specs.Parts.{Parts as Object}
use Rattle.rt_link.specs.Effects.{is_place}
use Rattle.rt_link.specs.declared.place.Place.{Place}
use Rattle.rt_control.specs.declared.fault.SiteFault.{SiteFault}
use Rattle.rt_control.specs.declared.form.Called.{Called}
use Rattle.rt_control.specs.declared.form.Called.TheVariants as called
use Rattle.rt_control.specs.declared.form.Form.{Form}
use Rattle.rt_control.specs.declared.form.Form.TheVariants.{Plain, Call, Tail, Return, Stop}
use Rattle.rt_control.specs.declared.form.Target.{Target}
use Rattle.rt_control.specs.declared.form.Target.TheVariants as target
use Rattle.rt_control.specs.declared.form.Way.{Way}
use Rattle.rt_control.specs.declared.form.Way.TheVariants.{On, Jump, Branch, Leave, Table}
use Rattle.rt_control.specs.Laws.{IsGood, IsGoodWay, IsGoodCalled, IsGoodTarget, IsGoodForm}
use Rattle.rt_proc.specs.Ends.{Look, IsLookAt}
use Rattle.rt_proc.specs.Entries.{LeadsTo, Calls}
use Rattle.rt_proc.specs.Inside.Looks.{led_by, called_by}
use Rattle.rt_proc.specs.Steps.{way_steps, steps, called_code, target_code, callees}
use Rattle.rt_proc.proofs.Ended.{same_look, look-good}
use Rattle.rt_base.proofs.Lists.{Contains-none}
use Rattle.std.proofs.lemmas.Bool.{cases_Bool}

-- the places of a form are good

one : (object : Object) (p : Place) → IsGood object p → All (IsGood object) (p ∷ [])
one object p h = All-cons (IsGood object) p [] h (All-nil (IsGood object))

good-way : (object : Object) (way : Way) → IsGoodWay object way → All (IsGood object) (way_steps way)
good-way object (On after) h = one object after h
good-way object (Jump place) h = one object place h
good-way object (Branch place after) h = elim (cases_Bool (is_place place after)) [
  | inl same ↦ rw same (one object place h.0)
  | inr apart ↦ rw apart (All-cons (IsGood object) place (after ∷ []) h.0 (one object after h.1))
]
good-way object (Leave symbol) h = All-nil (IsGood object)
good-way object (Table places) h = h

pub good-steps : (object : Object) (form : Form) → IsGoodForm object form → All (IsGood object) (steps form)
good-steps object (Plain insn way) h = good-way object way h
good-steps object (Call callee link (Some after)) h = one object after h.1
good-steps object (Call callee link None) h = All-nil (IsGood object)
good-steps object (Tail leads) h = All-nil (IsGood object)
good-steps object Return h = All-nil (IsGood object)
good-steps object Stop h = All-nil (IsGood object)

good-called : (object : Object) (callee : Called) → IsGoodCalled object callee → All (IsGood object) (called_code callee)
good-called object (called.Code place) h = one object place h
good-called object (called.Outside symbol) h = All-nil (IsGood object)
good-called object (called.Register register) h = All-nil (IsGood object)

good-target : (object : Object) (leads : Target) → IsGoodTarget object leads → All (IsGood object) (target_code leads)
good-target object (target.Code place) h = one object place h
good-target object (target.Outside symbol) h = All-nil (IsGood object)

pub good-callees : (object : Object) (form : Form) → IsGoodForm object form → All (IsGood object) (callees form)
good-callees object (Plain insn way) h = All-nil (IsGood object)
good-callees object (Call callee link after) h = good-called object callee h.0
good-callees object (Tail leads) h = good-target object leads h
good-callees object Return h = All-nil (IsGood object)
good-callees object Stop h = All-nil (IsGood object)

-- what the look at a place says

pub one_form : (object : Object) (ends : List ℕ) (place : Place) (form other : Form) → IsLookAt object ends place (Ok form) → IsLookAt object ends place (Ok other) → other ≡ form
one_form object ends place form other is_at h = let e : ◌≡◌ {A = Look} (Ok other) (Ok form) = same_look object ends place (Ok other) (Ok form) h is_at in cc

pub no_form : (object : Object) (ends : List ℕ) (place : Place) (fault : SiteFault) (form : Form) → IsLookAt object ends place (Err fault) → IsLookAt object ends place (Ok form) → ⊥
no_form object ends place fault form is_at h = let e : ◌≡◌ {A = Look} (Ok form) (Err fault) = same_look object ends place (Ok form) (Err fault) h is_at in cc

pub leads : (object : Object) (ends : List ℕ) (place : Place) (look : Look) → IsLookAt object ends place look → (to : Place) → Contains (led_by look) to ↔ LeadsTo object ends place to
leads object ends place (Ok form) is_at to = (
  (λ h. record { form = form; is_at = is_at; leads = h }),
  λ h. subst (λ (f : Form). Contains (steps f ++ callees f) to) (one_form object ends place form h.form is_at h.is_at) h.leads,
)
leads object ends place (Err fault) is_at to = ((λ h. absurd (Contains-none to h)), λ h. absurd (no_form object ends place fault h.form is_at h.is_at))

pub good-led : (object : Object) (ends : List ℕ) (place : Place) (look : Look) → IsLookAt object ends place look → All (IsGood object) (led_by look)
good-led object ends place (Ok form) is_at =
    let good : IsGoodForm object form = look-good object ends place form is_at in
    All-append (IsGood object) (steps form) (callees form) (good-steps object form good) (good-callees object form good)
good-led object ends place (Err fault) is_at = All-nil (IsGood object)

pub calls : (object : Object) (ends : List ℕ) (place : Place) (look : Look) → IsLookAt object ends place look → (to : Place) → Contains (called_by look) to ↔ Calls object ends place to
calls object ends place (Ok form) is_at to = (
  (λ h. record { form = form; is_at = is_at; calls = h }),
  λ h. subst (λ (f : Form). Contains (callees f) to) (one_form object ends place form h.form is_at h.is_at) h.calls,
)
calls object ends place (Err fault) is_at to = ((λ h. absurd (Contains-none to h)), λ h. absurd (no_form object ends place fault h.form is_at h.is_at))
