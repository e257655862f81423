-- Steps that stay in a body.
use Rattle.std.proofs.Common.{◌≡◌, ◌↔◌, ℕ, inl, inr, Bool, true, false, not, Ok, Err, List, [], ◌∷◌, Contains, filter, refl, sym, ap, subst, ◌∙◌}
use Rattle.std.proofs.lemmas.List.Folds.{list_any_at}
use Rattle.rt_elf.specs.Parts.{Parts as Object}
use Rattle.rt_link.specs.Effects.{is_place}
use Rattle.rt_link.specs.declared.place.Place.{Place}
use Rattle.rt_control.specs.declared.form.Form.{Form}
use Rattle.rt_proc.specs.Ends.{Look, IsLookAt}
use Rattle.rt_proc.specs.Bodies.{StepsTo}
use Rattle.rt_proc.specs.Entries.{IsEntry}
use Rattle.rt_proc.specs.Inside.Looks.{stepped_by}
use Rattle.rt_proc.specs.Sites.{is_entry, is_other}
use Rattle.rt_proc.specs.Steps.{steps}
use Rattle.rt_proc.proofs.Forms.{one_form, no_form}
use Rattle.rt_base.proofs.Lists.{filter-has, filter-source, Contains-none, Contains-here, Contains-there, Contains-cons_cases}
use Rattle.std.proofs.lemmas.Bool.{cases_Bool}
use Rattle.rt_link.proofs.Held.{is_place-same}
use Rattle.rt_link.proofs.Naming.{is_place-self}

-- the test of entries says which places are among them
pub is_entry-has : (entries : List Place) (p : Place) → Contains entries p → is_entry entries p ≡ true
is_entry-has entries p h = list_any_at (λ q. is_place q p) entries h.0 p h.1 (rw h.2 (is_place-self p))

pub is_entry-source : (entries : List Place) (p : Place) → is_entry entries p ≡ true → Contains entries p
is_entry-source [] p e = cc
is_entry-source (q ∷ qs) p e = elim (cases_Bool (is_place q p)) [
  | inl same ↦ subst (Contains (q ∷ qs)) (is_place-same q p same) (Contains-here q qs)
  | inr apart ↦ Contains-there q qs p (is_entry-source qs p (rw apart at e))
]

-- a place stays in the body of `own` exactly if it isn't the entry of another procedure
module _ (object : Object) (ends : List ℕ) (entries : List Place) (own : Place) (same : (p : Place) → Contains entries p ↔ IsEntry object ends p) where
  pub stays : (to : Place) → not (is_other entries own to) ≡ true → IsEntry object ends to → to ≡ own
  stays to e entry = elim (cases_Bool (is_place to own)) [
    | inl one ↦ is_place-same to own one
    | inr apart ↦ let f : false ≡ true = rw (is_entry-has entries to ((same to).1 entry), apart) at e in cc
  ]

  pub stays-test : (to : Place) → (IsEntry object ends to → to ≡ own) → not (is_other entries own to) ≡ true
  stays-test to h = elim (cases_Bool (is_entry entries to)) [
    | inr out ↦ rw out refl
    | inl entry ↦
        let one : is_place to own ≡ true = rw (h ((same to).0 (is_entry-source entries to entry))) (is_place-self own) in
        rw (entry, one) refl
  ]

  pub stepped : (place : Place) (look : Look) → IsLookAt object ends place look → (to : Place) → Contains (stepped_by entries own look) to ↔ StepsTo object ends own place to
  stepped place (Ok form) is_at to = (
    (λ h.
        let kept = filter-source (λ p. not (is_other entries own p)) (steps form) to h in
        record { form = form; is_at = is_at; steps = kept.0; stays = stays to kept.1 }
        ),
    λ h. filter-has (λ p. not (is_other entries own p)) (steps form) to
        (subst (λ (f : Form). Contains (steps f) to) (one_form object ends place form h.form is_at h.is_at) h.steps) (stays-test to h.stays),
  )
  stepped place (Err fault) is_at to = ((λ h. absurd (Contains-none to h)), λ h. absurd (no_form object ends place fault h.form is_at h.is_at))

-- where a body starts
pub one-place : (own p : Place) → Contains (own ∷ []) p ↔ (p ≡ own)
one-place own p = (
  (λ h. elim (Contains-cons_cases own [] p h) [ inl e ↦ sym e | inr none ↦ absurd (Contains-none p none) ]),
  λ e. subst (Contains (own ∷ [])) (sym e) (Contains-here own []),
)
