-- The first fault of a list in order.
use Rattle.std.proofs.Common.{◌≡◌, ℕ, ◌+◌, ◌<◌, ◌≤◌, ◌⊎◌, ◌↔◌, inl, inr, Ok, Err, List, [], ◌∷◌, ◌++◌, All, Contains, length, get_or, take, refl, sym, ap, subst, ◌∙◌, arith}
use Rattle.std.proofs.lemmas.Bool.{cases_lt, cases_eq}
use Rattle.std.proofs.lemmas.List.{take_more, take_all, length-take, get_or-take, get_or_default, map-append}
use Rattle.std.proofs.lemmas.List.Elements.{All-nil, All-push, Contains-get_or, Contains-push_cases}
use Rattle.rt_elf.specs.Parts.{Parts as Object}
use Rattle.rt_link.specs.declared.place.Place.{Place}
use Rattle.rt_control.specs.declared.fault.SiteFault.{SiteFault}
use Rattle.rt_control.specs.declared.form.Form.{Form}
use Rattle.rt_control.specs.Control.{number_of}
use Rattle.rt_proc.specs.Ends.{IsLookAt}
use Rattle.rt_proc.specs.declared.site.Site.{Site}
use Rattle.rt_proc.specs.Bodies.{IsInBody}
use Rattle.rt_proc.specs.Faults.{IsSound, IsFirstIn}
use Rattle.rt_proc.specs.Order.{IsBelow, AreAscending}
use Rattle.rt_proc.specs.Procs.{places_of, IsSite}
use Rattle.rt_proc.specs.Sites.{site_of}
use Rattle.rt_proc.proofs.Forms.{no_form}
use Rattle.rt_proc.proofs.PlaceLaws.{IsBelow-irreflexive}
use Rattle.rt_base.proofs.Lists.{Contains-none}

pub IsBelow-asymmetric : (p q : Place) → IsBelow p q → IsBelow q p → ⊥
IsBelow-asymmetric p q (inl h) (inl k) = absurd (omega arith)
IsBelow-asymmetric p q (inl h) (inr k) = let e = k.0 in absurd (omega arith)
IsBelow-asymmetric p q (inr h) (inl k) = let e = h.0 in absurd (omega arith)
IsBelow-asymmetric p q (inr h) (inr k) = let a = h.1 in let b = k.1 in absurd (omega arith)

taken : (ps : List Place) (i j : ℕ) (d : Place) → j < i → j < length ps → Contains (take i ps) (get_or ps j d)
taken ps i j d less within =
    let there : j < length (take i ps) = omega (arith, length-take i ps) in
    (j, there, get_or-take i ps j (get_or ps j d) less ∙ get_or_default ps j (get_or ps j d) d within)

-- what comes before the place of an index in a ascending list stands before it
pub earlier : (ps : List Place) (i : ℕ) (d q : Place) → AreAscending ps → i < length ps → Contains ps q → IsBelow q (get_or ps i d) → Contains (take i ps) q
earlier ps i d q ascending within h below = elim (cases_lt h.0 i) [
  | inl less ↦ subst (Contains (take i ps)) h.2 (taken ps i h.0 q less h.1)
  | inr more ↦ absurd (later (cases_eq h.0 i) more)
]
  where
    later : (h.0 ≡ i) ⊎ (h.0 ≡ i → ⊥) → i ≤ h.0 → ⊥
    later (inl e) more =
        let here : get_or ps i d ≡ q = get_or_default ps i d q within ∙ ap (λ (k : ℕ). get_or ps k q) (sym e) ∙ h.2 in
        IsBelow-irreflexive q (subst (IsBelow q) here below)
    later (inr ne) more =
        let there : get_or ps h.0 d ≡ q = get_or_default ps h.0 d q h.1 ∙ h.2 in
        let after : IsBelow (get_or ps i d) q = subst (IsBelow (get_or ps i d)) there (ascending i h.0 d (omega arith) h.1) in
        IsBelow-asymmetric q (get_or ps i d) below after

-- the site at a place has no fault
abbrev pub IsSoundAt : Object → List ℕ → Place → Type 0
IsSoundAt object ends place = (fault : SiteFault) → IsLookAt object ends place (Err fault) → ⊥

pub sound-at : (object : Object) (ends : List ℕ) (place : Place) (form : Form) → IsLookAt object ends place (Ok form) → IsSoundAt object ends place
sound-at object ends place form is_at fault h = no_form object ends place fault form h is_at

-- the first i places have no fault
abbrev pub AreSoundAt : Object → List ℕ → List Place → Type 0
AreSoundAt object ends places = (p : Place) → Contains places p → IsSoundAt object ends p

pub sound-more : (object : Object) (ends : List ℕ) (places : List Place) (i : ℕ) (d : Place) → i < length places → AreSoundAt object ends (take i places) → IsSoundAt object ends (get_or places i d) → AreSoundAt object ends (take (i + 1) places)
sound-more object ends places i d within old new = λ p h. elim (Contains-push_cases (take i places) (get_or places i d) p (subst (λ (ps : List Place). Contains ps p) (take_more places i d within) h)) [
  | inl before ↦ old p before
  | inr e ↦ subst (IsSoundAt object ends) e new
]

module _ (object : Object) (ends : List ℕ) (own : Place) (body : List Place) (ascending : AreAscending body) (is_body : (p : Place) → Contains body p ↔ IsInBody object ends own p) where
  pub first-fault : (i : ℕ) (d : Place) (fault : SiteFault) (number : ℕ) → number ≡ number_of fault → i < length body → AreSoundAt object ends (take i body) → IsLookAt object ends (get_or body i d) (Err fault) → IsFirstIn object ends own number (get_or body i d)
  first-fault i d fault number is within sound is_at = record {
    has_fault = record { in_body = (is_body (get_or body i d)).0 (Contains-get_or body i d within); fault = fault; is_at = is_at; is_number = is };
    is_first = λ other n below h. sound other (earlier body i d other ascending within ((is_body other).1 h.in_body) below) h.fault h.is_at;
  }

  pub no-fault : (i : ℕ) → length body ≤ i → AreSoundAt object ends (take i body) → IsSound object ends own
  no-fault i whole sound = λ number place h.
      sound place (subst (λ (ps : List Place). Contains ps place) (sym (take_all i body whole)) ((is_body place).1 h.in_body)) h.fault h.is_at

-- the sites of the first places of a body
pub record AreSites (object : Object) (ends : List ℕ) (entries : List Place) (own : Place) (body : List Place) (i : ℕ) (sites : List Site) : Type 0 where
  pub places : places_of sites ≡ take i body
  pub each : All (IsSite object ends entries own) sites
  pub sound : AreSoundAt object ends (take i body)

module _ (object : Object) (ends : List ℕ) (entries : List Place) (own : Place) (body : List Place) where
  pub sites-none : AreSites object ends entries own body 0 []
  sites-none = record {
    places = refl;
    each = All-nil (IsSite object ends entries own);
    sound = λ p h. absurd (Contains-none p h);
  }

  pub sites-more : (i : ℕ) (d : Place) (sites new : List Site) (site : Site) (form : Form) → i < length body → new ≡ sites ++ site ∷ []
      → site ≡ site_of entries own (get_or body i d) form → IsLookAt object ends (get_or body i d) (Ok form)
      → AreSites object ends entries own body i sites → AreSites object ends entries own body (i + 1) new
  sites-more i d sites new site form within push made is_at old =
      let place : Place = get_or body i d in
      let one : IsSite object ends entries own (site_of entries own place form) = record { form = form; is_at = is_at; is_site = refl } in
      record {
        places =
            ap places_of push ∙ map-append (λ (s : Site). s.place) sites (site ∷ [])
            ∙ (λ j. old.places j ++ (made j).place ∷ []) ∙ sym (take_more body i d within);
        each = subst (All (IsSite object ends entries own)) (sym push) (All-push (IsSite object ends entries own) sites site old.each (subst (IsSite object ends entries own) (sym made) one));
        sound = sound-more object ends body i d within old.sound (sound-at object ends place form is_at);
      }
