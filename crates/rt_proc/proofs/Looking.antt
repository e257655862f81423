-- Looks that are kept.
use Rattle.std.proofs.Common.{◌≡◌, ℕ, ◌+◌, ◌≤◌, inl, inr, true, Option, Some, None, IsSome, List, [], Contains, length, slice_get, take, if◌then◌else◌, refl, sym, subst, ◌∙◌}
use Rattle.std.proofs.lemmas.List.{take_all}
use Rattle.std.proofs.lemmas.List.Elements.{Contains-push_cases}
use Rattle.rt_control.specs.Tables.{with_places}
use Rattle.rt_elf.specs.Parts.{Parts as Object}
use Rattle.rt_link.specs.Effects.{is_place}
use Rattle.rt_link.specs.declared.place.Place.{Place}
use Rattle.rt_proc.specs.Ends.{Look, IsLookAt}
use Rattle.rt_proc.specs.declared.look.Looks.{Looks}
use Rattle.rt_proc.specs.Entries.{IsReached}
use Rattle.rt_proc.specs.Inside.Looks.{look_in, AreLooksOf}
use Rattle.rt_proc.proofs.Walking.{followed-next}
use Rattle.rt_base.proofs.Lists.{Contains-none}
use Rattle.std.proofs.lemmas.Bool.{cases_Bool}
use Rattle.rt_link.proofs.Held.{is_place-same}
use Rattle.rt_link.proofs.Naming.{is_place-self}

-- the looks that are kept are those at places of the object, and one is kept for each of some places
pub record AreLooksAt (object : Object) (ends : List ℕ) (looks : Looks) (places : List Place) : Type 0 where
  pub sound : (place : Place) (look : Look) → look_in looks place ≡ Some look → IsLookAt object ends place look
  pub complete : (place : Place) → Contains places place → IsSome (look_in looks place)

pub no-looks : (object : Object) (ends : List ℕ) (looks : Looks) → ((place : Place) → look_in looks place ≡ None) → AreLooksAt object ends looks []
no-looks object ends looks none = record {
  sound = λ place look e. let no : None ≡ Some look = sym (none place) ∙ e in cc;
  complete = λ place h. absurd (Contains-none place h);
}

-- what is kept for a place after one more
kept-sound : (object : Object) (ends : List ℕ) (place q : Place) (look found : Look) (old : Option Look) → IsLookAt object ends place look → (old ≡ Some found → IsLookAt object ends q found)
    → (if is_place place q then Some look else old) ≡ Some found → IsLookAt object ends q found
kept-sound object ends place q look found old is_at before e = elim (cases_Bool (is_place place q)) [
  | inl same ↦
      let one : Some look ≡ Some found = rw same at e in
      let looks : look ≡ found = cc in
      subst (λ (p : Place). IsLookAt object ends p found) (is_place-same place q same) (subst (IsLookAt object ends place) looks is_at)
  | inr apart ↦ before (rw apart at e)
]

kept-some : (place q : Place) (look : Look) (old : Option Look) → IsSome old → IsSome (if is_place place q then Some look else old)
kept-some place q look old h = elim (cases_Bool (is_place place q)) [ inl same ↦ rw same refl | inr apart ↦ rw apart h ]

kept-new : (place q : Place) (look : Look) (old : Option Look) → place ≡ q → IsSome (if is_place place q then Some look else old)
kept-new place q look old e = rw (subst (λ (p : Place). is_place place p ≡ true) e (is_place-self place)) refl

-- one more look, at the next of the places that are followed
pub looks-more : (object : Object) (ends : List ℕ) (looks looks' : Looks) (found led found' : List Place) (i : ℕ) (place : Place) (look : Look) → slice_get found i ≡ Some place → found' ≡ with_places found led
    → IsLookAt object ends place look → ((q : Place) → look_in looks' q ≡ (if is_place place q then Some look else look_in looks q))
    → AreLooksAt object ends looks (take i found) → AreLooksAt object ends looks' (take (i + 1) found')
looks-more object ends looks looks' found led found' i place look at is is_at kept old = record {
  sound = λ q x e. kept-sound object ends place q look x (look_in looks q) is_at (old.sound q x) (sym (kept q) ∙ e);
  complete = λ q h. subst (λ (o : Option Look). IsSome o) (sym (kept q))
      (elim (Contains-push_cases (take i found) place q (subst (λ (places : List Place). Contains places q) (followed-next found led found' i place at is) h)) [
        | inl before ↦ kept-some place q look (look_in looks q) (old.complete q before)
        | inr e ↦ kept-new place q look (look_in looks q) e
      ]);
}

-- looks at all that is reached
pub all-looks : (object : Object) (ends : List ℕ) (looks : Looks) (found : List Place) (i : ℕ) → length found ≤ i → ((p : Place) → IsReached object ends p → Contains found p) → AreLooksAt object ends looks (take i found) → AreLooksOf object ends looks
all-looks object ends looks found i whole all kept = record {
  sound = kept.sound;
  complete = λ p reached. kept.complete p (subst (λ (places : List Place). Contains places p) (sym (take_all i found whole)) (all p reached));
}
