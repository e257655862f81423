-- Work lists that follow walks: what was found, in order, and how many of it were followed.
use Rattle.std.proofs.Common.{◌≡◌, ℕ, ◌+◌, ◌<◌, ◌≤◌, ◌⊎◌, ◌↔◌, inl, inr, List, [], ◌∷◌, ◌++◌, All, Contains, length, get_or, slice_get, Some, take, sym, ap, subst, ◌∙◌, arith}
use Rattle.std.proofs.lemmas.Option.{slice_get_within, get_or_from_slice_get}
use Rattle.std.proofs.lemmas.List.{take_more, take_all, take-append-le}
use Rattle.std.proofs.lemmas.List.Elements.{Contains-push_cases, All-contains}
use Rattle.rt_control.specs.Tables.{with_places}
use Rattle.rt_link.specs.declared.place.Place.{Place}
use Rattle.rt_proc.specs.Walks.{Walk}
use Rattle.rt_proc.proofs.Inserted.{inserted-front, inserted-source, inserted-stays, inserted-has}
use Rattle.rt_base.proofs.Lists.{Contains-none}

-- all that was found is walked to and good, all starts are among it, and all that the first i of it lead to
pub record IsWalking (Starts : Place → Type 0) (Leads : Place → Place → Type 0) (Good : Place → Type 0) (found : List Place) (i : ℕ) : Type 0 where
  pub walked : (p : Place) → Contains found p → Walk Starts Leads p
  pub good : (p : Place) → Contains found p → Good p
  pub starts : (p : Place) → Starts p → Contains found p
  pub closed : (p q : Place) → Contains (take i found) p → Leads p q → Contains found q

-- the places that were followed, with the next
pub followed-next : (found led found' : List Place) (i : ℕ) (place : Place) → slice_get found i ≡ Some place → found' ≡ with_places found led → take (i + 1) found' ≡ take i found ++ place ∷ []
followed-next found led found' i place at is =
    let within : i < length found = slice_get_within found i place at in
    let here : get_or found i place ≡ place = get_or_from_slice_get found i place place at in
    let front = inserted-front led found in
    ap (take (i + 1)) (is ∙ front.1) ∙ take-append-le (i + 1) found front.0 (omega arith) ∙ take_more found i place within ∙ ap (λ (p : Place). take i found ++ p ∷ []) here

module _ (Starts : Place → Type 0) (Leads : Place → Place → Type 0) (Good : Place → Type 0) where
  pub begins : (found : List Place) → ((p : Place) → Contains found p ↔ Starts p) → ((p : Place) → Starts p → Good p) → IsWalking Starts Leads Good found 0
  begins found same good = record {
    walked = λ p h. Walk.start ((same p).0 h);
    good = λ p h. good p ((same p).0 h);
    starts = λ p h. (same p).1 h;
    closed = λ p q h leads. absurd (Contains-none p h);
  }

  -- the next one is followed
  pub goes_on : (found led found' : List Place) (i : ℕ) (place : Place) → slice_get found i ≡ Some place → found' ≡ with_places found led
      → ((q : Place) → Contains led q ↔ Leads place q) → All Good led → IsWalking Starts Leads Good found i → IsWalking Starts Leads Good found' (i + 1)
  goes_on found led found' i place at is leads good walking =
      let within : i < length found = slice_get_within found i place at in
      let here : get_or found i place ≡ place = get_or_from_slice_get found i place place at in
      let first : take (i + 1) found' ≡ take i found ++ place ∷ [] = followed-next found led found' i place at is in
      let stays : (q : Place) → Contains found q → Contains found' q = λ q h. subst (λ (places : List Place). Contains places q) (sym is) (inserted-stays led found q h) in
      let came : (q : Place) → Contains found' q → Contains found q ⊎ Contains led q = λ q h. inserted-source led found q (subst (λ (places : List Place). Contains places q) is h) in
      let has : (q : Place) → Leads place q → Contains found' q = λ q l. subst (λ (places : List Place). Contains places q) (sym is) (inserted-has led found q ((leads q).1 l)) in
      let last : Contains found place = (i, within, here) in
      record {
        walked = λ q h. elim (came q h) [ inl old ↦ walking.walked q old | inr new ↦ Walk.step (walking.walked place last) ((leads q).0 new) ];
        good = λ q h. elim (came q h) [ inl old ↦ walking.good q old | inr new ↦ All-contains Good led q good new ];
        starts = λ q h. stays q (walking.starts q h);
        closed = λ p q h l. elim (Contains-push_cases (take i found) place p (subst (λ (places : List Place). Contains places p) first h)) [
          | inl old ↦ stays q (walking.closed p q old l)
          | inr e ↦ has q (subst (λ (x : Place). Leads x q) (sym e) l)
        ];
      }

  -- the next one is walked to
  pub next-walked : (found : List Place) (i : ℕ) (place : Place) → slice_get found i ≡ Some place → IsWalking Starts Leads Good found i → Walk Starts Leads place
  next-walked found i place at walking = walking.walked place (i, slice_get_within found i place at, get_or_from_slice_get found i place place at)

  -- the next one is good
  pub next-good : (found : List Place) (i : ℕ) (place : Place) → slice_get found i ≡ Some place → IsWalking Starts Leads Good found i → Good place
  next-good found i place at walking = walking.good place (i, slice_get_within found i place at, get_or_from_slice_get found i place place at)

  -- all were followed
  module _ (found : List Place) (i : ℕ) (whole : length found ≤ i) (walking : IsWalking Starts Leads Good found i) where
    pub all : (p : Place) → Walk Starts Leads p → Contains found p
    all p (Walk.start s) = walking.starts p s
    all p (Walk.step {x} w l) = walking.closed x p (subst (λ (places : List Place). Contains places x) (sym (take_all i found whole)) (all x w)) l

    pub ends : (p : Place) → Contains found p ↔ Walk Starts Leads p
    ends p = (walking.walked p, all p)
