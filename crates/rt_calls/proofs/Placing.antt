-- Places given to members of groups, group by group.
use Rattle.std.proofs.Common.{◌≡◌, ℕ, ◌+◌, ◌<◌, ◌≤◌, ◌⊎◌, inl, inr, All, List, [], ◌∷◌, ◌++◌, length, slice_index, slice_index_or, set, Contains, refl, sym, ap, subst, ◌∙◌, arith}
use Rattle.std.proofs.lemmas.Bool.{cases_eq, cases_lt}
use Rattle.std.proofs.lemmas.List.{get_or_default, get_or_past, get_or-set_same, get_or-set_other, length-set}
use Rattle.std.proofs.lemmas.List.Elements.{Contains-append_left, Contains-push, Contains-push_cases}
use Rattle.rt_base.proofs.Lists.{All-from_contains, Contains-none}
use Rattle.rt_base.proofs.Numbers.{before_or}
use Rattle.rt_components.specs.Groups.{AreGroups, group_at}
use Rattle.rt_components.specs.Groups.Reaches.{there}
use Rattle.rt_calls.specs.Inside.Places.{GivesPlace, ArePlaces}

pub gives_none : (places : List ℕ) (place : ℕ) → GivesPlace [] place places places
gives_none places place = record {
  each = refl;
  given = λ p c. absurd (Contains-none p c);
  others = λ p none. refl;
}

-- a member more
pub gives_more : (members : List ℕ) (place : ℕ) (old mid : List ℕ) (p : ℕ) → GivesPlace members place old mid → p < length old → GivesPlace (members ++ p ∷ []) place old (set mid p place)
gives_more members place old mid p gives less = record {
  each = length-set mid p place ∙ gives.each;
  given = λ q c. given q (cases_eq q p) (Contains-push_cases members p q c);
  others = λ q none. get_or-set_other mid p q place 0 (λ e. none (subst (Contains (members ++ p ∷ [])) (sym e) (Contains-push members p))) ∙ gives.others q (λ c. none (Contains-append_left members (p ∷ []) q c));
}
  where
    here : slice_index (set mid p place) p ≡ place
    here = get_or-set_same mid p place 0 (subst (λ n. p < n) (sym gives.each) less)

    given : (q : ℕ) → (q ≡ p) ⊎ (q ≡ p → ⊥) → Contains members q ⊎ (p ≡ q) → slice_index (set mid p place) q ≡ place
    given q (inl e) c = ap (slice_index (set mid p place)) e ∙ here
    given q (inr ne) (inl c) = get_or-set_other mid p q place 0 ne ∙ gives.given q c
    given q (inr ne) (inr e) = absurd (ne (sym e))

-- a list that contains something has its place
pub within : (groups : List (List ℕ)) (g p : ℕ) → Contains (group_at groups g) p → g < length groups
within groups g p c = by (cases_lt g (length groups))
  where
    by : (g < length groups) ⊎ (length groups ≤ g) → g < length groups
    by (inl less) = less
    by (inr le) = absurd (Contains-none p (subst (λ xs. Contains xs p) (get_or_past groups g [] le) c))

-- what a read of the groups at a place gives
pub group_read : (groups items : List (List ℕ)) (g : ℕ) (group members : List ℕ) → items ≡ groups → members ≡ group → group ≡ slice_index_or items g group → g < length groups → members ≡ group_at groups g
group_read groups items g group members is taken read less = taken ∙ (read ∙ (ap (λ xs. slice_index_or xs g group) is ∙ get_or_default groups g group [] less))

pub places_none : (groups : List (List ℕ)) (count : ℕ) (places : List ℕ) → length places ≡ count → ArePlaces groups count 0 places
places_none groups count places each = record {
  each = each;
  members = λ g p less c. absurd (omega arith);
}

module _ (count : ℕ) (Edge : ℕ → ℕ → Type 0) (groups : List (List ℕ)) (are : AreGroups count Edge groups) where
  -- a node stands in one group
  pub one_group : (g h p : ℕ) → Contains (group_at groups g) p → Contains (group_at groups h) p → g ≡ h
  one_group g h p c d = (are.together g h p p c d).1 (there, there)

  -- members are nodes
  pub members_below : (g : ℕ) → All (λ p. p < count) (group_at groups g)
  members_below g = All-from_contains (λ p. p < count) (group_at groups g) (λ p c. (are.nodes p).1 (g, within groups g p c, c))

  -- a group more
  pub places_more : (g : ℕ) (old new : List ℕ) → ArePlaces groups count g old → GivesPlace (group_at groups g) g old new → ArePlaces groups count (g + 1) new
  places_more g old new places gives = record {
    each = gives.each ∙ places.each;
    members = λ h p less c. by h p c (before_or g h less);
  }
    where
      by : (h p : ℕ) → Contains (group_at groups h) p → (h < g) ⊎ (h ≡ g) → slice_index new p ≡ h
      by h p c (inl less) = gives.others p (λ d. let same : h ≡ g = one_group h g p c d in absurd (omega arith)) ∙ places.members h p less c
      by h p c (inr e) = gives.given p (subst (λ i. Contains (group_at groups i) p) e c) ∙ sym e
