-- What is noted at states, and told of the ways to them and from them.
use Rattle.std.proofs.Common.{◌≡◌, ◌⊎◌, inl, inr, ℕ, ◌/◌, ◌%◌, ◌<◌, List, [], ◌∷◌, ◌++◌, Bool, Contains, get_or, length, set, subst, sym, ap, ◌∙◌}
use Rattle.std.proofs.lemmas.List.{get_or-set_other, get_or-set_same, get_or_read}
use Rattle.std.proofs.lemmas.Bool.{cases_eq}
use Rattle.std.proofs.lemmas.List.Elements.{Contains-push_cases}
use Rattle.std.specs.Prelude.{nat_eq}
use Rattle.rt_rules.proofs.Lists.{Contains-none}
use Rattle.rt_lines.specs.declared.variable.Dtv.{Dtv}
use Rattle.rt_sat.specs.declared.links.Links.{Links}
use Rattle.rt_sat.specs.declared.state.Edge.{Edge}
use Rattle.rt_sat.specs.declared.state.State.{State}
use Rattle.rt_sat.specs.Hints.{IsTold}
use Rattle.rt_sat.specs.Inside.Links.{noted_at, number_of, AreBefore, AreBehind, AreLinked}
use Rattle.rt_sat.proofs.ToldPushes.{half_of, odd_of}

-- states of one number are one
pub number_same : (s t : State) → number_of s ≡ number_of t → s ≡ t
number_same s t e = λ k. record { variable = variable k; contra = contra k }
  where
    variable : s.variable ≡ t.variable
    variable = sym (half_of s.variable s.contra) ∙ ap (λ n. n / 2) e ∙ half_of t.variable t.contra

    contra : s.contra ≡ t.contra
    contra = sym (odd_of s.variable s.contra) ∙ ap (λ n. nat_eq (n % 2) 1) e ∙ odd_of t.variable t.contra

-- a state was noted at another one, and no other one
abbrev pub AreNoted : List (List State) → List (List State) → State → State → Type 0
AreNoted old new at state = (other s : State) → Contains (noted_at new other) s → Contains (noted_at old other) s ⊎ ((other ≡ at) × (s ≡ state))

-- a state was put behind those that were noted
pub noted_set : (old : List (List State)) (at state : State) (n : ℕ) (was new : List State) → n ≡ number_of at → n < length old → was ≡ get_or old n was → new ≡ was ++ state ∷ [] → AreNoted old (set old n new) at state
noted_set old at state n was new is less read pushed other s c = by (cases_eq (number_of other) n)
  where
    before : was ≡ get_or old n []
    before = get_or_read old n was less read []

    by : (number_of other ≡ n) ⊎ (number_of other ≡ n → ⊥) → Contains (noted_at old other) s ⊎ ((other ≡ at) × (s ≡ state))
    by (inl e) = elim (Contains-push_cases was state s (subst (λ xs. Contains xs s) (ap (λ i. get_or (set old n new) i []) e ∙ get_or-set_same old n new [] less ∙ pushed) c)) [
      | inl h ↦ inl (subst (λ xs. Contains xs s) (before ∙ ap (λ i. get_or old i []) (sym e)) h)
      | inr f ↦ inr (number_same other at (e ∙ is), sym f)
    ]
    by (inr other_one) = inl (subst (λ xs. Contains xs s) (get_or-set_other old n (number_of other) new [] other_one) c)

module _ (known : List Dtv) (flips : List Bool) (lines : List Edge) where
  pub before_more : (old new : List (List State)) (at state : State) → AreNoted old new at state → IsTold known flips lines state at 0 → AreBefore known flips lines old → AreBefore known flips lines new
  before_more old new at state noted told are other s c = by (noted other s c)
    where
      by : Contains (noted_at old other) s ⊎ ((other ≡ at) × (s ≡ state)) → IsTold known flips lines s other 0
      by (inl h) = are other s h
      by (inr h) = subst (λ x. IsTold known flips lines x other 0) (sym h.1) (subst (λ y. IsTold known flips lines state y 0) (sym h.0) told)

  pub behind_more : (old new : List (List State)) (at state : State) → AreNoted old new at state → IsTold known flips lines at state 0 → AreBehind known flips lines old → AreBehind known flips lines new
  behind_more old new at state noted told are other s c = by (noted other s c)
    where
      by : Contains (noted_at old other) s ⊎ ((other ≡ at) × (s ≡ state)) → IsTold known flips lines other s 0
      by (inl h) = are other s h
      by (inr h) = subst (λ x. IsTold known flips lines other x 0) (sym h.1) (subst (λ y. IsTold known flips lines y state 0) (sym h.0) told)

  -- nothing is noted
  pub linked_none : (links : Links) → ((k : ℕ) → get_or links.before.items k [] ≡ []) → ((k : ℕ) → get_or links.behind.items k [] ≡ []) → AreLinked known flips lines links
  linked_none links before behind = record {
    before = λ at s h. absurd (Contains-none s (subst (λ xs. Contains xs s) (before (number_of at)) h));
    behind = λ at s h. absurd (Contains-none s (subst (λ xs. Contains xs s) (behind (number_of at)) h));
  }
