-- What definitions compute, one site and one register after the other.
use Rattle.std.proofs.Common.{◌≡◌, ℕ, ◌+◌, ◌<◌, ◌≤◌, ◌⊎◌, inl, inr, List, [], ◌∷◌, ◌++◌, length, get_or, take, sym, ap, subst, ◌∙◌, arith}
use Rattle.std.specs.Prelude.{Contains}
use Rattle.std.proofs.lemmas.Bool.{cases_eq, cases_lt}
use Rattle.std.proofs.lemmas.List.{get_or_default, get_or_past, take_more}
use Rattle.std.proofs.lemmas.List.Elements.{Contains-append_left, Contains-push, Contains-push_cases}
use Rattle.rt_track.specs.declared.op.Op.{Op}
use Rattle.rt_track.specs.declared.op.Op.TheVariants.{Own}
use Rattle.rt_body.specs.declared.action.Action.{Action}
use Rattle.rt_body.specs.declared.action.Action.TheVariants as action
use Rattle.rt_body.specs.Actions.{defined_by, op_of}
use Rattle.rt_body.specs.Readings.{action_at, op_at}

-- one more register was given an operation
module _ (before after : ℕ → Op) (registers : List ℕ) (i d : ℕ) (op : Op) (less : i < length registers) (given : (r : ℕ) → Contains (take i registers) r → before r ≡ op)
    (here : after (get_or registers i d) ≡ op) (others : (r : ℕ) → (r ≡ get_or registers i d → ⊥) → after r ≡ before r) where
  pub given_more : (r : ℕ) → Contains (take (i + 1) registers) r → after r ≡ op
  given_more r c = by (cases_eq r (get_or registers i d)) (Contains-push_cases (take i registers) (get_or registers i d) r (subst (λ (rs : List ℕ). Contains rs r) (take_more registers i d less) c))
    where
      by : (r ≡ get_or registers i d) ⊎ (r ≡ get_or registers i d → ⊥) → Contains (take i registers) r ⊎ (get_or registers i d ≡ r) → after r ≡ op
      by (inl e) g = ap after e ∙ here
      by (inr other) (inl g) = others r other ∙ given r g
      by (inr other) (inr e) = absurd (other (sym e))

-- and the others have what they had
module _ (before after : ℕ → Op) (registers : List ℕ) (i d : ℕ) (less : i < length registers) (first : ℕ → Op) (rest : (r : ℕ) → (Contains (take i registers) r → ⊥) → before r ≡ first r)
    (others : (r : ℕ) → (r ≡ get_or registers i d → ⊥) → after r ≡ before r) where
  pub rest_more : (r : ℕ) → (Contains (take (i + 1) registers) r → ⊥) → after r ≡ first r
  rest_more r none = others r other ∙ rest r (λ c. none (subst (λ (rs : List ℕ). Contains rs r) (sym (take_more registers i d less)) (Contains-append_left (take i registers) (get_or registers i d ∷ []) r c)))
    where
      other : r ≡ get_or registers i d → ⊥
      other e = none (subst (λ (rs : List ℕ). Contains rs r) (sym (take_more registers i d less)) (subst (Contains (take i registers ++ get_or registers i d ∷ [])) (sym e) (Contains-push (take i registers) (get_or registers i d))))

-- a site that defines a register is one of those with actions
pub defining_within : (actions : List Action) (s r : ℕ) → Contains (defined_by (action_at actions s)) r → s < length actions
defining_within actions s r c = by (cases_lt s (length actions))
  where
    by : (s < length actions) ⊎ (length actions ≤ s) → s < length actions
    by (inl h) = h
    by (inr h) = let none = subst (λ (a : Action). Contains (defined_by a) r) (get_or_past actions s action.Pass h) c in let less = none.1 in absurd (omega (arith, less))

-- the definitions of one more site were given their operation
module _ (before after : ℕ → ℕ → Op) (actions : List Action) (site : ℕ) (d : Action) (less : site < length actions)
    (done : (s r : ℕ) → s < site → Contains (defined_by (action_at actions s)) r → before s r ≡ op_at actions s r)
    (given : (r : ℕ) → Contains (defined_by (get_or actions site d)) r → after site r ≡ op_of (get_or actions site d)) (others : (s r : ℕ) → (s ≡ site → ⊥) → after s r ≡ before s r) where
  pub done_more : (s r : ℕ) → s < site + 1 → Contains (defined_by (action_at actions s)) r → after s r ≡ op_at actions s r
  done_more s r upto c = by (cases_eq s site)
    where
      by : (s ≡ site) ⊎ (s ≡ site → ⊥) → after s r ≡ op_at actions s r
      by (inl e) =
          let same : action_at actions s ≡ get_or actions site d = ap (action_at actions) e ∙ get_or_default actions site action.Pass d less in
          ap (λ n. after n r) e ∙ given r (subst (λ (a : Action). Contains (defined_by a) r) same c) ∙ ap op_of (sym same)
      by (inr other) = others s r other ∙ done s r (omega arith) c

-- what they don't define has a value of its own
module _ (before after : ℕ → ℕ → Op) (actions : List Action) (site : ℕ) (d : Action) (less : site < length actions)
    (old : (s r : ℕ) → (s < site → Contains (defined_by (action_at actions s)) r → ⊥) → before s r ≡ Own)
    (here : (r : ℕ) → (Contains (defined_by (get_or actions site d)) r → ⊥) → after site r ≡ Own) (others : (s r : ℕ) → (s ≡ site → ⊥) → after s r ≡ before s r) where
  pub own_more : (s r : ℕ) → (s < site + 1 → Contains (defined_by (action_at actions s)) r → ⊥) → after s r ≡ Own
  own_more s r none = by (cases_eq s site)
    where
      by : (s ≡ site) ⊎ (s ≡ site → ⊥) → after s r ≡ Own
      by (inl e) =
          let same : action_at actions s ≡ get_or actions site d = ap (action_at actions) e ∙ get_or_default actions site action.Pass d less in
          ap (λ n. after n r) e ∙ here r (λ c. none (omega arith) (subst (λ (a : Action). Contains (defined_by a) r) (sym same) c))
      by (inr other) = others s r other ∙ old s r (λ under c. none (omega arith) c)
