-- There is one reading of a procedure.
use Rattle.std.proofs.Common.{◌≡◌, ◌⊎◌, inl, inr, ℕ, ℤ, ◌<◌, ◌≤◌, List, [], ◌∷◌, Contains, pos, length, sym, ap, subst, ◌∙◌, arith}
use Rattle.std.proofs.lemmas.Bool.{cases_eq, cases_lt}
use Rattle.rt_base.proofs.Lists.{Contains-none, Contains-here, Contains-there, Contains-cons_cases}
use Rattle.rt_elf.specs.Parts.{Parts as Object}
use Rattle.rt_proc.specs.declared.proc.Proc.{Proc}
use Rattle.rt_proc.proofs.Ordered.{one_ordered}
use Rattle.rt_flow.specs.declared.def.Def.{Def}
use Rattle.rt_flow.specs.declared.def.Def.TheVariants.{Entry, At}
use Rattle.rt_flow.specs.Bodies.{Body, AreReaching, Precedes, Reaches}
use Rattle.rt_track.specs.declared.value.Value.{Value}
use Rattle.rt_track.specs.declared.value.Value.TheVariants.{Multi}
use Rattle.rt_track.specs.Candidates.{Use, Definition, IsCandidate, IsSole, IsValue}
use Rattle.rt_body.specs.declared.action.Action.{Action}
use Rattle.rt_body.specs.Actions.{defined_by}
use Rattle.rt_body.specs.Readings.{Reading, action_at, op_at, register_body}
use Rattle.rt_body.specs.Right.{IsReading}

-- definitions are in one order
precedes_one_way : (x y : Def) → Precedes x y → Precedes y x → ⊥
precedes_one_way Entry Entry p q = p
precedes_one_way Entry (At d) p q = q
precedes_one_way (At c) Entry p q = p
precedes_one_way (At c) (At d) p q = omega (arith, p, q)

pub one_reaching : (body : Body) (loc : ℤ) (site : ℕ) (xs ys : List Def) → AreReaching body loc site xs → AreReaching body loc site ys → xs ≡ ys
one_reaching body loc site xs ys a b =
    one_ordered Precedes precedes_one_way (λ x. Reaches body loc x site) xs ys a.in_order a.reaching b.in_order b.reaching

-- candidates have one value
pub one_value : (P : Value → Type 0) (v w : Value) → IsValue P v → IsValue P w → v ≡ w
one_value P v w a b = by a.else_multi b.else_multi
  where
    by : IsSole P v ⊎ (v ≡ Multi) → IsSole P w ⊎ (w ≡ Multi) → v ≡ w
    by first (inl sole) = a.of_sole w sole
    by (inl sole) second = sym (b.of_sole v sole)
    by (inr e) (inr f) = e ∙ sym f

is_among : (r : ℕ) (xs : List ℕ) → Contains xs r ⊎ (Contains xs r → ⊥)
is_among r [] = inr (Contains-none r)
is_among r (x ∷ xs) = by (cases_eq x r) (is_among r xs)
  where
    by : (x ≡ r) ⊎ (x ≡ r → ⊥) → Contains xs r ⊎ (Contains xs r → ⊥)
        → Contains (x ∷ xs) r ⊎ (Contains (x ∷ xs) r → ⊥)
    by (inl e) other = inl (subst (Contains (x ∷ xs)) e (Contains-here x xs))
    by (inr apart) (inl there) = inl (Contains-there x xs r there)
    by (inr apart) (inr none) = inr (λ h. elim (Contains-cons_cases x xs r h) [ inl e ↦ apart e | inr there ↦ none there ])

-- a procedure has one reading
module _ (object : Object) (proc : Proc) (a b : Reading) (x : IsReading object proc a) (y : IsReading object proc b) where
  actions_same : a.actions ≡ b.actions
  actions_same = x.actions ∙ sym y.actions

  body_same : a.body ≡ b.body
  body_same = x.body ∙ ap (register_body proc) actions_same ∙ sym y.body

  module _ (s r : ℕ) where
    used_same : a.value_at s r ≡ b.value_at s r
    used_same = by (cases_lt s (length a.actions)) (cases_lt r 32)
      where
        beyond : (s < length a.actions → r < 32 → ⊥) → a.value_at s r ≡ b.value_at s r
        beyond never = x.value_at_else s r never ∙ sym (y.value_at_else s r (λ less few. never (omega (arith, ap length actions_same)) few))

        by : (s < length a.actions) ⊎ (length a.actions ≤ s) → (r < 32) ⊎ (32 ≤ r) → a.value_at s r ≡ b.value_at s r
        by (inl less) (inl few) =
            let there = y.value_at s r (omega (arith, ap length actions_same)) few in
            let here : IsValue (IsCandidate a.body (op_at b.actions) (Use s r)) (b.value_at s r) =
            subst (λ (d : Body). IsValue (IsCandidate d (op_at b.actions) (Use s r)) (b.value_at s r)) (sym body_same) there in
            one_value (IsCandidate a.body (op_at a.actions) (Use s r)) (a.value_at s r) (b.value_at s r) (x.value_at s r less few)
            (subst (λ (acts : List Action). IsValue (IsCandidate a.body (op_at acts) (Use s r)) (b.value_at s r)) (sym actions_same)
            here)
        by (inl less) (inr many) = beyond (λ h few. omega (arith, few, many))
        by (inr past) other = beyond (λ less few. omega (arith, less, past))

    defined_same : a.value_of s r ≡ b.value_of s r
    defined_same = by (is_among r (defined_by (action_at a.actions s)))
      where
        to : Contains (defined_by (action_at a.actions s)) r → Contains (defined_by (action_at b.actions s)) r
        to h = subst (λ (acts : List Action). Contains (defined_by (action_at acts s)) r) actions_same h

        from : Contains (defined_by (action_at b.actions s)) r → Contains (defined_by (action_at a.actions s)) r
        from h = subst (λ (acts : List Action). Contains (defined_by (action_at acts s)) r) (sym actions_same) h

        by : Contains (defined_by (action_at a.actions s)) r ⊎ (Contains (defined_by (action_at a.actions s)) r → ⊥)
            → a.value_of s r ≡ b.value_of s r
        by (inl h) =
            let there = y.value_of s r (to h) in
            let here : IsValue (IsCandidate a.body (op_at b.actions) (Definition (At s) r)) (b.value_of s r) =
            subst (λ (d : Body). IsValue (IsCandidate d (op_at b.actions) (Definition (At s) r)) (b.value_of s r)) (sym body_same) there in
            one_value (IsCandidate a.body (op_at a.actions) (Definition (At s) r)) (a.value_of s r) (b.value_of s r) (x.value_of s r h)
            (subst (λ (acts : List Action). IsValue (IsCandidate a.body (op_at acts) (Definition (At s) r)) (b.value_of s r))
            (sym actions_same) here)
        by (inr none) = x.value_of_else s r none ∙ sym (y.value_of_else s r (λ h. none (from h)))

    reached_same : a.reaching s r ≡ b.reaching s r
    reached_same = by (cases_lt s (length a.actions))
      where
        by : (s < length a.actions) ⊎ (length a.actions ≤ s) → a.reaching s r ≡ b.reaching s r
        by (inl less) =
            let there = y.reaching s r (omega (arith, ap length actions_same)) in
            one_reaching a.body (pos r) s (a.reaching s r) (b.reaching s r) (x.reaching s r less)
            (subst (λ (d : Body). AreReaching d (pos r) s (b.reaching s r)) (sym body_same) there)
        by (inr past) = x.reaching_else s r past ∙ sym (y.reaching_else s r (omega (arith, ap length actions_same)))

  pub one_reading : a ≡ b
  one_reading = λ i. record {
    actions = actions_same i;
    body = body_same i;
    value_at = λ s r. used_same s r i;
    value_of = λ s r. defined_same s r i;
    reaching = λ s r. reached_same s r i;
  }
