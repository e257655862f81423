-- What a body answers of its sites and registers is what was found of them, and what it answers of others is fixed.
use Rattle.std.proofs.Common.{◌≡◌, ℕ, ◌<◌, ◌≤◌, ◌⊎◌, ◌&&◌, inl, inr, Bool, false, nat_lt, [], cond, pos, length, ap}
use Rattle.std.proofs.lemmas.Bool.{and_from, cases_lt, le-ltb, lt-ltb}
use Rattle.rt_flow.specs.Sources.{defs_in}
use Rattle.rt_track.specs.declared.value.Value.{Value}
use Rattle.rt_track.specs.declared.value.Value.TheVariants as value
use Rattle.rt_track.specs.Told.{value_at, value_of}
use Rattle.rt_body.specs.declared.body.Body.{Body}
use Rattle.rt_body.specs.Told.{use_value, definition_value, reaching_use}

not_both : (a b c d : ℕ) → (a < b → c < d → ⊥) → (nat_lt a b && nat_lt c d) ≡ false
not_both a b c d never = by (cases_lt a b) (cases_lt c d)
  where
    by : (a < b) ⊎ (b ≤ a) → (c < d) ⊎ (d ≤ c) → (nat_lt a b && nat_lt c d) ≡ false
    by (inl p) (inl q) = absurd (never p q)
    by (inl p) (inr q) = λ i. lt-ltb a b p i && le-ltb c d q i
    by (inr p) other = λ i. le-ltb a b p i && nat_lt c d

module _ (body : Body) (site register : ℕ) where
  pub use_within : site < length body.actions → register < 32 → use_value body site register ≡ value_at body.values site register
  unfolding use_value
  use_within less few = ap (λ b. cond b (value_at body.values site register) value.Multi) (and_from _ _ (lt-ltb site (length body.actions) less) (lt-ltb register 32 few))

  pub use_beyond : (site < length body.actions → register < 32 → ⊥) → use_value body site register ≡ value.Multi
  unfolding use_value
  use_beyond never = ap (λ b. cond b (value_at body.values site register) value.Multi) (not_both site (length body.actions) register 32 never)

  pub definition_within : site < length body.actions → register < 32 → definition_value body site register ≡ value_of body.values site register
  unfolding definition_value
  definition_within less few =
      ap (λ b. cond b (value_of body.values site register) (value.At site register (pos 0))) (and_from _ _ (lt-ltb site (length body.actions) less) (lt-ltb register 32 few))

  pub definition_beyond : (site < length body.actions → register < 32 → ⊥) → definition_value body site register ≡ value.At site register (pos 0)
  unfolding definition_value
  definition_beyond never = ap (λ b. cond b (value_of body.values site register) (value.At site register (pos 0))) (not_both site (length body.actions) register 32 never)

  pub reaching_within_body : site < length body.actions → reaching_use body site register ≡ defs_in body.reach site (pos register)
  unfolding reaching_use
  reaching_within_body less = ap (λ b. cond b (defs_in body.reach site (pos register)) []) (lt-ltb site (length body.actions) less)

  pub reaching_beyond : length body.actions ≤ site → reaching_use body site register ≡ []
  unfolding reaching_use
  reaching_beyond past = ap (λ b. cond b (defs_in body.reach site (pos register)) []) (le-ltb site (length body.actions) past)
