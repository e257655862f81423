-- The next turn, and the pending existentials.
use Rattle.std.proofs.Common.{◌≡◌, ℕ, ◌<◌, ◌≤◌, ◌⊎◌, inl, inr, List, [], ◌∷◌, length, Bool, true, false, cond, Option, refl, sym, ap, subst, ◌∙◌, arith}
use Rattle.std.specs.Ordering.{is_eq, is_gt, nat_cmp}
use Rattle.std.specs.declared.cmp.Ordering.{Ordering}
use Rattle.std.specs.declared.cmp.Ordering.TheVariants.{Less, Equal, Greater}
use Rattle.std.specs.List.{list_any}
use Rattle.std.proofs.lemmas.Map.Keys.{le_from_not_gt}
use Rattle.std.proofs.lemmas.Map.Lookups.{exact_unsigned}
use Rattle.rt_lines.specs.declared.label.Variance.{Variance}
use Rattle.rt_lines.specs.declared.label.Variance.TheVariants.{Co, Contra}
use Rattle.rt_lines.specs.declared.variable.Dtv.{Dtv}
use Rattle.rt_lines.specs.declared.line.Line.{Line}
use Rattle.rt_polar.specs.Inside.Places.{ArePending, IsSoleAt, IsTurn}
use Rattle.rt_polar.specs.Inside.Turns.{IsNextTurn}
use Rattle.rt_base.proofs.Numbers.{equal_number}

-- what was pending is the one that was taken out, or is pending still
popped : (v : ℕ) (old new : ℕ → Bool) → ((q : ℕ) → new q ≡ cond (is_eq (nat_cmp v q)) false (old q)) → (q : ℕ) → old q ≡ true → (q ≡ v) ⊎ (new q ≡ true)
popped v old new updates q h = by (is_eq (nat_cmp v q)) refl
  where
    by : (b : Bool) → is_eq (nat_cmp v q) ≡ b → (q ≡ v) ⊎ (new q ≡ true)
    by true e = inl (sym (equal_number v q e))
    by false e = inr (updates q ∙ ap (λ t. cond t false (old q)) e ∙ h)

-- the one that was taken out has no sole use
pub pending_without : (v : ℕ) (old new : ℕ → Bool) (slots : List (Option Line)) → ((q : ℕ) → new q ≡ cond (is_eq (nat_cmp v q)) false (old q)) → ArePending old slots → ((sign : Variance) (z : Dtv) (slot : ℕ) → IsSoleAt sign v z slots slot → ⊥) →
    ArePending new slots
pending_without v old new slots updates pending none sign n z slot sole = by (popped v old new updates n (pending sign n z slot sole))
  where
    by : (n ≡ v) ⊎ (new n ≡ true) → new n ≡ true
    by (inl e) = absurd (none sign z slot (subst (λ m. IsSoleAt sign m z slots slot) e sole))
    by (inr e) = e

-- or has its turn
pub next_of : (v : ℕ) (old new : ℕ → Bool) (slots : List (Option Line)) (sign : Variance) (z : Dtv) (slot : ℕ) → ((q : ℕ) → new q ≡ cond (is_eq (nat_cmp v q)) false (old q)) → ((q : ℕ) → old q ≡ true → v ≤ q) → ArePending old slots →
    IsTurn sign v z slots slot → IsNextTurn v z slot slots new
next_of v old new slots sign z slot updates least pending turn = record {
  sign = sign;
  turn = turn;
  least = λ m lt other y i sole. let le : v ≤ m = least m (pending other m y i sole) in omega (arith, lt, le);
  others = λ other m y i sole. popped v old new updates m (pending other m y i sole);
}

-- where nothing is pending, there is no sole use
pub none_pending : (pending : ℕ → Bool) (slots : List (Option Line)) → ArePending pending slots → ((n : ℕ) → pending n ≡ true → ⊥) → (n : ℕ) (sign : Variance) (z : Dtv) (slot : ℕ) → IsSoleAt sign n z slots slot → ⊥
none_pending pending slots are none n sign z slot sole = none n (are sign n z slot sole)

-- a turn of a definition, and one of a consumer where there is no definition
pub turn_co : (n : ℕ) (z : Dtv) (slots : List (Option Line)) (slot : ℕ) → IsSoleAt Co n z slots slot → IsTurn Co n z slots slot
turn_co n z slots slot sole = record { sole = sole; first = λ e. cc }

pub turn_contra : (n : ℕ) (z : Dtv) (slots : List (Option Line)) (slot : ℕ) → ((y : Dtv) (i : ℕ) → IsSoleAt Co n y slots i → ⊥) → IsSoleAt Contra n z slots slot → IsTurn Contra n z slots slot
turn_contra n z slots slot none sole = record { sole = sole; first = λ e. none }

pub none_of_both : (n : ℕ) (slots : List (Option Line)) → ((y : Dtv) (i : ℕ) → IsSoleAt Co n y slots i → ⊥) → ((y : Dtv) (i : ℕ) → IsSoleAt Contra n y slots i → ⊥) → (sign : Variance) (z : Dtv) (slot : ℕ) → IsSoleAt sign n z slots slot → ⊥
none_of_both n slots a b Co z slot sole = a z slot sole
none_of_both n slots a b Contra z slot sole = b z slot sole

-- a list without elements has none at which a test passes
pub none_in : (test : ℕ → Bool) (keys : List ℕ) → (0 < length keys → ⊥) → list_any test keys ≡ true → ⊥
none_in test [] empty e = cc
none_in test (k ∷ keys) empty e = empty (omega arith)

-- the one that was taken out has its turn
pub next_turn_of : (v w : ℕ) (old new : ℕ → Bool) (slots : List (Option Line)) (slot : ℕ) → ((q : ℕ) → new q ≡ cond (is_eq (nat_cmp v q)) false (old q)) → ((q : ℕ) → old q ≡ true → is_gt (nat_cmp v q) ≡ false) → ArePending old slots →
    (w ≡ v) × (sign : Variance) × (z : Dtv) × IsTurn sign v z slots slot → (z : Dtv) × IsNextTurn w z slot slots new
next_turn_of v w old new slots slot updates least pending (e, sign, z, turn) = (z, rw e (next_of v old new slots sign z slot updates (λ q h. le_from_not_gt v q (least q h)) pending turn))
