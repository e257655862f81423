-- Rivals of a side, looked for letter by letter.
use Rattle.std.proofs.Common.{◌≡◌, ◌↔◌, ℕ, ◌+◌, ◌<◌, ◌≤◌, ◌⊎◌, inl, inr, Bool, true, false, is_some, IsTrue, Option, Some, None, List, [], ◌∷◌, ◌++◌, length, get_or, refl, sym, ap, subst, ◌∙◌, true≢false, arith}
use Rattle.std.specs.Map.{lookup}
use Rattle.rt_lines.specs.declared.label.Label.{Label}
use Rattle.rt_lines.specs.declared.variable.Dtv.{Dtv}
use Rattle.rt_lines.specs.declared.line.Line.{Line}
use Rattle.rt_lines.specs.Equality.{variable_eq}
use Rattle.rt_rules.specs.Rules.{longer}
use Rattle.rt_trim.specs.Idle.{as_load}
use Rattle.rt_trim.specs.Trimming.{front_of, loaded, HasUser, HasOtherUser, HasRival}
use Rattle.rt_trim.proofs.Fronts.{worded, front_more, front_all}

is_user : (found : Option ℕ) → is_some found ≡ true → (i : ℕ) × (found ≡ Some i)
is_user None e = absurd (true≢false (sym e))
is_user (Some i) e = (i, refl)

-- a letter more
pub front_next : (x front : Dtv) (items : List Label) (n : ℕ) (d l : Label) (word : List Label) → items ≡ x.word → n < length x.word →
    front ≡ front_of x n → l ≡ as_load (get_or items n d) → word ≡ front.word ++ l ∷ [] → worded front word ≡ front_of x (n + 1)
front_next x front items n d l word letters less is letter more =
    ap (worded front) more ∙ ap (λ (y : Dtv). longer y l) is
    ∙ ap (longer (front_of x n)) (letter ∙ ap (λ (ws : List Label). as_load (get_or ws n d)) letters) ∙ front_more x n d less

module _ (lines : List Line) (users : List (Dtv × ℕ)) (l : Line) (x : Dtv) where
  -- a line is noted of a front
  pub rival_front : (front : Dtv) (n : ℕ) (found : Bool) → n < length x.word → front ≡ front_of x n →
      found ≡ is_some (lookup (variable_eq front) users) → found ≡ true → IsTrue true ↔ HasRival lines users l x
  rival_front front n found less is e t = ((λ s. inl (n, less, subst (HasUser users) is user)), λ r. refl)
    where
      user : HasUser users front
      user = is_user (lookup (variable_eq front) users) (sym e ∙ t)

  -- none is noted of one front more
  pub none_next : (front : Dtv) (n : ℕ) (found : Bool) → front ≡ front_of x n → found ≡ is_some (lookup (variable_eq front) users) →
      found ≡ false → ((m : ℕ) → m < n → HasUser users (front_of x m) → ⊥) → (m : ℕ) → m < n + 1 → HasUser users (front_of x m) → ⊥
  none_next front n found is e f none m less user = by (split m less)
    where
      split : (m : ℕ) → m < n + 1 → (m < n) ⊎ (m ≡ n)
      split m h = grind arith

      by : (m < n) ⊎ (m ≡ n) → ⊥
      by (inl before) = none m before user
      by (inr same) =
          let there : HasUser users front = subst (HasUser users) (ap (front_of x) same ∙ sym is) user in
          true≢false (sym (ap is_some there.1) ∙ sym e ∙ f)

  -- none is noted of any
  pub rival_all : (front : Dtv) (n : ℕ) (other : Bool) → front ≡ front_of x n → length x.word ≤ n →
      ((m : ℕ) → m < n → HasUser users (front_of x m) → ⊥) → (IsTrue other ↔ HasOtherUser lines users l front) →
      IsTrue other ↔ HasRival lines users l x
  rival_all front n other is whole none h = ((λ t. inr (subst (HasOtherUser lines users l) all (h.0 t))), back)
    where
      all : front ≡ loaded x
      all = is ∙ front_all x n whole

      back : HasRival lines users l x → IsTrue other
      back (inl (m, less, user)) = absurd (none m (omega (arith, less, whole)) user)
      back (inr r) = h.1 (subst (HasOtherUser lines users l) (sym all) r)
