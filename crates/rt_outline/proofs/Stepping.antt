-- Steps with hints.
use Rattle.std.proofs.Common.{◌≡◌, ℕ, ◌<◌, ◌⊎◌, inl, inr, List, Some, length, get_or, set, sym, subst, ap, ◌∙◌, get_or-set_same, get_or-set_other}
use Rattle.std.proofs.lemmas.Bool.{cases_eq}
use Rattle.rt_lines.specs.declared.label.Label.{Label}
use Rattle.rt_outline.specs.Frames.{IsSetAt, step_of}
use Rattle.rt_outline.specs.Inside.Stepping.{AreHinted, group_of, place_of}

-- a step more with its hint
pub hinted_more : (hints wide : List ℕ) (old new : List ((ℕ × Label) × ℕ)) (from to at hint : ℕ) (label : Label) → at ≡ place_of from (group_of label) → AreHinted hints old → ((k : ℕ) → get_or wide k 0 ≡ get_or hints k 0) → at < length wide → 0 < hint →
    ((p : ℕ) (l : Label) → IsSetAt (Some (from, label)) to p l old new) → AreHinted (set wide at hint) new
hinted_more hints wide old new from to at hint label is are same room some more p l n e = by (cases_eq (place_of p (group_of l)) at)
  where
    before : (place_of p (group_of l) ≡ at → ⊥) → step_of old p l ≡ Some n
    before d = elim (more p l) [
      | inl s ↦ absurd (let f : (from, label) ≡ (p, l) = cc in d (sym (is ∙ ap (λ (x : ℕ × Label). place_of x.0 (group_of x.1)) f)))
      | inr s ↦ sym s.1 ∙ e
    ]

    by : (place_of p (group_of l) ≡ at) ⊎ (place_of p (group_of l) ≡ at → ⊥) → 0 < get_or (set wide at hint) (place_of p (group_of l)) 0
    by (inl f) = subst (λ x. 0 < x) (sym (ap (λ u. get_or (set wide at hint) u 0) f ∙ get_or-set_same wide at hint 0 room)) some
    by (inr d) = subst (λ x. 0 < x) (sym (get_or-set_other wide at (place_of p (group_of l)) hint 0 d ∙ same (place_of p (group_of l)))) (are p l n (before d))
