-- What is told of nodes behind letters of two nodes: where they have both, where there is nothing to tell, and by sides.
use Rattle.std.proofs.Common.{◌≡◌, ℕ, ◌<◌, ◌⊎◌, inl, inr, Bool, true, false, List, Option, Some, None, get_or, set, length, not, sym, ap, subst, ◌∙◌, get_or-set_same, get_or-set_other, length-set}
use Rattle.std.specs.Option.{unwrap_or}
use Rattle.std.proofs.lemmas.Bool.{cases_eq}
use Rattle.std.proofs.lemmas.Option.{get_or_from_slice_get, slice_get_within, slice_get-get_or}
use Rattle.rt_lines.specs.declared.label.Label.{Label}
use Rattle.rt_lines.specs.Equality.{label_eq}
use Rattle.rt_lines.specs.Words.{label_variance}
use Rattle.rt_lines.proofs.Same.{label_self}
use Rattle.rt_bridge.specs.Counted.{IsPointer}
use Rattle.rt_outline.specs.Frames.{Origins, IsMade}
use Rattle.rt_outline.specs.Turning.{class_at, flag_at, AreTold, AreToldTo, HaveBoth, IsToldAt}
use Rattle.rt_outline.specs.Inside.Sides.{AreSplitIn, AreWhole, IsReach, IsWhole}
use Rattle.rt_outline.specs.declared.turning.Reach.{Reach}

-- a node is made of one node, with one letter
pub made_read : (origins : Origins) (n p : ℕ) (l : Label) (o : Option (ℕ × Label)) (P : ℕ → Label → Type 0) →
    o ≡ get_or origins n o → o ≡ Some (p, l) → P p l → (q : ℕ) (m : Label) → IsMade origins n q m → P q m
made_read origins n p l o P e f h q m made =
    let both : Option (ℕ × Label) → ℕ × Label = λ a. unwrap_or a (p, l) in
    let same : (p, l) ≡ (q, m) = ap both (sym f ∙ e ∙ get_or_from_slice_get origins n (Some (q, m)) o made) in
    subst (λ (a : ℕ × Label). P a.0 a.1) same h

-- letters that aren't equal differ
pub letters_differ : (l m : Label) (b : Bool) → b ≡ not (label_eq l m) → b ≡ true → l ≡ m → ⊥
letters_differ l m b e f g =
    let same : label_eq l m ≡ true = subst (λ k. label_eq l k ≡ true) g (label_self l) in
    let clash : true ≡ false = sym f ∙ e ∙ ap not same in
    cc

module _ (origins : Origins) (Edge : ℕ → ℕ → Type 0) (flips : List Bool) (p q : ℕ) (l m : Label) (v w : ℕ) where
  -- nodes that have both
  pub told_both : HaveBoth origins Edge (flag_at flips v) v w → AreTold origins Edge flips p q l m v w
  told_both both = record {
    same = λ _. record {
      co_below = λ _ _. both.below;
      co_above = λ _ _. both.above;
      contra_below = λ _ _. both.below;
      contra_above = λ _ _. both.above;
    };
    pointers = λ _ _ _. both;
  }

  -- nodes of which nothing is to tell
  pub told_apart : (l ≡ m → ⊥) → (IsPointer l → IsPointer m → flag_at flips p ≡ true → ⊥) →
      AreTold origins Edge flips p q l m v w
  told_apart other none = record {
    same = λ e. absurd (other e);
    pointers = λ a b f. absurd (none a b f);
  }

  -- nodes of which sides tell
  pub told_split : (own parents : Reach) → IsReach origins Edge (flag_at flips v) v own → IsWhole origins Edge false p parents →
      AreSplitIn (label_variance l) own parents q w →
      (IsPointer l → IsPointer m → flag_at flips p ≡ true → ⊥) → AreTold origins Edge flips p q l m v w
  told_split own parents reach whole split none = record {
    same = λ _. record {
      co_below = λ s h. reach.low w (split.co_below s (whole.low q h));
      co_above = λ s h. reach.high w (split.co_above s (whole.high q h));
      contra_below = λ s h. reach.low w (split.contra_below s (whole.high q h));
      contra_above = λ s h. reach.high w (split.contra_above s (whole.low q h));
    };
    pointers = λ a b f. absurd (none a b f);
  }

-- what a node has with all others behind letters of nodes of a class, where that is the class of what it is made of
pub told_at : (origins : Origins) (Edge : ℕ → ℕ → Type 0) (classes : List (Option ℕ)) (flips marks : List Bool) (count v p class : ℕ) (l : Label) (o : Option (ℕ × Label)) →
    o ≡ get_or origins v o → o ≡ Some (p, l) → class_at classes p ≡ Some class → AreToldTo origins Edge classes flips v p class l count →
    IsToldAt origins Edge classes flips marks count v
told_at origins Edge classes flips marks count v p class l o e f is told q d m made marked of =
    made_read origins v p l o
    (λ k n. class_at classes k ≡ Some d → (w r : ℕ) (n' : Label) → w < count → IsMade origins w r n' → class_at classes r ≡ Some d →
    AreTold origins Edge flips k r n n' v w) e f
    (λ of'. subst (λ x. AreToldTo origins Edge classes flips v p x l count) (let same : class ≡ d = cc in same) told) q m made of

-- what is kept of one node more
pub whole_more : (origins : Origins) (Edge : ℕ → ℕ → Type 0) (known : List (Option Reach)) (v : ℕ) (reach : Reach) →
    AreWhole origins Edge known → IsWhole origins Edge false v reach → AreWhole origins Edge (set known v (Some reach))
whole_more origins Edge known v reach are whole p found e = elim (cases_eq p v) [
  | inl f ↦ (let kept : Some reach ≡ Some found = sym (get_or-set_same known v (Some reach) None (subst (λ x. x < length known) f within)) ∙ ap (λ x. get_or (set known v (Some reach)) x None) (sym f) ∙ here in
      let one : reach ≡ found = cc in
      subst (λ x. IsWhole origins Edge false x found) (sym f) (subst (λ r. IsWhole origins Edge false v r) one whole))
  | inr d ↦ are p found (slice_get-get_or known p None within ∙ ap Some (sym (get_or-set_other known v p (Some reach) None d) ∙ here))
]
  where
    here : get_or (set known v (Some reach)) p None ≡ Some found
    here = get_or_from_slice_get (set known v (Some reach)) p (Some found) None e

    within : p < length known
    within = subst (λ n. p < n) (length-set known v (Some reach)) (slice_get_within (set known v (Some reach)) p (Some found) e)
