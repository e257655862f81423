-- Searches step by step.
use Rattle.std.proofs.Common.{◌≡◌, ℕ, ◌+◌, ◌<◌, ◌≤◌, ◌⊎◌, inl, inr, List, [], Contains, Some, None, length, get_or, refl, sym, subst, ap, ◌∙◌, arith}
use Rattle.std.proofs.lemmas.Bool.{cases_eq}
use Rattle.std.proofs.lemmas.List.{get_or_append_left, get_or_default}
use Rattle.rt_base.proofs.Lists.{Contains-none}
use Rattle.rt_lines.specs.declared.label.Label.{Label}
use Rattle.rt_components.specs.Groups.{Reaches}
use Rattle.rt_components.specs.Groups.Reaches.{there}
use Rattle.rt_named.specs.Numbers.{IsLeft}
use Rattle.rt_outline.specs.Inside.Sweeps.{IsSwept, IsEnd, end_of}
use Rattle.rt_named.proofs.Noting.{left_kept}
use Rattle.rt_outline.proofs.Pushing.{end_some, reaches_end}

module _ (E : ℕ → ℕ → Type 0) (steps : List ((ℕ × Label) × ℕ)) (p : ℕ) (l : Label) where
  -- those before an index were visited
  pub record IsSweeping (found noted : List ℕ) (i : ℕ) : Type 0 where
    pub start : Contains found p
    pub only : (w : ℕ) → Contains found w → Reaches E p w
    pub done : (j : ℕ) → j < i → j < length found → (w : ℕ) → end_of steps p l (get_or found j 0) ≡ None → E (get_or found j 0) w → Contains found w
    pub ended : (j : ℕ) → j < i → j < length found → (w : ℕ) → end_of steps p l (get_or found j 0) ≡ Some w → Contains noted w
    pub ends : (w : ℕ) → Contains noted w → IsEnd E steps p l w

  pub sweeping_first : (found noted : List ℕ) → IsLeft (λ (w : ℕ). p ≡ w) [] found → noted ≡ [] → IsSweeping found noted 0
  sweeping_first found noted n e = record {
    start = n.all p refl;
    only = λ w c. (elim (n.only w c) [ inl d ↦ absurd (Contains-none w d) | inr f ↦ subst (Reaches E p) f there ]);
    done = λ j h k w f g. absurd (omega (arith, h));
    ended = λ j h k w f. absurd (omega (arith, h));
    ends = λ w c. absurd (Contains-none w (subst (λ xs. Contains xs w) e c));
  }

  pub sweeping_next : (found new noted more : List ℕ) (i : ℕ) → i < length found →
      IsLeft (λ (w : ℕ). (end_of steps p l (get_or found i 0) ≡ None) × E (get_or found i 0) w) found new →
      IsLeft (λ (w : ℕ). end_of steps p l (get_or found i 0) ≡ Some w) noted more → IsSweeping found noted i → IsSweeping new more (i + 1)
  sweeping_next found new noted more i h n m are = record {
    start = kept p are.start;
    only = λ w c. (elim (n.only w c) [ inl d ↦ are.only w d | inr e ↦ reaches_end E (are.only (get_or found i 0) here) e.1 ]);
    done = λ j less k w. (let small : j < length found = omega (arith, less, h) in
        subst (λ u. end_of steps p l u ≡ None → E u w → Contains new w) (sym (same j small)) (done j less small w (cases_eq j i)));
    ended = λ j less k w. (let small : j < length found = omega (arith, less, h) in
        subst (λ u. end_of steps p l u ≡ Some w → Contains more w) (sym (same j small)) (ended j less small w (cases_eq j i)));
    ends = λ w c. (elim (m.only w c) [ inl d ↦ are.ends w d | inr e ↦ (get_or found i 0, are.only (get_or found i 0) here, end_some steps p l (get_or found i 0) w e) ]);
  }
    where
      kept : (w : ℕ) → Contains found w → Contains new w
      kept w c = left_kept (λ (w : ℕ). (end_of steps p l (get_or found i 0) ≡ None) × E (get_or found i 0) w) found new n w c

      here : Contains found (get_or found i 0)
      here = (i, h, get_or_default found i (get_or found i 0) 0 h)

      same : (j : ℕ) → j < length found → get_or new j 0 ≡ get_or found j 0
      same j small = ap (λ xs. get_or xs j 0) n.kept ∙ get_or_append_left found n.more 0 j small

      done : (j : ℕ) → j < i + 1 → j < length found → (w : ℕ) → (j ≡ i) ⊎ (j ≡ i → ⊥) → end_of steps p l (get_or found j 0) ≡ None → E (get_or found j 0) w → Contains new w
      done j less small w (inl f) e g = n.all w (subst (λ k. end_of steps p l (get_or found k 0) ≡ None) f e, subst (λ k. E (get_or found k 0) w) f g)
      done j less small w (inr d) e g = kept w (are.done j (omega (arith, less, d)) small w e g)

      ended : (j : ℕ) → j < i + 1 → j < length found → (w : ℕ) → (j ≡ i) ⊎ (j ≡ i → ⊥) → end_of steps p l (get_or found j 0) ≡ Some w → Contains more w
      ended j less small w (inl f) e = m.all w (subst (λ k. end_of steps p l (get_or found k 0) ≡ Some w) f e)
      ended j less small w (inr d) e = left_kept (λ (w : ℕ). end_of steps p l (get_or found i 0) ≡ Some w) noted more m w (are.ended j (omega (arith, less, d)) small w e)

  pub sweeping_whole : (found noted : List ℕ) (i : ℕ) → length found ≤ i → IsSweeping found noted i → IsSwept E (end_of steps p l) (Contains noted) p found
  sweeping_whole found noted i h are = record {
    start = are.start;
    onward = λ q w c e g. (let f : get_or found c.0 0 ≡ q = at q c in are.done c.0 (omega (arith, h, c.1)) c.1 w (subst (λ u. end_of steps p l u ≡ None) (sym f) e) (subst (λ u. E u w) (sym f) g));
    ended = λ q w c e. (let f : get_or found c.0 0 ≡ q = at q c in are.ended c.0 (omega (arith, h, c.1)) c.1 w (subst (λ u. end_of steps p l u ≡ Some w) (sym f) e));
  }
    where
      at : (q : ℕ) (c : Contains found q) → get_or found c.0 0 ≡ q
      at q c = get_or_default found c.0 0 q c.1 ∙ c.2
