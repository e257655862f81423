-- Sole uses in slots and in lists.
use Rattle.std.proofs.Common.{◌≡◌, ◌≢◌, ℕ, suc, ◌+◌, ◌<◌, ◌≤◌, ◌⊎◌, inl, inr, List, ◌++◌, length, get_or, take, drop, Contains, Bool, true, false, Option, refl, sym, ap, subst, ◌∙◌, arith}
use Rattle.std.proofs.lemmas.List.Elements.{Contains-append_cases}
use Rattle.rt_lines.specs.declared.label.Variance.{Variance}
use Rattle.rt_lines.specs.declared.label.Variance.TheVariants.{Co, Contra}
use Rattle.rt_lines.specs.declared.variable.Base.TheVariants.{Exist}
use Rattle.rt_lines.specs.declared.variable.Dtv.{Dtv}
use Rattle.rt_lines.specs.declared.line.Line.{Line}
use Rattle.rt_rules.specs.Put.{HasUse, use_of}
use Rattle.rt_rules.proofs.Lists.{All-from_contains}
use Rattle.rt_polar.specs.Inside.Places.{AreUses, Holds, IsFound, IsSoleAt, IsTurn, lines_of}
use Rattle.rt_polar.specs.Polar.{HasCandidate, IsCandidate, IsOnlyPlace, IsSole}
use Rattle.rt_polar.specs.Polar.IsCandidate.{defines, consumes}
use Rattle.rt_polar.proofs.Cuts.{sole_line, sole_place, use_has}
use Rattle.rt_polar.proofs.Holding.{same_or_apart}
use Rattle.rt_polar.proofs.Slots.{after_source, before_source, lines_cut, lines_has, lines_source, one_line, within}
use Rattle.rt_base.proofs.Lists.{Contains-middle}

-- where a sole use in a slot stands in the list
abbrev pub place_of : List (Option Line) → ℕ → ℕ
place_of slots slot = length (lines_of (take slot slots))

pub sole_of : (sign : Variance) (n : ℕ) (z : Dtv) (slots : List (Option Line)) (slot : ℕ) → IsSoleAt sign n z slots slot → IsSole sign n z (lines_of slots) (place_of slots slot)
sole_of sign n z slots slot sole = record {
  other_base = sole.other_base;
  before = lines_of (take slot slots);
  after = lines_of (drop (suc slot) slots);
  cut = lines_cut slots slot (use_of sign n z) sole.holds;
  at = refl;
  alone = All-from_contains (λ l. HasUse sign n l → ⊥) (lines_of (take slot slots) ++ lines_of (drop (suc slot) slots)) (λ l c u. by l u (Contains-append_cases (lines_of (take slot slots)) (lines_of (drop (suc slot) slots)) l c));
}
  where
    before : (l : Line) → HasUse sign n l → (i : ℕ) × (i < slot) × Holds slots i l → ⊥
    before l u (i, less, h) = let e : i ≡ slot = sole.only i l h u in omega (arith, e, less)

    behind : (l : Line) → HasUse sign n l → (i : ℕ) × (suc slot < suc i) × Holds slots i l → ⊥
    behind l u (i, less, h) = let e : i ≡ slot = sole.only i l h u in omega (arith, e, less)

    by : (l : Line) → HasUse sign n l → Contains (lines_of (take slot slots)) l ⊎ Contains (lines_of (drop (suc slot) slots)) l → ⊥
    by l u (inl c) = before l u (before_source slots slot l c)
    by l u (inr c) = behind l u (after_source slots (suc slot) l c)

pub one_slot : (slots : List (Option Line)) (at : ℕ → ℕ → Bool) → IsFound slots at → (i j : ℕ) (l : Line) → Holds slots i l → Holds slots j l → i ≡ j
one_slot slots at found i j l a b = found.once i j l a b

pub slot_of : (sign : Variance) (n : ℕ) (z : Dtv) (slots : List (Option Line)) (at : ℕ → ℕ → Bool) (place : ℕ) → IsFound slots at → IsSole sign n z (lines_of slots) place → (slot : ℕ) × IsSoleAt sign n z slots slot
slot_of sign n z slots at place found sole = by (lines_source slots (use_of sign n z) there)
  where
    there : Contains (lines_of slots) (use_of sign n z)
    there = rw sole.cut (Contains-middle sole.before (use_of sign n z) sole.after)

    only : IsOnlyPlace sign n (lines_of slots) place
    only = sole_place sign n z (lines_of slots) place sole

    is_use : (l : Line) → HasUse sign n l → Contains (lines_of slots) l → l ≡ use_of sign n z
    is_use l u (k, lt, e) =
        let here : k ≡ place = only.only k l lt (subst (HasUse sign n) (sym e) u) in
        sym e ∙ ap (λ m. get_or (lines_of slots) m l) here ∙ sole_line sign n z (lines_of slots) place l sole

    by : (i : ℕ) × Holds slots i (use_of sign n z) → (slot : ℕ) × IsSoleAt sign n z slots slot
    by (slot, h) = (
      slot,
      record {
        other_base = sole.other_base;
        holds = h;
        only = λ i l g u. one_slot slots at found i slot (use_of sign n z) (subst (Holds slots i) (is_use l u (lines_has slots i l g)) g) h;
      },
    )

-- a turn is one of a candidate
left_of : Variance → Bool
left_of Co = true
left_of Contra = false

pub record IsAnyCandidate (n : ℕ) (lines : List Line) (sign : Variance) (place : ℕ) (z : Dtv) : Type 0 where
  pub left : Bool
  pub is : IsCandidate n lines sign place left z

pub candidate_of : (sign : Variance) (n : ℕ) (z : Dtv) (slots : List (Option Line)) (at : ℕ → ℕ → Bool) (slot : ℕ) → IsFound slots at → IsTurn sign n z slots slot → IsAnyCandidate n (lines_of slots) sign (place_of slots slot) z
candidate_of Co n z slots at slot found turn = record { left = true; is = defines z (place_of slots slot) (sole_of Co n z slots slot turn.sole) }
candidate_of Contra n z slots at slot found turn = record {
  left = false;
  is = consumes z (place_of slots slot) (λ y place s. let f = slot_of Co n y slots at place found s in turn.first refl y f.0 f.1) (sole_of Contra n z slots slot turn.sole);
}

-- where there is a candidate, there is a sole use
pub record HasSoleAt (n : ℕ) (slots : List (Option Line)) : Type 0 where
  pub sign : Variance
  pub z : Dtv
  pub slot : ℕ
  pub sole : IsSoleAt sign n z slots slot

sole_by : (sign : Variance) (n : ℕ) (z : Dtv) (slots : List (Option Line)) → (slot : ℕ) × IsSoleAt sign n z slots slot → HasSoleAt n slots
sole_by sign n z slots (slot, sole) = record { sign = sign; z = z; slot = slot; sole = sole }

sole_candidate : (n : ℕ) (slots : List (Option Line)) (at : ℕ → ℕ → Bool) → IsFound slots at → {sign : Variance} {place : ℕ} {left : Bool} {z : Dtv} → IsCandidate n (lines_of slots) sign place left z → HasSoleAt n slots
sole_candidate n slots at found (defines z place s) = sole_by Co n z slots (slot_of Co n z slots at place found s)
sole_candidate n slots at found (consumes z place e s) = sole_by Contra n z slots (slot_of Contra n z slots at place found s)

pub candidate_sole : (n : ℕ) (slots : List (Option Line)) (at : ℕ → ℕ → Bool) → IsFound slots at → HasCandidate n (lines_of slots) → HasSoleAt n slots
candidate_sole n slots at found has = sole_candidate n slots at found has.is

-- the only slot with a use
pub sole_here : (sign : Variance) (n : ℕ) (z : Dtv) (slots : List (Option Line)) (index : ℕ → ℕ → Bool) (slot : ℕ) → AreUses sign slots index → ((i : ℕ) → 0 ≤ i → index n i ≡ true → slot ≤ i) → ((i : ℕ) → slot + 1 ≤ i → index n i ≡ true → ⊥) →
    z.base ≢ Exist n → Holds slots slot (use_of sign n z) → IsSoleAt sign n z slots slot
sole_here sign n z slots index slot uses least none other h = record {
  other_base = other;
  holds = h;
  only = λ i l g u. by i (uses.here n i l g u) (same_or_apart i slot);
}
  where
    by : (i : ℕ) → index n i ≡ true → (i ≡ slot) ⊎ (i ≢ slot) → i ≡ slot
    by i e (inl f) = f
    by i e (inr apart) = let le : slot ≤ i = least i (omega arith) e in absurd (none i (omega (arith, le, apart)) e)

-- the slot of a use holds a line of another form
pub sole_none : (sign : Variance) (n : ℕ) (slots : List (Option Line)) (index : ℕ → ℕ → Bool) (slot : ℕ) (line : Line) → AreUses sign slots index → index n slot ≡ true → Holds slots slot line →
    ((z : Dtv) → z.base ≢ Exist n → line ≡ use_of sign n z → ⊥) → (z : Dtv) (i : ℕ) → IsSoleAt sign n z slots i → ⊥
sole_none sign n slots index slot line uses e held form z i sole = by (uses.source n slot e)
  where
    by : (l : Line) × Holds slots slot l × HasUse sign n l → ⊥
    by (l, h, u) =
        let at : slot ≡ i = sole.only slot l h u in
        form z sole.other_base (one_line slots slot line (use_of sign n z) held (subst (λ k. Holds slots k (use_of sign n z)) (sym at) sole.holds))

-- no slot has a use
pub sole_absent : (sign : Variance) (n : ℕ) (slots : List (Option Line)) (index : ℕ → ℕ → Bool) → AreUses sign slots index → ((i : ℕ) → 0 ≤ i → index n i ≡ true → ⊥) → (z : Dtv) (i : ℕ) → IsSoleAt sign n z slots i → ⊥
sole_absent sign n slots index uses none z i sole = none i (omega arith) (uses.here n i (use_of sign n z) sole.holds (use_has sign n z))

pub uses_within : (sign : Variance) (n : ℕ) (slots : List (Option Line)) (index : ℕ → ℕ → Bool) (slot : ℕ) → AreUses sign slots index → index n slot ≡ true → slot < length slots
uses_within sign n slots index slot uses e = let s = uses.source n slot e in within slots slot s.0 s.1
