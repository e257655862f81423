-- What becomes of lines, where more is known.
use Rattle.std.proofs.Common.{◌≡◌, ℕ, zero, suc, ◌+◌, ◌<◌, ◌≤◌, ◌⊎◌, inl, inr, List, [], ◌∷◌, ◌++◌, true, false, length, replicate}
use Rattle.std.proofs.Common.{refl, sym, ap, subst, ◌∙◌, get_or, arith}
use Rattle.std.proofs.lemmas.List.{get_or-replicate, get_or_past}
use Rattle.std.proofs.lemmas.Option.{get_or_from_slice_get, slice_get-get_or}
use Rattle.rt_lines.specs.declared.line.Line.{Line}
use Rattle.rt_lines.specs.Orders.{Below}
use Rattle.rt_sure.specs.declared.fate.Fate.{Fate}
use Rattle.rt_sure.specs.declared.fate.Fate.TheVariants.{Stays, Goes, Open}
use Rattle.rt_sure.specs.Fates.{fate_at}
use Rattle.rt_reduce.specs.Inside.Dropping.{AreFated, IsSettled, IsStaying}

-- a fate that is put behind others
pushed_cases : (fates : List Fate) (f : Fate) (j : ℕ) → j < length fates + 1 →
    ((j < length fates) × (fate_at (fates ++ f ∷ []) j ≡ fate_at fates j)) ⊎ ((j ≡ length fates) × (fate_at (fates ++ f ∷ []) j ≡ f))
pushed_cases [] f zero h = inr (refl, refl)
pushed_cases [] f (suc j) h = absurd (omega (arith, h))
pushed_cases (g ∷ fates) f zero h = inl (omega arith, refl)
pushed_cases (g ∷ fates) f (suc j) h = by (pushed_cases fates f j (omega (arith, h)))
  where
    by : ((j < length fates) × (fate_at (fates ++ f ∷ []) j ≡ fate_at fates j)) ⊎
        ((j ≡ length fates) × (fate_at (fates ++ f ∷ []) j ≡ f)) →
        ((suc j < suc (length fates)) × (fate_at (fates ++ f ∷ []) j ≡ fate_at fates j)) ⊎
        ((suc j ≡ suc (length fates)) × (fate_at (fates ++ f ∷ []) j ≡ f))
    by (inl (k, e)) = inl (omega (arith, k), e)
    by (inr (k, e)) = inr (ap suc k, e)

pub more_settled : (order : Below) (lines : List Line) (fates old new : List Fate) (i : ℕ) (f d : Fate) → new ≡ old ++ f ∷ [] →
    length old ≡ i → i < length fates → IsSettled order lines i (get_or fates i d) f →
    ((j : ℕ) → j < i → IsSettled order lines j (fate_at fates j) (fate_at old j)) →
    (j : ℕ) → j < i + 1 → IsSettled order lines j (fate_at fates j) (fate_at new j)
more_settled order lines fates old new i f d is long within here are j h =
    subst (λ fs. IsSettled order lines j (fate_at fates j) (fate_at fs j)) (sym is) (by (pushed_cases old f j (omega (arith, h, long))))
  where
    there : get_or fates i d ≡ fate_at fates i
    there = sym (get_or_from_slice_get fates i (get_or fates i d) Open (slice_get-get_or fates i d within))

    by : ((j < length old) × (fate_at (old ++ f ∷ []) j ≡ fate_at old j)) ⊎ ((j ≡ length old) × (fate_at (old ++ f ∷ []) j ≡ f)) →
        IsSettled order lines j (fate_at fates j) (fate_at (old ++ f ∷ []) j)
    by (inl (k, e)) = subst (IsSettled order lines j (fate_at fates j)) (sym e) (are j (omega (arith, k, long)))
    by (inr (k, e)) =
        let same : j ≡ i = k ∙ long in
        subst (IsSettled order lines j (fate_at fates j)) (sym e)
        (subst (λ n. IsSettled order lines n (fate_at fates n) f) (sym same)
        (subst (λ g. IsSettled order lines i g f) there here))

before_or_past : (i j : ℕ) → (i < j) ⊎ (j ≤ i)
before_or_past i j = grind arith

module _ (order : Below) (lines : List Line) (fates now : List Fate) (each : length fates ≡ length lines)
    (long : length now ≡ length fates)
    (are : (j : ℕ) → j < length fates → IsSettled order lines j (fate_at fates j) (fate_at now j))
    (fated : AreFated order lines (replicate (length lines) true) fates) where
  everywhere : (j : ℕ) → IsSettled order lines j (fate_at fates j) (fate_at now j)
  everywhere j = elim (before_or_past j (length fates)) [
    | inl h ↦ are j h
    | inr h ↦ inl (get_or_past now j Open (omega (arith, h, long)) ∙ sym (get_or_past fates j Open h))
  ]

  still : (j : ℕ) → fate_at fates j ≡ Stays → IsSettled order lines j (fate_at fates j) (fate_at now j) → fate_at now j ≡ Stays
  still j s (inl e) = e ∙ s
  still j s (inr (e, f, g)) = f

  stays : (j : ℕ) → fate_at now j ≡ Stays → IsSettled order lines j (fate_at fates j) (fate_at now j) → IsStaying order lines j
  stays j s (inl e) = fated.staying j (sym e ∙ s)
  stays j s (inr (e, f, g)) = g

  goes : (j : ℕ) → fate_at now j ≡ Goes → IsSettled order lines j (fate_at fates j) (fate_at now j) → fate_at fates j ≡ Goes
  goes j s (inl e) = sym e ∙ s
  goes j s (inr (e, f, g)) = absurd (cc)

  within : (j : ℕ) → fate_at now j ≡ Stays → j < length lines
  within j s = elim (before_or_past j (length now)) [
    | inl h ↦ omega (arith, h, each, long)
    | inr h ↦ (let e : fate_at now j ≡ Open = get_or_past now j Open h in absurd (cc))
  ]

  -- what was known stays so
  pub all_settled : AreFated order lines (replicate (length lines) true) now
  all_settled = record {
    staying = λ j s. stays j s (everywhere j);
    going = λ i l at e left has before all.
        fated.going i l at (goes i e (everywhere i)) left (λ j m f s. has j m f (still j s (everywhere j))) before all;
    stand = λ j s. get_or-replicate (length lines) j true false (within j s);
  }

  pub still_staying : (j : ℕ) → fate_at fates j ≡ Stays → fate_at now j ≡ Stays
  still_staying j s = still j s (everywhere j)
