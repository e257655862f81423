-- Fronts of variables with a letter more.
use Rattle.std.proofs.Common.{◌≡◌, ◌⊎◌, inl, inr, List, [], ◌∷◌, ◌++◌, refl, ap, ◌∙◌}
use Rattle.rt_lines.specs.declared.label.Label.{Label}
use Rattle.rt_lines.specs.declared.variable.Base.{Base}
use Rattle.rt_lines.specs.declared.variable.Dtv.{Dtv}
use Rattle.rt_rules.specs.Rules.{longer}
use Rattle.rt_shape.specs.Graphs.{bare}
use Rattle.rt_shape.specs.Shapes.{IsFront}

empty_front : (w u : List Label) → w ++ u ≡ [] → w ≡ []
empty_front [] u e = refl
empty_front (a ∷ w) u e = absurd (cc)

first_letter : (a b : Label) (w v : List Label) → ◌≡◌ {A = List Label} (a ∷ w) (b ∷ v) → a ≡ b
first_letter a b w v e = cc

other_letters : (a b : Label) (w v : List Label) → ◌≡◌ {A = List Label} (a ∷ w) (b ∷ v) → w ≡ v
other_letters a b w v e = cc

-- a front of a word with a letter more is the whole, or a front of the word
front_cases : (w u v : List Label) (l : Label) → w ++ u ≡ v ++ l ∷ [] → (w ≡ v ++ l ∷ []) ⊎ ((t : List Label) × (w ++ t ≡ v))
front_cases [] u v l e = inr (v, refl)
front_cases (a ∷ w) u [] l e =
    inl (ap (λ k. k ∷ w) (first_letter a l (w ++ u) [] e) ∙ ap (λ k. l ∷ k) (empty_front w u (other_letters a l (w ++ u) [] e)))
front_cases (a ∷ w) u (b ∷ v) l e = by (front_cases w u v l (other_letters a b (w ++ u) (v ++ l ∷ []) e))
  where
    same : a ≡ b
    same = first_letter a b (w ++ u) (v ++ l ∷ []) e

    by : (w ≡ v ++ l ∷ []) ⊎ ((t : List Label) × (w ++ t ≡ v)) →
        (a ∷ w ≡ (b ∷ v) ++ l ∷ []) ⊎ ((t : List Label) × ((a ∷ w) ++ t ≡ b ∷ v))
    by (inl f) = inl (ap (λ k. k ∷ w) same ∙ ap (λ k. b ∷ k) f)
    by (inr (t, f)) = inr (t, ap (λ k. k ∷ (w ++ t)) same ∙ ap (λ k. b ∷ k) f)

pub front_of_longer : (y x : Dtv) (l : Label) → IsFront y (longer x l) → (y ≡ longer x l) ⊎ IsFront y x
front_of_longer y x l (u, e) = by (front_cases y.word u x.word l (ap (λ (v : Dtv). v.word) e))
  where
    base : y.base ≡ x.base
    base = ap (λ (v : Dtv). v.base) e

    by : (y.word ≡ x.word ++ l ∷ []) ⊎ ((t : List Label) × (y.word ++ t ≡ x.word)) → (y ≡ longer x l) ⊎ IsFront y x
    by (inl f) = inl (λ i. record { base = base i; word = f i })
    by (inr (t, f)) = inr (t, λ i. record { base = base i; word = f i })

pub front_of_bare : (y : Dtv) (b : Base) → IsFront y (bare b) → y ≡ bare b
front_of_bare y b (u, e) =
    let base : y.base ≡ b = ap (λ (v : Dtv). v.base) e in
    let word : y.word ≡ [] = empty_front y.word u (ap (λ (v : Dtv). v.word) e) in
    (λ i. record { base = base i; word = word i })
