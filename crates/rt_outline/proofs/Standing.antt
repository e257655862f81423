-- Lines of which some stand.
use Rattle.std.proofs.Common.{◌≡◌, ℕ, suc, ◌<◌, inl, inr, Bool, true, false, List, [], ◌∷◌, Contains, Some, length, get_or, replicate, refl, ap, ◌∙◌, arith}
use Rattle.std.specs.Prelude.{slice_get}
use Rattle.std.proofs.lemmas.List.{get_or-replicate}
use Rattle.rt_base.proofs.Lists.{Contains-none, Contains-cons_cases}
use Rattle.rt_lines.specs.declared.line.Line.{Line}
use Rattle.rt_outline.specs.Lines.{standing}

-- a line at an index whose flag is set
abbrev pub Stands : List Line → List Bool → ℕ → Line → Type 0
Stands lines stands i l = (slice_get lines i ≡ Some l) × (get_or stands i false ≡ true)

pub standing_line : (lines : List Line) (stands : List Bool) (l : Line) → Contains (standing lines stands) l → (i : ℕ) × Stands lines stands i l
standing_line [] flags l c = absurd (Contains-none l c)
standing_line (k ∷ lines) [] l c = absurd (Contains-none l c)
standing_line (k ∷ lines) (true ∷ flags) l c = elim (Contains-cons_cases k (standing lines flags) l c) [
  | inl e ↦ (0, (ap Some e, refl))
  | inr d ↦ (let r : (i : ℕ) × Stands lines flags i l = standing_line lines flags l d in (suc r.0, r.1))
]
standing_line (k ∷ lines) (false ∷ flags) l c = let r : (i : ℕ) × Stands lines flags i l = standing_line lines flags l c in (suc r.0, r.1)

-- where all flags are set, all lines stand
pub standing_whole : (lines : List Line) (stands : List Bool) → ((i : ℕ) → i < length lines → get_or stands i false ≡ true) → standing lines stands ≡ lines
standing_whole [] stands whole = refl
standing_whole (l ∷ lines) [] whole = absurd (let e : get_or [] 0 false ≡ true = whole 0 (omega arith) in cc)
standing_whole (l ∷ lines) (true ∷ flags) whole = ap (λ ls. l ∷ ls) (standing_whole lines flags (λ i h. whole (suc i) (omega (arith, h))))
standing_whole (l ∷ lines) (false ∷ flags) whole = absurd (let e : get_or (false ∷ flags) 0 false ≡ true = whole 0 (omega arith) in cc)

pub all_set : (stands : List Bool) (count : ℕ) → stands ≡ replicate count true → (i : ℕ) → i < count → get_or stands i false ≡ true
all_set stands count e i h = ap (λ (xs : List Bool). get_or xs i false) e ∙ get_or-replicate count i true false h
