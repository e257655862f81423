-- Lines that are told, one after the other.
use Rattle.std.proofs.Common.{◌≡◌, ◌≢◌, ℕ, ◌+◌, ◌<◌, ◌≤◌, ◌⊎◌, inl, inr, Bool, true, false, Some, List, [], ◌∷◌, ◌++◌, Contains, length, get_or, take, sym, ap, subst, ◌∙◌, arith, length-append}
use Rattle.std.specs.Prelude.{slice_get, slice_index_or}
use Rattle.std.proofs.lemmas.Bool.{cases_eq, cases_lt}
use Rattle.std.proofs.lemmas.List.{get_or_append_left, get_or_push, get_or_past}
use Rattle.std.proofs.lemmas.List.Elements.{Contains-append_left, Contains-push}
use Rattle.std.proofs.lemmas.Option.{get_or_from_slice_get}
use Rattle.rt_base.proofs.Lists.{take-next}
use Rattle.rt_lines.specs.declared.line.Line.{Line}
use Rattle.rt_lines.specs.Orders.{Below}
use Rattle.rt_rules.specs.Rules.{Derivable}

-- each flag that is set is of a line that the lines before it derive
abbrev pub AreDerived : List Line → List Bool → Type 0
AreDerived lines told = (order : Below) (i : ℕ) (l : Line) → slice_get lines i ≡ Some l → slice_index_or told i false ≡ true → Derivable order (take i lines) l

module _ (lines : List Line) (i : ℕ) (line : Line) (less : i < length lines) (at : line ≡ get_or lines i line) where
  -- the lines before the next
  pub earlier-kept : (k : Line) → Contains (take i lines) k → Contains (take (i + 1) lines) k
  earlier-kept k c = subst (λ ls. Contains ls k) (sym (take-next lines i line less at)) (Contains-append_left (take i lines) (line ∷ []) k c)

  pub earlier-last : Contains (take (i + 1) lines) line
  earlier-last = subst (λ ls. Contains ls line) (sym (take-next lines i line less at)) (Contains-push (take i lines) line)

  -- a flag more
  pub derived-more : (told new : List Bool) (b : Bool) → new ≡ told ++ b ∷ [] → length told ≡ i → AreDerived lines told → (b ≡ true → (order : Below) → Derivable order (take i lines) line) → AreDerived lines new
  derived-more told new b is each derived last order j l e f = by (cases_lt j i) (cases_eq j i)
    where
      flag : slice_index_or (told ++ b ∷ []) j false ≡ true
      flag = subst (λ fs. slice_index_or fs j false ≡ true) is f

      here : j ≡ i → Derivable order (take j lines) l
      here same =
          let set : b ≡ true = sym (get_or_push told b false j (each ∙ sym same)) ∙ flag in
          let read : get_or lines j line ≡ l = get_or_from_slice_get lines j l line e in
          let this : line ≡ l = at ∙ ap (λ n. get_or lines n line) (sym same) ∙ read in
          subst (λ n. Derivable order (take n lines) l) (sym same) (subst (Derivable order (take i lines)) this (last set order))

      past : i ≤ j → j ≢ i → slice_index_or (told ++ b ∷ []) j false ≡ false
      past more other = get_or_past (told ++ b ∷ []) j false (omega (arith, length-append told (b ∷ [])))

      by : (j < i) ⊎ (i ≤ j) → (j ≡ i) ⊎ (j ≡ i → ⊥) → Derivable order (take j lines) l
      by (inl before) same = derived order j l e (sym (get_or_append_left told (b ∷ []) false j (omega arith)) ∙ flag)
      by (inr more) (inl same) = here same
      by (inr more) (inr other) = absurd (let none = past more other in cc)
