-- Lines of which some went that are no flow.
use Rattle.std.proofs.Common.{◌≡◌, ℕ, zero, suc, ◌≤◌, inl, inr, List, [], ◌∷◌, ◌++◌, true, false, Some, Contains, take, drop}
use Rattle.std.proofs.Common.{refl, sym, ap, subst, ◌∙◌, arith}
use Rattle.std.specs.Prelude.{◌↔◌, slice_get}
use Rattle.std.proofs.lemmas.List.{take-append-drop}
use Rattle.std.proofs.lemmas.Option.{get_or_from_slice_get, slice_get-get_or, slice_get_within}
use Rattle.rt_base.proofs.Lists.{Contains-cons_cases, Contains-here, Contains-none, Contains-there}
use Rattle.rt_lines.specs.declared.line.Line.{Line}
use Rattle.rt_lines.specs.declared.line.Line.TheVariants.{Low, Sub, Up}
use Rattle.rt_lines.specs.Orders.{Below}
use Rattle.rt_outline.specs.Lines.{HaveSameFlow}
use Rattle.rt_reduction.specs.Drops.{Drops}
use Rattle.rt_reduction.specs.Drops.Drops.{ends, goes, stays}
use Rattle.rt_reduction.specs.Emits.{is_flow}
use Rattle.rt_reduce.specs.Inside.Dropping.{AreLeft, AreShape}

at_index : (lines : List Line) (i : ℕ) (l : Line) → slice_get lines i ≡ Some l → Contains lines l
at_index lines i l at = (i, slice_get_within lines i l at, get_or_from_slice_get lines i l l at)

-- what is kept is among the lines
kept_among : (order : Below) (before lines kept : List Line) → Drops order before lines kept → (l : Line) → Contains kept l →
    Contains lines l
kept_among order before lines kept (ends _) l c = absurd (Contains-none l c)
kept_among order before _ kept (goes _ lines _ k d h) l c = Contains-there k lines l (kept_among order _ lines kept d l c)
kept_among order before _ _ (stays _ lines kept k d h) l c = elim (Contains-cons_cases k kept l c) [
  | inl e ↦ subst (Contains (k ∷ lines)) e (Contains-here k lines)
  | inr e ↦ Contains-there k lines l (kept_among order _ lines kept d l e)
]

-- lines from a place on stand at indices from there on
from_place : (n : ℕ) (lines : List Line) (l : Line) → Contains (drop n lines) l → (i : ℕ) × (n ≤ i) × (slice_get lines i ≡ Some l)
from_place zero lines l (i, less, e) = (i, omega arith, slice_get-get_or lines i l less ∙ ap Some e)
from_place (suc n) [] l c = absurd (Contains-none l c)
from_place (suc n) (k ∷ lines) l c = let s = from_place n lines l c in (suc s.0, omega (arith, s.1), s.2)

-- flow stands before what is no flow
flow_before : (xs ys : List Line) (kept : List Line) (i : ℕ) (l : Line) → ((k : Line) → Contains ys k → is_flow k ≡ false) →
    is_flow l ≡ true → slice_get (xs ++ ys) i ≡ Some l → slice_get (xs ++ kept) i ≡ Some l
flow_before [] ys kept i l none is at = let e : false ≡ true = sym (none l (at_index ys i l at)) ∙ is in absurd (cc)
flow_before (x ∷ xs) ys kept zero l none is at = at
flow_before (x ∷ xs) ys kept (suc i) l none is at = flow_before xs ys kept i l none is at

module _ (order : Below) (lines left : List Line) (first : ℕ) (are : AreLeft order lines first left) (shape : AreShape lines first) where
  behind : (l : Line) → Contains (drop first lines) l → is_flow l ≡ false
  behind l c = let s = from_place first lines l c in shape s.0 l s.1 s.2

  kept_behind : (l : Line) → Contains are.kept l → is_flow l ≡ false
  kept_behind l c = behind l (kept_among order (take first lines) (drop first lines) are.kept are.drops l c)

  same_at : (i : ℕ) (l : Line) → is_flow l ≡ true → (slice_get lines i ≡ Some l) ↔ (slice_get left i ≡ Some l)
  same_at i l is = (
    λ at. subst (λ ls. slice_get ls i ≡ Some l) (sym are.stand) (flow_before (take first lines) (drop first lines) are.kept i l behind is
        (subst (λ ls. slice_get ls i ≡ Some l) (sym (take-append-drop first lines)) at)),
    λ at. subst (λ ls. slice_get ls i ≡ Some l) (take-append-drop first lines)
        (flow_before (take first lines) are.kept (drop first lines) i l kept_behind is (subst (λ ls. slice_get ls i ≡ Some l) are.stand at)),
  )

  pub same_flow : ((l : Line) → Contains left l → Contains lines l) → HaveSameFlow lines left
  same_flow stood = record {
    subtypes = λ i x y. same_at i (Sub x y) refl;
    lows = λ i k x. same_at i (Low k x) refl;
    ups = λ i k x. same_at i (Up x k) refl;
    rest = stood;
  }
