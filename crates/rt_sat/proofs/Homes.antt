-- Where states stand in families, and steps to there.
use Rattle.std.proofs.Common.{◌≡◌, ℕ, ◌<◌, inl, inr, List, [], ◌∷◌, ◌++◌, Option, Some, subst}
use Rattle.std.proofs.lemmas.List.Elements.{Contains-push_cases}
use Rattle.rt_grid.specs.declared.grid.Step.{Step}
use Rattle.rt_grid.specs.Tables.{size_of}
use Rattle.rt_sat.specs.declared.family.Family.{Family}
use Rattle.rt_sat.specs.declared.family.Home.{Home}
use Rattle.rt_sat.specs.declared.filling.Turned.{Turned}
use Rattle.rt_sat.specs.Hints.{grid_of, AreInClass}
use Rattle.rt_sat.specs.Inside.Filling.{AreInFamily, AreTurnedIn, IsInFamily}

-- a place more, if there is one
pub homes_more : (family : Family) (homes : List (Option Home)) (home : Option Home) → AreInFamily family homes → ((h : Home) → home ≡ Some h → IsInFamily family h) → AreInFamily family (homes ++ home ∷ [])
homes_more family homes home are is h there = elim (Contains-push_cases homes home (Some h) there) [
  | inl old ↦ are h old
  | inr same ↦ is h same
]

-- a step more
pub steps_more : (family : Family) (class : ℕ) (steps : List Step) (step : Step) → AreInClass family class steps → step.to < size_of (grid_of family class) → AreInClass family class (steps ++ step ∷ [])
steps_more family class steps step are is s there = elim (Contains-push_cases steps step s there) [
  | inl old ↦ are s old
  | inr same ↦ subst (λ (t : Step). t.to < size_of (grid_of family class)) same is
]

-- places more
pub turned_more : (size : ℕ) (all : List Turned) (one : Turned) → AreTurnedIn size all → one.forth < size → one.back < size → AreTurnedIn size (all ++ one ∷ [])
turned_more size all one are forth back t there = elim (Contains-push_cases all one t there) [
  | inl old ↦ are t old
  | inr same ↦ subst (λ (t : Turned). (t.forth < size) × (t.back < size)) same (forth, back)
]
